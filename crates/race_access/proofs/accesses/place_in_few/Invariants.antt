use Rattle.std.{proofs.Common.{◌<◌, ◌≤◌, ◌-◌, length}, specs.List.AllWithin}
use Rattle.race_access.specs.declared.access.Access.{Access}
use Rattle.race_access.proofs.accesses.place_in_few.Given as goal

-- those before the place are of lower goroutines
abbrev pub invariant-loop-place : goal.invariant-loop-place
invariant-loop-place l = (l.place ≤ length l.reads) × AllWithin (λ (e : Access). e.who < l.who) l.reads 0 l.place

abbrev pub decreases-loop-place : goal.decreases-loop-place
decreases-loop-place l = length l.reads - l.place
