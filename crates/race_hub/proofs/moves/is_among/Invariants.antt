use Rattle.std.{proofs.Common.{◌≡◌, ◌==◌, false, take}, specs.List.list_any}
use Rattle.race_hub.proofs.moves.is_among.Given as goal

abbrev pub invariant-loop-at : goal.invariant-loop-at
invariant-loop-at l = list_any (λ n. n == l.number) (take l.at l.numbers) ≡ false
