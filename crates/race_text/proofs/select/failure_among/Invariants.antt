use Rattle.std.proofs.Common.{◌≡◌, length, map}
use Rattle.race_text.specs.Select.{failure_among}
use Rattle.race_text.proofs.select.failure_among.Given as goal

abbrev pub invariant-loop-table : goal.invariant-loop-table
invariant-loop-table l = failure_among (map (λ entry. (entry.0.now, entry.1)) l.table) l.word
    ≡ failure_among (map (λ entry. (entry.0.now, entry.1)) l.initial.table) l.word

abbrev pub decreases-loop-table : goal.decreases-loop-table
decreases-loop-table l = length l.table
