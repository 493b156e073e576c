use Rattle.std.proofs.Common.{◌≡◌, length, map}
use Rattle.race_script.specs.Form.{lookup}
use Rattle.race_script.proofs.form.lookup.Given as goal

abbrev pub invariant-loop-table : goal.invariant-loop-table
invariant-loop-table l = lookup (map (λ entry. (entry.0.now, entry.1)) l.table) l.word ≡ lookup (map (λ entry. (entry.0.now, entry.1)) l.initial.table) l.word

abbrev pub decreases-loop-table : goal.decreases-loop-table
decreases-loop-table l = length l.table
