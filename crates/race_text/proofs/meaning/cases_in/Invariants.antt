use Rattle.std.proofs.Common.{◌≡◌, [], Ok, length}
use Rattle.race_text.specs.{Words.parts_left, Select.pieces_of, Meaning.{case_in, pieces_on}}
use Rattle.race_text.proofs.meaning.cases_in.Given as goal

abbrev pub invariant-loop-left : goal.invariant-loop-left
invariant-loop-left g l =
    pieces_on (case_in l.decls.declarations) l.cases (parts_left 44 l.left) ≡ pieces_on (case_in l.decls.declarations) (Ok []) (pieces_of l.fn.word)

abbrev pub decreases-loop-left : goal.decreases-loop-left
decreases-loop-left g l = length (parts_left 44 l.left)
