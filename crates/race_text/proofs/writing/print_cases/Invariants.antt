use Rattle.std.{proofs.Common.{Ok, take}, specs.List.flat_map}
use Rattle.race_records.specs.Page.{Printing}
use Rattle.race_text.proofs.CasePieces.{all_pieces}
use Rattle.race_text.proofs.writing.print_cases.Given as goal

-- the cases before number k are printed
abbrev pub invariant-loop-k : goal.invariant-loop-k
invariant-loop-k g l = Printing g.W.Write.contents (Ok tt) l.initial.sink l.sink l.initial.page l.page
    (flat_map (λ w. w) (take l.k (all_pieces l.decls.declarations l.cases)))
