use Rattle.std.{proofs.Common.{◌≡◌, true, take}, specs.List.list_all}
use Rattle.race_records.specs.{declared.kind.Kind.Kind, Declarations.count_of, Operands.case_is_in_range}
use Rattle.race_records.proofs.declarations.Decls.cases_fit.Given as goal

-- the cases before number k fit
abbrev pub invariant-loop-k : goal.invariant-loop-k
invariant-loop-k g l = list_all (case_is_in_range (count_of Kind.Chan l.self.declarations)) (take l.k l.cases) ≡ true
