use Rattle.std.proofs.{Common.◌≡◌, lemmas.Bool.Decides.same_from_decides}
use Rattle.race_records.specs.Cases.{same_cases, same_cases-Decides}
use Rattle.race_records.proofs.cases.CasesPartialEq.eq.Goals as goal

pub returns-clause-eq : goal.returns-clause-eq
returns-clause-eq c =
    let cases = c.args.self.now in
    let others = c.args.other.now in
    same_from_decides {P = cases ≡ others} c.are_same.result (same_cases cases others) c.are_same.ensures (same_cases-Decides cases others)
