use Rattle.std.proofs.Common.{length, List, ap, arith}
use Rattle.race_records.{specs.declared.cases.Case.Case, proofs.CaseLemmas.counted_len}
use Rattle.race_records.proofs.cases.Cases.copy.Goals as goal

pub returns-clause-few : goal.returns-clause-few
returns-clause-few c =
    let len = counted_len c.self.inside.chans c.self.inside.sends c.self.inside.nils c.self.inside.count c.self.told c.self.invariant.0 in
    omega (arith, len, ap (λ (cases : List Case). length cases) c.self.view_is, c.self.invariant.0)
