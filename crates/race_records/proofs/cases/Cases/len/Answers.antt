use Rattle.std.proofs.Common.{length, List, sym, ap, ◌∙◌}
use Rattle.race_records.{specs.declared.cases.Case.Case, proofs.CaseLemmas.counted_len}
use Rattle.race_records.proofs.cases.Cases.len.Goals as goal

pub returns-clause-len : goal.returns-clause-len
returns-clause-len c =
    let chans = c.self.inside.chans in
    sym (counted_len chans c.self.inside.sends c.self.inside.nils c.self.inside.count c.self.told c.self.invariant.0) ∙ ap (λ (cases : List Case). length cases) c.self.view_is
