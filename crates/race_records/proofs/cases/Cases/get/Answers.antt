use Rattle.std.proofs.Common.{◌≡◌, length, take, List, slice_get, sym, ap, ◌∙◌}
use Rattle.race_records.{specs.{declared.cases.Case.Case, Cases.cases_of}, proofs.CaseLemmas.counted_len}
use Rattle.race_records.proofs.cases.Cases.get.Goals as goal

pub returns : goal.returns
returns c =
    let chans = c.self.inside.chans in
    let sends = c.self.inside.sends in
    let nils = c.self.inside.nils in
    let len = counted_len chans sends nils c.self.inside.count c.self.told c.self.invariant.0 in
    let counted : c.self.inside.count ≡ c.len.result = sym len ∙ ap (λ (cases : List Case). length cases) c.self.view_is ∙ sym c.len.ensures.len in
    ap (λ cases. slice_get cases c.args.k) (sym c.self.view_is ∙ ap (λ n. cases_of (take n chans) sends nils) counted) ∙ c.case_in.ensures
