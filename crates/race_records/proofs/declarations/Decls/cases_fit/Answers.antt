use Rattle.std.proofs.{Common.{◌<◌, ◌&&◌, ◌∙◌, length, sym, ap, arith}, lemmas.List.Folds.{list_all_at, list_all_more}}
use Rattle.std.proofs.lemmas.Option.{get_or_from_slice_get}
use Rattle.race_records.specs.{declared.kind.Kind.Kind, Declarations.count_of, Operands.case_is_in_range}
use Rattle.race_records.proofs.declarations.Decls.cases_fit.Goals as goal

pub returns-then-not-chan_fits : goal.returns-then-not-chan_fits
returns-then-not-chan_fits g c =
    let cases = c.args.cases.now in
    let case = c.get.result in
    let fits = case_is_in_range (count_of Kind.Chan c.args.self.now.declarations) in
    let within : c.loop-k.k < length cases = omega (arith, c.len-k-end.ensures.len, c.loop-k-test.true) in
    sym (list_all_at fits cases c.loop-k.k case within
    (ap fits (get_or_from_slice_get cases c.loop-k.k case case c.get.ensures) ∙ sym c.if-not-chan_fits.ensures))

pub loop-k-preserved : goal.loop-k-preserved
loop-k-preserved g c =
    let cases = c.args.cases.now in
    let case = c.get.result in
    let fits = case_is_in_range (count_of Kind.Chan c.args.self.now.declarations) in
    let within : c.loop-k.k < length cases = omega (arith, c.len-k-end.ensures.len, c.loop-k-test.true) in
    list_all_more fits cases c.loop-k.k case within
    ∙ (λ i. c.loop-k.invariant i && (ap fits (get_or_from_slice_get cases c.loop-k.k case case c.get.ensures) ∙ sym c.if-not-chan_fits.ensures) i)
