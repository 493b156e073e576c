use Rattle.std.proofs.Common.{◌≡◌, ◌-◌, slice_get, sym, ap, ◌∙◌, ◌∷◌, arith}
use Rattle.race_text.specs.Words.{parts_of, parts_left}
use Rattle.race_explain.proofs.MarkedLemmas.{drop_next, drop_first, drop_last}
use Rattle.race_explain.proofs.line.cut_out.Goals as goal

pub loop-preserved : goal.loop-preserved
loop-preserved c =
    drop_next (parts_of c.args.bytes.now) c.loop.counter c.cut_at.result.0.now (parts_of c.in-Some.rest.now)
    (c.loop.invariant ∙ c.cut_at.ensures ∙ ap (λ r. c.cut_at.result.0.now ∷ parts_left 10 r) c.in-Some.is)

pub returns-in_default : goal.returns-in_default
returns-in_default c =
    sym (drop_last (parts_of c.args.bytes.now) c.loop.counter (c.args.number - 1) c.cut_at.result.0.now
    (c.loop.invariant ∙ c.cut_at.ensures ∙ ap (λ r. c.cut_at.result.0.now ∷ parts_left 10 r) c.in_default.is)
    (omega (arith, c.saturating_sub-end.ensures, c.loop-test.true)))

pub returns : goal.returns
returns c =
    let number : c.args.number - 1 ≡ c.loop.counter = omega (arith, c.saturating_sub-end.ensures, c.loop-test.false, c.loop.auto.counter-end) in
    sym (ap (slice_get (parts_of c.args.bytes.now)) number
    ∙ drop_first (parts_of c.args.bytes.now) c.loop.counter c.cut_at-2.result.0.now _ (c.loop.invariant ∙ c.cut_at-2.ensures))
