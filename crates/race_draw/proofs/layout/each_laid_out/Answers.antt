use Rattle.std.proofs.Common.{◌≡◌, ◌+◌, List, All, Some, length, slice_get, ap, ◌∙◌, sym, subst, arith, length-append}
use Rattle.std.proofs.lemmas.{List.Elements.All-push, Option.slice_get-get_or}
use Rattle.race_draw.{specs.{Layout.LayoutState, Text.CanBeDrawn}, proofs.LayoutLemmas.laid_more}
use Rattle.race_draw.proofs.layout.each_laid_out.Goals as goal

pub loop-race-preserved : goal.loop-race-preserved
loop-race-preserved g c =
    let old = c.loop-race.layouts.items in
    let items = c.in_ok-push.ensures.items in
    let as_many = c.loop-race.invariant.as_many in
    let longer : length c.push.new.self.items ≡ length old + 1 = ap length items ∙ length-append old _ in
    record {
      as_many = omega (arith, longer, as_many);
      each = λ k q x here there. laid_more c.args.trace.now c.args.edges.now c.args.races.now old c.loop-race.race-index _ c.in_ok-lay_out.field-0
          as_many (slice_get-get_or c.args.races.now c.loop-race.race-index _ c.loop-race-test.true) c.in_ok-lay_out.ensures.laid_out c.loop-race.invariant.each k q x here
          (subst (λ (l : List LayoutState). slice_get l k ≡ Some x) items there);
      drawable = subst (All (CanBeDrawn c.args.trace.now)) (sym items)
          (All-push (CanBeDrawn c.args.trace.now) old _ c.loop-race.invariant.drawable c.in_ok-lay_out.ensures.drawable);
    }
