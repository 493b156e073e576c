-- The first offer that receives from the channel is found.
use Rattle.std.proofs.Common.{◌<◌, ◌||◌, ◌∙◌, true, false, length, sym, arith}
use Rattle.std.proofs.lemmas.List.Folds.{list_any_at, list_any_more}
use Rattle.race_legal.proofs.Searches.{passes_at}
use Rattle.race_requests.specs.Waiting as list
use Rattle.race_requests.proofs.board.one_receives.Goals as goal

pub returns-then-receives_from : goal.returns-then-receives_from
returns-then-receives_from c =
    let p = list.receives_from c.args.chan in
    let within : c.loop-k.k < length c.args.offers.now = omega (arith, c.len-k-end.ensures.len, c.loop-k-test.true) in
    sym (list_any_at p c.args.offers.now c.loop-k.k c.get.result within
    (passes_at p c.args.offers.now c.loop-k.k c.get.result c.receives_from.result true c.get.ensures c.receives_from.ensures c.if-receives_from.true))

pub loop-k-preserved : goal.loop-k-preserved
loop-k-preserved c =
    let p = list.receives_from c.args.chan in
    let within : c.loop-k.k < length c.args.offers.now = omega (arith, c.len-k-end.ensures.len, c.loop-k-test.true) in
    list_any_more p c.args.offers.now c.loop-k.k c.get.result within
    ∙ (λ i.
    c.loop-k.invariant i
    || passes_at p c.args.offers.now c.loop-k.k c.get.result c.receives_from.result false c.get.ensures c.receives_from.ensures c.if-receives_from.false i)
