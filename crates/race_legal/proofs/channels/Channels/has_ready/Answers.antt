-- The first case that is ready is found.
use Rattle.std.proofs.Common.{◌<◌, ◌||◌, ◌∙◌, true, false, length, sym, arith}
use Rattle.std.proofs.lemmas.List.Folds.{list_any_at, list_any_more}
use Rattle.race_records.specs.Operands.{case_is_in_range}
use Rattle.race_legal.{specs.RulesKept.is_ready_in, proofs.Searches.{each_passes, passes_at}}
use Rattle.race_legal.proofs.channels.Channels.has_ready.Goals as goal

pub is_ready-requires : goal.is_ready-requires
is_ready-requires g c = each_passes (case_is_in_range (length c.args.self.now.capacities)) c.args.cases.now c.loop-k.k c.get.result c.requires c.get.ensures

pub returns-then-is_ready : goal.returns-then-is_ready
returns-then-is_ready g c =
    let within : c.loop-k.k < length c.args.cases.now = omega (arith, c.len-k-end.ensures.len, c.loop-k-test.true) in
    sym (list_any_at (is_ready_in c.args.self.now) c.args.cases.now c.loop-k.k c.get.result within
    (passes_at (is_ready_in c.args.self.now) c.args.cases.now c.loop-k.k c.get.result
    c.is_ready.result true c.get.ensures c.is_ready.ensures c.if-is_ready.true))

pub loop-k-preserved : goal.loop-k-preserved
loop-k-preserved g c =
    let within : c.loop-k.k < length c.args.cases.now = omega (arith, c.len-k-end.ensures.len, c.loop-k-test.true) in
    list_any_more (is_ready_in c.args.self.now) c.args.cases.now c.loop-k.k c.get.result within
    ∙ (λ i.
    c.loop-k.invariant i
    || passes_at (is_ready_in c.args.self.now) c.args.cases.now c.loop-k.k c.get.result
    c.is_ready.result false c.get.ensures c.is_ready.ensures c.if-is_ready.false i)
