use Rattle.std.proofs.{Common.{refl, ◌∙◌}, lemmas.List.Elements.All-get_or}
use Rattle.race_records.specs.Shorts.{IsNoted}
use Rattle.race_records.proofs.shorts.put_each.Goals as goal

pub loop-at-init : goal.loop-at-init
loop-at-init g c = (refl, λ rows from slots. slots)

pub loop-at-preserved : goal.loop-at-preserved
loop-at-preserved g c = (
  c.put.ensures.len ∙ c.loop-at.invariant.0,
  λ rows from slots.
      c.put.ensures.noted rows (c.loop-at.invariant.1 rows from slots) (All-get_or (IsNoted rows) c.args.from.now c.loop-at.at _ c.loop-at-test.true from),
)
