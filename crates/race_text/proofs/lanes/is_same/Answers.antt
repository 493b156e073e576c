use Rattle.std.proofs.Common.{◌-◌, length, arith}
use Rattle.std.proofs.lemmas.Grind.{same_number_lists}
use Rattle.race_text.proofs.LaneLemmas.{same_on}
use Rattle.race_text.proofs.lanes.is_same.Goals as goal

pub loop-at-init : goal.loop-at-init
loop-at-init c k below = absurd (omega (arith, below))

pub loop-at-preserved : goal.loop-at-preserved
loop-at-preserved c =
    same_on c.args.left.now c.args.right.now c.loop-at.at 16 (c.is_same_at.ensures (c.if-not-is_same_at.false)) c.loop-at.invariant

pub returns : goal.returns
returns c all =
    same_number_lists c.args.left.now c.args.right.now (omega arith)
    (λ k below. same_on c.args.left.now c.args.right.now (length c.args.left.now - 16) 16 (c.is_same_at-2.ensures all)
    (λ i before. c.loop-at.invariant i (omega (arith, before))) k (omega (arith, below)))
