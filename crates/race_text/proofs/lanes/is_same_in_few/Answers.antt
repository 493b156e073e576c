use Rattle.std.proofs.Common.{◌-◌, length, arith}
use Rattle.std.proofs.lemmas.Grind.{same_number_lists}
use Rattle.race_text.proofs.LaneLemmas.{same_on}
use Rattle.race_text.proofs.lanes.is_same_in_few.Goals as goal

pub returns-then-is_same_in_eight : goal.returns-then-is_same_in_eight
returns-then-is_same_in_eight c all =
    let left = c.args.left.now in
    let right = c.args.right.now in
    let first = same_on left right 0 8 (c.is_same_in_eight.ensures c.if-is_same_in_eight.true) (λ k below. absurd (omega (arith, below))) in
    same_number_lists left right c.requires.length
    (λ k below. same_on left right (length left - 8) 8 (c.is_same_in_eight-then-is_same_in_eight.ensures all)
    (λ i before. first i (omega (arith, before))) k (omega (arith, below)))
