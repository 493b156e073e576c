use Rattle.std.proofs.Common.{◌≡◌, true, false, sym, ◌∙◌}
use Rattle.race_clock.proofs.JoinLemmas.{covered_one, joined_nothing}
use Rattle.race_clock.proofs.clock.covers_each.Goals as goal
use Rattle.race_clock.proofs.clock.covers_each.Goals.{then-counts-index, else-counts-index}

pub loop-index-init : goal.loop-index-init
loop-index-init c = λ _. joined_nothing c.args.counts.now

pub loop-index-preserved : goal.loop-index-preserved
loop-index-preserved c = elim c.if-counts-index.branch [
  | then-counts-index w ↦ λ none. absurd (let other : true ≡ false = sym w.below-is ∙ none in cc)
  | else-counts-index w ↦ λ none. covered_one c.args.counts.now c.args.other.now c.loop-index.index c.loop-index-test.true c.requires
      (c.loop-index.invariant (sym w.below-is ∙ none)) w.if-counts-index.false
]
