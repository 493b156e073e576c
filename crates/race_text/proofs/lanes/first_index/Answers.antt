use Rattle.std.proofs.Common.{ℕ, ◌==◌, position, sym, ap, ◌∙◌, arith}
use Rattle.race_text.proofs.{CutLemmas.rest_is, LaneLemmas.{found_in_lanes, none_in_lanes, first_behind, none_behind}}
use Rattle.race_text.proofs.lanes.first_index.Goals as goal

pub returns-then-found-ne0 : goal.returns-then-found-ne0
returns-then-found-ne0 c =
    found_in_lanes (λ b. b == c.args.byte) c.args.bytes.now 0 c.loop-at.at 64 c.equal_in-found.result c.equal_in-found.ensures
    (omega arith) (omega arith) c.loop-at.invariant.1 (omega arith)

pub loop-at-preserved : goal.loop-at-preserved
loop-at-preserved c = (
  omega arith,
  none_in_lanes (λ b. b == c.args.byte) c.args.bytes.now 0 c.loop-at.at 64 (omega arith) c.loop-at.invariant.1 (omega (arith, c.equal_in-found.ensures)),
)

pub returns-in-Some : goal.returns-in-Some
returns-in-Some c =
    let p = λ (b : ℕ). b == c.args.byte in
    sym (first_behind p c.args.bytes.now 0 c.loop-at.at c.in-Some.behind c.loop-at.invariant.0 c.loop-at.invariant.1
    (ap (position p) (sym (rest_is c.args.bytes.now c.loop-at.at)) ∙ sym c.in-Some.ensures))

pub returns-in-None : goal.returns-in-None
returns-in-None c =
    let p = λ (b : ℕ). b == c.args.byte in
    sym (none_behind p c.args.bytes.now 0 c.loop-at.at c.loop-at.invariant.0 c.loop-at.invariant.1
    (ap (position p) (sym (rest_is c.args.bytes.now c.loop-at.at)) ∙ sym c.in-None.ensures))
