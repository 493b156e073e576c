use Rattle.std.proofs.Common.{ℕ, ◌-◌, not, length, sym, arith}
use Rattle.race_records.specs.Name.{is_place_byte}
use Rattle.race_text.proofs.LaneLemmas.{found_in_lanes, none_in_lanes, position_is_none}
use Rattle.race_text.proofs.lanes.first_unseen.Goals as goal

pub returns-then-found-ne0 : goal.returns-then-found-ne0
returns-then-found-ne0 c =
    found_in_lanes (λ b. not (is_place_byte b)) c.args.bytes.now 0 c.loop-at.at 16 c.unseen_in-found.result c.unseen_in-found.ensures
    (omega arith) (omega arith) c.loop-at.invariant.1 (omega arith)

pub loop-at-preserved : goal.loop-at-preserved
loop-at-preserved c = (
  omega arith,
  none_in_lanes (λ b. not (is_place_byte b)) c.args.bytes.now 0 c.loop-at.at 16 (omega arith) c.loop-at.invariant.1 (omega (arith, c.unseen_in-found.ensures)),
)

pub returns-then-behind-ne0 : goal.returns-then-behind-ne0
returns-then-behind-ne0 c =
    let last = length c.args.bytes.now - 16 in
    found_in_lanes (λ b. not (is_place_byte b)) c.args.bytes.now 0 last 16 c.unseen_in-behind.result c.unseen_in-behind.ensures
    (omega arith) (omega arith) (λ k below. c.loop-at.invariant.1 k (omega (arith, below))) (omega arith)

pub returns : goal.returns
returns c =
    let p = λ (b : ℕ). not (is_place_byte b) in
    let behind = none_in_lanes p c.args.bytes.now 0 (length c.args.bytes.now - 16) 16 (omega arith)
    (λ k below. c.loop-at.invariant.1 k (omega (arith, below))) (omega (arith, c.unseen_in-behind.ensures)) in
    sym (position_is_none p c.args.bytes.now 0 (λ k below. behind k (omega (arith, below))))
