use Rattle.std.proofs.Common.{◌≡◌, ℕ, ◌+◌, ◌-◌, not, length, Some, sym, ap, ◌∙◌, arith}
use Rattle.race_records.specs.Name.{is_place_byte}
use Rattle.race_text.proofs.LaneLemmas.{found_in_lanes, none_in_first, none_in_lanes, position_is_none}
use Rattle.race_text.proofs.lanes.unseen_in_few.Goals as goal

from_zero : (n : ℕ) → 0 + n ≡ n
from_zero n = omega arith

pub returns-then-found-ne0 : goal.returns-then-found-ne0
returns-then-found-ne0 c =
    ap (λ n. Some n) (sym (from_zero _))
    ∙ found_in_lanes (λ b. not (is_place_byte b)) c.args.bytes.now 0 0 8 c.unseen_in_eight-found.result c.unseen_in_eight-found.ensures
    (omega arith) (omega arith) (λ k below. absurd (omega (arith, below))) (omega arith)

pub returns-then-behind-ne0 : goal.returns-then-behind-ne0
returns-then-behind-ne0 c =
    let p = λ (b : ℕ). not (is_place_byte b) in
    let first = none_in_first p c.args.bytes.now 0 8 (omega arith) (omega (arith, c.unseen_in_eight-found.ensures)) in
    found_in_lanes p c.args.bytes.now 0 (length c.args.bytes.now - 8) 8 c.unseen_in_eight-behind.result c.unseen_in_eight-behind.ensures
    (omega arith) (omega arith) (λ k below. first k (omega (arith, below, c.requires))) (omega arith)

pub returns : goal.returns
returns c =
    let p = λ (b : ℕ). not (is_place_byte b) in
    let first = none_in_first p c.args.bytes.now 0 8 (omega arith) (omega (arith, c.unseen_in_eight-found.ensures)) in
    let behind = none_in_lanes p c.args.bytes.now 0 (length c.args.bytes.now - 8) 8 (omega arith)
    (λ k below. first k (omega (arith, below, c.requires))) (omega (arith, c.unseen_in_eight-behind.ensures)) in
    sym (position_is_none p c.args.bytes.now 0 (λ k below. behind k (omega (arith, below))))
