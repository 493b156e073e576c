use Rattle.std.proofs.Common.{ℕ, ◌+◌, ◌-◌, ◌%◌, leb, cond, not, w8, refl, arith}
use Rattle.std.proofs.lemmas.Simd.{zip2_splat, zip2_of_maps, splat_is_map, length-chunk, chunk-fits}
use lib.Lanes.{chunk}
use Rattle.race_records.specs.Name.{is_place_byte}
use Rattle.race_text.proofs.LaneLemmas.{bits_are}
use Rattle.race_text.proofs.lanes.unseen_in_front.Goals as goal

pub returns : goal.returns
returns c =
    let v = chunk 0 64 c.args.bytes.now in
    let long = length-chunk 0 64 c.args.bytes.now c.requires in
    let less : ℕ → ℕ = λ x. (x + (256 - 33)) % 256 in
    let at_most : ℕ → ℕ → ℕ = λ a b. cond (leb a b) 255 0 in
    bits_are (λ x. at_most 94 (less x)) (λ b. not (is_place_byte b)) v _ (omega (arith, long)) (chunk-fits w8 0 64 c.args.bytes.now c.type_inv.bytes)
    (zip2_of_maps at_most (λ _. 94) less v (splat_is_map v 64 94 long) (zip2_splat (λ (a b : ℕ). (a + (256 - b)) % 256) v 64 33 long)) refl
