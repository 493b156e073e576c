-- Bytes that can be seen are text.
use Rattle.std.proofs.Common.{◌≡◌, ℕ, ◌<◌, ◌&&◌, Bool, true, false, List, [], ◌∷◌, refl, sym, arith, true≢false}
use Rattle.std.proofs.lemmas.{Bool.Decides.nat_tests, Str.{IsUtf8-from_ascii, Ascii.{IsAscii-nil, IsAscii-cons}}}
use Rattle.std.specs.{List.list_all, Str.{IsUtf8, IsAscii}}
use Rattle.race_records.specs.Name.{is_place_byte}

both : (a b : Bool) → (a && b) ≡ true → (a ≡ true) × (b ≡ true)
both true true h = (refl, refl)
both true false h = absurd (true≢false (sym h))
both false b h = absurd (true≢false (sym h))

visible_is_ascii : (word : List ℕ) → list_all is_place_byte word ≡ true → IsAscii word
visible_is_ascii [] h = IsAscii-nil
visible_is_ascii (b ∷ bs) h = let p = both (is_place_byte b) (list_all is_place_byte bs) h in
    IsAscii-cons b bs (below b p.0) (visible_is_ascii bs p.1)
  where
    below : (b : ℕ) → is_place_byte b ≡ true → b < 128
    below b h = grind (arith, nat_tests)

pub visible_is_text : (word : List ℕ) → list_all is_place_byte word ≡ true → IsUtf8 word
visible_is_text word h = IsUtf8-from_ascii word (visible_is_ascii word h)
