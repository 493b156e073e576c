-- Words of bytes that can be seen: names and places are such.
use Rattle.std.proofs.Common.{◌≡◌, ℕ, ◌&&◌, Bool, true, false, List, [], ◌∷◌, refl, sym, arith, true≢false}
use Rattle.std.{proofs.lemmas.Bool.Decides.nat_tests, specs.List.list_all}
use Rattle.race_records.specs.Name.{is_name, is_name_byte, is_place_byte}

-- both parts of a conjunction
pub both : (a b : Bool) → (a && b) ≡ true → (a ≡ true) × (b ≡ true)
both true true h = (refl, refl)
both true false h = absurd (true≢false (sym h))
both false b h = absurd (true≢false (sym h))

name_byte_is_visible : (b : ℕ) → is_name_byte b ≡ true → is_place_byte b ≡ true
name_byte_is_visible b h = grind (arith, nat_tests)

-- bytes that pass a test pass a weaker one
pub all_weaken : (p q : ℕ → Bool) → ((b : ℕ) → p b ≡ true → q b ≡ true) → (word : List ℕ) → list_all p word ≡ true → list_all q word ≡ true
all_weaken p q weaker [] h = refl
all_weaken p q weaker (b ∷ bs) h =
    let hs = both (p b) (list_all p bs) h in
    λ i. weaker b hs.0 i && all_weaken p q weaker bs hs.1 i

-- a name's bytes
pub name_bytes : (word : List ℕ) → is_name word ≡ true → list_all is_name_byte word ≡ true
name_bytes word h = (both _ (list_all is_name_byte word) h).1

-- a name's bytes can be seen
pub name_is_visible : (word : List ℕ) → is_name word ≡ true → list_all is_place_byte word ≡ true
name_is_visible word h = all_weaken is_name_byte is_place_byte name_byte_is_visible word (name_bytes word h)
