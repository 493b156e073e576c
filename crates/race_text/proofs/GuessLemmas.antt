-- A place that stands in the table has the number of where it stands, and is added by nothing.
use Rattle.std.proofs.Common.{◌≡◌, ℕ, Bool, true, false, if◌then◌else◌, List, [], ◌∷◌, ◌++◌, get_or, Some, refl, sym}
use Rattle.std.proofs.{Common.{ap, ◌∙◌, arith}, lemmas.{List.Sums.position_or_len_is, Map.Keys.any_passes_from_place}}
use Rattle.std.proofs.lemmas.{Option.{get_or_from_slice_get, slice_get_within}, Slice.Eq.bytes_eq-Decides}
use Rattle.std.specs.{List.slice_get, Str.bytes_eq}
use Rattle.race_records.specs.Declarations.{DeclsState, IsWellFormed, is_known, place_number, with_place}

is_known_at : (decls : DeclsState) (n : ℕ) (word : List ℕ) → slice_get decls.places n ≡ Some word → is_known decls.places word ≡ true
is_known_at decls n word at = any_passes_from_place (bytes_eq word) decls.places n word at ((bytes_eq-Decides word word).1 refl)

pub adds_nothing : (decls : DeclsState) (n : ℕ) (word : List ℕ) → slice_get decls.places n ≡ Some word → with_place decls word ≡ decls
adds_nothing decls n word at = λ i. record {
  version = decls.version;
  declarations = decls.declarations;
  places = if is_known_at decls n word at i then decls.places else decls.places ++ word ∷ [];
}

not_true : (b : Bool) → (b ≡ true → ⊥) → b ≡ false
not_true true h = absurd (h refl)
not_true false h = refl

pub number_is : (decls : DeclsState) (n : ℕ) (word : List ℕ) → IsWellFormed decls → slice_get decls.places n ≡ Some word → place_number decls.places word ≡ n
number_is decls n word holds at =
    let places = decls.places in
    let within = slice_get_within places n word at in
    let here = get_or_from_slice_get places n word word at in
    position_or_len_is (bytes_eq word) places n word (omega (arith, within))
    (λ k before. not_true (bytes_eq word (get_or places k word))
    (λ same. holds.places_distinct k n word before within (sym ((bytes_eq-Decides word (get_or places k word)).0 same) ∙ sym here)))
    (λ _. ap (bytes_eq word) here ∙ (bytes_eq-Decides word word).1 refl)
