-- Tables of texts: what a look-up and an insertion say of the texts as lists of bytes.
use Rattle.std.proofs.Common.{◌≡◌, ℕ, ◌+◌, Bool, true, false, not, cond, ◌||◌, nat_lt, List, [], ◌∷◌, ◌++◌, length, map}
use Rattle.std.proofs.Common.{position, String, Some, None, IsNone, refl, sym, ap, subst, ◌∙◌, true≢false, arith}
use Rattle.std.proofs.lemmas.{List.{length-map, map-append}, Bool.Decides.nat_tests, Option.cond_some}
use Rattle.std.specs.{List.{prefix_len, position_or_len, list_any, AllZip}, Str.bytes_eq}
use Rattle.std.specs.String.{string_bytes, string_eq}
use Rattle.indexmap.specs.IndexSet.{insert_key}

pub prefix_len-map : {X Y : Type 0} (f : X → Y) (p : Y → Bool) (xs : List X) → prefix_len p (map f xs) ≡ prefix_len (λ x. p (f x)) xs
prefix_len-map f p [] = refl
prefix_len-map f p (x ∷ xs) = ap (λ n. cond (p (f x)) (1 + n) 0) (prefix_len-map f p xs)

-- a search among what f gives is a search by what it gives
pub position-map : {X Y : Type 0} (f : X → Y) (p : Y → Bool) (xs : List X) → position p (map f xs) ≡ position (λ x. p (f x)) xs
position-map f p xs =
    λ i. cond (nat_lt (prefix_len-map f (λ y. not (p y)) xs i) (length-map xs f i)) (Some (prefix_len-map f (λ y. not (p y)) xs i)) None

-- an element passes exactly where the first that does stands within the list
pub list_any-within : {X : Type 0} (p : X → Bool) (xs : List X) → list_any p xs ≡ nat_lt (position_or_len p xs) (length xs)
list_any-within p [] = refl
list_any-within p (x ∷ xs) = by (p x) (list_any-within p xs)
  where
    by : (b : Bool) → list_any p xs ≡ nat_lt (position_or_len p xs) (length xs)
        → (b || list_any p xs) ≡ nat_lt (cond (not b) (1 + position_or_len p xs) 0) (length (x ∷ xs))
    by true h = grind (arith, nat_tests)
    by false h = grind (arith, nat_tests)

-- where a search finds nothing, nothing passes
pub list_any-absent : {X : Type 0} (p : X → Bool) (xs : List X) → IsNone (position p xs) → list_any p xs ≡ false
list_any-absent p xs none = by (nat_lt (position_or_len p xs) (length xs)) (list_any-within p xs) none
  where
    by : (b : Bool) → list_any p xs ≡ b → IsNone (cond b (Some (position_or_len p xs)) None) → list_any p xs ≡ false
    by true e h = absurd (true≢false h)
    by false e h = e

-- where nothing passes, a search finds nothing
pub position-absent : {X : Type 0} (p : X → Bool) (xs : List X) → list_any p xs ≡ false → IsNone (position p xs)
position-absent p xs absent = by (nat_lt (position_or_len p xs) (length xs)) (sym (list_any-within p xs) ∙ absent)
  where
    by : (b : Bool) → b ≡ false → IsNone (cond b (Some (position_or_len p xs)) None)
    by true e = absurd (true≢false e)
    by false e = refl

-- where a search finds something, something passes
pub list_any-found : {X : Type 0} (p : X → Bool) (xs : List X) (i : ℕ) → position p xs ≡ Some i → list_any p xs ≡ true
list_any-found p xs i found = list_any-within p xs ∙ (cond_some (nat_lt (position_or_len p xs) (length xs)) (position_or_len p xs) i found).0

-- where nothing passes, the length stands for the index
pub position_or_len-absent : {X : Type 0} (p : X → Bool) (xs : List X) → list_any p xs ≡ false → position_or_len p xs ≡ length xs
position_or_len-absent p [] absent = refl
position_or_len-absent p (x ∷ xs) absent = by (p x) absent (position_or_len-absent p xs)
  where
    by : (b : Bool) → (b || list_any p xs) ≡ false → (list_any p xs ≡ false → position_or_len p xs ≡ length xs)
        → cond (not b) (1 + position_or_len p xs) 0 ≡ length (x ∷ xs)
    by true h rest = absurd (true≢false h)
    by false h rest = let e = rest h in omega arith

module _ {Z : Type 0} (ks : List (String Z)) (texts : List (List ℕ)) (view_is : map string_bytes ks ≡ texts) where
  -- a text that is new to the set goes last
  pub insert_key-new : (k : String Z) (text : List ℕ) → string_bytes k ≡ text → IsNone (position (bytes_eq text) texts)
      → map string_bytes (insert_key string_eq ks k) ≡ texts ++ text ∷ []
  insert_key-new k text e none =
      let found : position (bytes_eq text) texts ≡ position (λ x. bytes_eq (string_bytes k) (string_bytes x)) ks =
      (λ i. position (bytes_eq (sym e i)) (sym view_is i)) ∙ position-map string_bytes (bytes_eq (string_bytes k)) ks in
      let absent = list_any-absent (λ x. bytes_eq (string_bytes k) (string_bytes x)) ks (subst IsNone found none) in
      ap (λ b. map string_bytes (cond b ks (ks ++ k ∷ []))) absent ∙ map-append string_bytes ks (k ∷ []) ∙ (λ i. view_is i ++ e i ∷ [])

-- clones have the bytes of their sources
pub string_bytes-clones : {Z : Type 0} (xs ys : List (String Z)) → AllZip (λ x y. string_bytes y ≡ string_bytes x) xs ys
    → map string_bytes ys ≡ map string_bytes xs
string_bytes-clones [] [] h = refl
string_bytes-clones [] (y ∷ ys) h = absurd h
string_bytes-clones (x ∷ xs) [] h = absurd h
string_bytes-clones (x ∷ xs) (y ∷ ys) h = λ i. h.0 i ∷ string_bytes-clones xs ys h.1 i
