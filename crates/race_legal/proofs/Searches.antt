-- Searches through a list all of whose elements pass a test.
use Rattle.std.proofs.Common.{◌≡◌, ℕ, ◌||◌, Bool, true, false, List, [], ◌∷◌, Some, slice_get, get_or, refl, sym, ap}
use Rattle.std.proofs.{Common.{◌∙◌, IsTrue, true≢false}, lemmas.{Bool.and_parts, List.Folds.list_all_at}}
use Rattle.std.{proofs.lemmas.Option.{slice_get_within, get_or_from_slice_get}, specs.List.{list_all, list_any}}

-- each element passes
pub each_passes : {X : Type 0} (p : X → Bool) (xs : List X) (i : ℕ) (x : X) → IsTrue (list_all p xs) → slice_get xs i ≡ Some x → IsTrue (p x)
each_passes p xs i x all at = by (p x) refl
  where
    by : (b : Bool) → p x ≡ b → p x ≡ true
    by true is = is
    by false is = absurd (true≢false (sym all ∙ list_all_at p xs i x (slice_get_within xs i x at) (ap p (get_or_from_slice_get xs i x x at) ∙ is)))

-- two searches find the same where they are the same of all that passes
pub finds_the_same : {X : Type 0} (p q passes : X → Bool) (xs : List X) → ((x : X) → IsTrue (passes x) → p x ≡ q x) → IsTrue (list_all passes xs)
    → list_any p xs ≡ list_any q xs
finds_the_same p q passes [] same all = refl
finds_the_same p q passes (x ∷ xs) same all =
    let parts = and_parts (passes x) (list_all passes xs) all in
    λ i. same x parts.0 i || finds_the_same p q passes xs same parts.1 i

-- the element at an index passes where a test of it says so
pub passes_at : {X : Type 0} (p : X → Bool) (xs : List X) (i : ℕ) (x : X) (test answer : Bool) → slice_get xs i ≡ Some x → test ≡ p x → test ≡ answer
    → p (get_or xs i x) ≡ answer
passes_at p xs i x test answer at tested is = ap p (get_or_from_slice_get xs i x x at) ∙ sym tested ∙ is
