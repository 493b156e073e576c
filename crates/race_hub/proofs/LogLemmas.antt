-- A log, read and made longer by what was asked and what was told.
use Rattle.std.proofs.Common.{◌≡◌, ℕ, zero, suc, List, [], ◌∷◌, ◌++◌, length, Some, slice_get, refl, ap, arith}
use Rattle.std.proofs.lemmas.Option.{none-some}
use Rattle.race_requests.specs.declared.request.{Request.Request, Step.Step}
use Rattle.race_hub.specs.{declared.log.Told.Told, Log.{answer_of, steps_of}}

-- a step, by what was asked and what was told
abbrev pub step_of : Request → Told → Step
step_of r t = record { asked = r; told = answer_of t.answer t.value }

-- there is a step for each
pub steps_len : (asked : List Request) (told : List Told) → length asked ≡ length told → length (steps_of asked told) ≡ length told
steps_len [] [] same = refl
steps_len [] (t ∷ told) same = absurd (omega (arith, same))
steps_len (r ∷ asked) [] same = absurd (omega (arith, same))
steps_len (r ∷ asked) (t ∷ told) same = ap suc (steps_len asked told (omega (arith, same)))

-- the step in its place
pub step_at : (asked : List Request) (told : List Told) (k : ℕ) (r : Request) (t : Told) → slice_get asked k ≡ Some r → slice_get told k ≡ Some t
    → slice_get (steps_of asked told) k ≡ Some (step_of r t)
step_at [] told k r t this that = absurd (none-some r this)
step_at (s ∷ asked) [] k r t this that = absurd (none-some t that)
step_at (s ∷ asked) (u ∷ told) zero r t this that =
    let e : s ≡ r = cc in
    let f : u ≡ t = cc in
    λ i. Some (step_of (e i) (f i))
step_at (s ∷ asked) (u ∷ told) (suc k) r t this that = step_at asked told k r t this that

-- one step more
pub steps_pushed : (asked : List Request) (told : List Told) (r : Request) (t : Told) → length asked ≡ length told
    → steps_of (asked ++ r ∷ []) (told ++ t ∷ []) ≡ steps_of asked told ++ step_of r t ∷ []
steps_pushed [] [] r t same = refl
steps_pushed [] (u ∷ told) r t same = absurd (omega (arith, same))
steps_pushed (s ∷ asked) [] r t same = absurd (omega (arith, same))
steps_pushed (s ∷ asked) (u ∷ told) r t same = ap (λ steps. step_of s u ∷ steps) (steps_pushed asked told r t (omega (arith, same)))
