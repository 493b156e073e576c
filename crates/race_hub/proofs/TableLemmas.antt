-- A place of a table, and the routines and logs in it.
use Rattle.std.proofs.Common.{◌≡◌, ◌==◌, ℕ, zero, suc, ◌<◌, Bool, true, false, cond, List, [], ◌∷◌, length, slice_get}
use Rattle.std.proofs.Common.{slice_set, map, Option, Some, None, refl, sym, ap, ◌∙◌, arith, true≢false, eq-eqb, not, ◌+◌, ◌&&◌, ◌||◌}
use Rattle.std.proofs.lemmas.{Bool.Decides.nat_tests, List.length-set}
use Rattle.std.specs.Prelude.{is_some}
use Rattle.race_model.proofs.CountSteps.{as_number}
use Rattle.race_requests.specs.declared.request.{Answer.Answer, Step.Step, Waiter.Waiter}
use Rattle.race_hub.specs.{Kept.has_routine, Fires.without_leaver, Logs.with_step}

pub same_number : (m n : ℕ) → (m == n) ≡ true → m ≡ n
same_number m n is = grind (arith, nat_tests)

pub both_false : (a b : Bool) → (a || b) ≡ false → (a ≡ false) × (b ≡ false)
both_false true b is = absurd cc
both_false false b is = (refl, is)

pub both_true : (a b : Bool) → (a && b) ≡ true → (a ≡ true) × (b ≡ true)
both_true true b is = (refl, is)
both_true false b is = absurd cc

pub set_other : {X : Type 0} (xs : List X) (k g : ℕ) (y : X) → (k ≡ g → ⊥) → slice_get (slice_set xs k y) g ≡ slice_get xs g
set_other [] k g y unlike = refl
set_other (x ∷ xs) zero zero y unlike = absurd (unlike refl)
set_other (x ∷ xs) zero (suc g) y unlike = refl
set_other (x ∷ xs) (suc k) zero y unlike = refl
set_other (x ∷ xs) (suc k) (suc g) y unlike = set_other xs k g y (λ e. unlike (ap suc e))

pub get_set : {X : Type 0} (xs : List X) (k : ℕ) (y : X) → k < length xs → slice_get (slice_set xs k y) k ≡ Some y
get_set [] k y less = absurd (omega (arith, less))
get_set (x ∷ xs) zero y less = refl
get_set (x ∷ xs) (suc k) y less = get_set xs k y (omega (arith, less))

pub length_map : {X Y : Type 0} (f : X → Y) (xs : List X) → length (map f xs) ≡ length xs
length_map f [] = refl
length_map f (x ∷ xs) = ap suc (length_map f xs)

module _ {R : Type 0} where
  -- whether g's routine is there, once k's place has this
  pub has_set : (routines : List (Option R)) (k g : ℕ) (o : Option R) → k < length routines
      → has_routine g (slice_set routines k o) ≡ cond (k == g) (is_some o) (has_routine g routines)
  has_set routines k g o less = by (k == g) refl
    where
      by : (b : Bool) → (k == g) ≡ b → has_routine g (slice_set routines k o) ≡ cond b (is_some o) (has_routine g routines)
      by true test =
          ap (λ n. has_routine n (slice_set routines k o)) (sym (same_number k g test))
          ∙ ap (λ (x : Option (Option R)). elim x [ None ↦ false | Some routine ↦ is_some routine ]) (get_set routines k o less)
      by false test =
          ap (λ (x : Option (Option R)). elim x [ None ↦ false | Some routine ↦ is_some routine ])
          (set_other routines k g o (λ same. true≢false (sym (eq-eqb k g same) ∙ test)))

  pub leaver_len : (w : Option Waiter) (told : Option Answer) (routines : List (Option R)) → length (without_leaver w told routines) ≡ length routines
  leaver_len None told routines = refl
  leaver_len (Some w) (Some answer) routines = refl
  leaver_len (Some w) None routines = length-set routines w.who None

  -- who is told nothing has its routine no more
  pub leaver_count : (w : Waiter) (told : Option Answer) (routines : List (Option R)) (g : ℕ) → w.who < length routines
      → ((w.who == g) ≡ true → has_routine g routines ≡ true)
      → as_number (has_routine g (without_leaver (Some w) told routines)) + as_number (not (is_some told) && (w.who == g))
      ≡ as_number (has_routine g routines)
  leaver_count w (Some answer) routines g less there = omega arith
  leaver_count w None routines g less there = ap (λ b. as_number b + as_number (w.who == g)) (has_set routines w.who g None less) ∙ by (w.who == g) there
    where
      by : (b : Bool) → (b ≡ true → has_routine g routines ≡ true)
          → as_number (cond b false (has_routine g routines)) + as_number b ≡ as_number (has_routine g routines)
      by true there = ap as_number (sym (there refl))
      by false there = omega arith

pub step_len : (w : Option Waiter) (told : Option Answer) (logs : List (List Step)) → length (with_step w told logs) ≡ length logs
step_len None told logs = refl
step_len (Some w) told logs = length-set logs w.who _
