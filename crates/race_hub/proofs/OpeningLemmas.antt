-- What the first state holds.
use Rattle.std.proofs.Common.{◌≡◌, ◌==◌, ◌||◌, ◌&&◌, Bool, true, cond, ℕ, zero, suc, ◌<◌, ◌≤◌, ◌+◌, false, List, []}
use Rattle.std.proofs.Common.{◌∷◌, length, map, Some, refl, sym, ap, ◌∙◌, arith, true≢false}
use Rattle.std.proofs.lemmas.{Bool.Decides.nat_tests, Option.none-some}
use Rattle.std.specs.List.{count_by}
use Rattle.race_requests.specs.declared.request.Waiter.{Waiter}
use Rattle.race_records.specs.declared.{kind.{Kind.Kind, TheConstants.MAX_GOROUTINES}, trace.TheConstants.MAX_EVENTS}
use Rattle.race_records.specs.Declarations.{DeclsState, count_of, capacity_of}
use Rattle.race_legal.specs.{ReplayState.ReplayState, StandsFor.StandsFor}
use Rattle.race_model.proofs.LegalSteps.{legal_none}
use Rattle.race_hub.specs.{Hub.opening, HubHolds.HaveRoom, Holds.Holds, Kept.{standing, is_active, has_routine, IsKept}}
use Rattle.race_hub.proofs.TableLemmas.{length_map}

-- a list that isn't empty has a first element
pub first_of : {X : Type 0} (xs : List X) → 0 < length xs → (x : X) × (rest : List X) × (xs ≡ x ∷ rest)
first_of [] less = absurd (omega (arith, less))
first_of (x ∷ xs) less = (x, xs, refl)

-- where nobody waits nobody's log wants room
pub nobody_waits : (waiting : List Waiter) (have_room : List Bool) → waiting ≡ [] → HaveRoom waiting have_room
nobody_waits waiting have_room none g some =
    let sum = ap (count_by (λ (w : Waiter). w.who == g)) none in
    absurd (omega (arith, sum, some))

either_way : (g : ℕ) → (0 == g) ≡ (g == 0)
either_way zero = refl
either_way (suc g) = let no : (0 == suc g) ≡ false = grind (arith, nat_tests) in let not : (suc g == 0) ≡ false = grind (arith, nat_tests) in no ∙ sym not

-- main stands in one list, and nobody else in any
pub opening_once : {R : Type 0} (decls : DeclsState) (limit : ℕ) (main : R) (others : List R) (g : ℕ)
    → standing (opening decls limit main others) g ≡ cond (is_active g []) 1 0
opening_once decls limit main others g = by (0 == g) (g == 0) (either_way g)
  where
    by : (a b : Bool) → a ≡ b → 0 + cond a 1 0 + 0 + 0 ≡ cond (((b || false) && true) && true) 1 0
    by true true is = refl
    by false false is = refl
    by true false is = absurd cc
    by false true is = absurd cc

module _ {R : Type 0} where
  all_there : (routines : List R) (g : ℕ) → g < length (map Some routines) → cond (has_routine g (map Some routines)) 1 0 + 0 + 0 ≡ 1
  all_there [] g less = absurd (omega (arith, less))
  all_there (r ∷ rest) zero less = refl
  all_there (r ∷ rest) (suc g) less = all_there rest g (omega (arith, less))

  pub opening_kept : (decls : DeclsState) (limit : ℕ) (main : R) (others : List R) → IsKept (opening decls limit main others)
  opening_kept decls limit main others = record {
    legal = legal_none (capacity_of decls.declarations);
    limited = omega arith;
    once = opening_once decls limit main others;
    routines = all_there (main ∷ others);
    places = λ g some. by g (0 == g) refl some;
    logs = length_map (λ _. []) (main ∷ others) ∙ sym (length_map Some (main ∷ others));
  }
    where
      by : (g : ℕ) (b : Bool) → (0 == g) ≡ b → 0 < 0 + cond b 1 0 + 0 + 0 → g < length (map Some (main ∷ others))
      by zero b is some = omega arith
      by (suc g) true is some = let no : (0 == suc g) ≡ false = grind (arith, nat_tests) in absurd (true≢false (sym is ∙ no))
      by (suc g) false is some = absurd (omega (arith, some))

  pub holds_opening : (k : ReplayState) (decls : DeclsState) (limit : ℕ) (main : R) (others : List R) → StandsFor decls.declarations k []
      → limit ≤ MAX_EVENTS → length (main ∷ others) ≡ count_of Kind.Goroutine decls.declarations → length (main ∷ others) ≤ MAX_GOROUTINES
      → Holds k (opening decls limit main others)
  holds_opening k decls limit main others stands few count less =
      let len = length_map Some (main ∷ others) in
      record {
        kept = opening_kept decls limit main others;
        stands = stands;
        few = few;
        few_goroutines = omega (arith, len, less);
        count = len ∙ count;
        sound = λ _ k d at. absurd (omega (arith, at));
        bad_waits = λ g is. absurd (none-some g is);
      }
