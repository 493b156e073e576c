-- The table of onces, one event on.
use Rattle.std.proofs.Common.{◌≡◌, ℕ, ◌+◌, ◌<◌, ◌==◌, ◌||◌, length, IsTrue, Bool, true, false, if◌then◌else◌, refl, sym}
use Rattle.std.proofs.{Common.{ap, ◌∙◌, arith}, Math.Bool.{or-true, or-false}, lemmas.Bool.eqb-true}
use Rattle.race_records.specs.declared.event.Op.{Op, TheVariants.{OnceBegin, OnceEnd}}
use Rattle.race_model.{specs.Events.{once_begins, once_ends}, proofs.CountSteps.as_number}
use Rattle.race_legal.specs.{ReplayState.{OncesState, ReplayState, begun_in, ended_in}, After.onces_after}
use Rattle.race_legal.{specs.RulesKept.op_rules_in, proofs.{TableSteps.get_or-set, ChannelSteps.NoneBroken}}

-- an OnceBegin that breaks no rule finds the once as it was declared, and nothing else changes which began
pub begun_step : (k : ReplayState) (who : ℕ) (o : Op) (q n : ℕ) → q < length k.onces.begun
    → NoneBroken (op_rules_in k who o) → n ≡ as_number (begun_in k.onces q)
    → n + as_number (once_begins q o) ≡ as_number (begun_in (onces_after k.onces o) q)
begun_step k who (OnceBegin p) q n less kept is =
    rw (get_or-set k.onces.begun p q true false less) (go (p == q) (λ same. ap (begun_in k.onces) (sym (eqb-true p q same)) ∙ kept.0))
  where
    go : (b : Bool) → (b ≡ true → begun_in k.onces q ≡ false) → n + as_number b ≡ as_number (if b then true else begun_in k.onces q)
    go true fresh = let none : as_number (begun_in k.onces q) ≡ 0 = ap as_number (fresh refl) in omega (arith, is, none)
    go false fresh = omega (arith, is)
begun_step k who (OnceEnd p) q n less kept is = omega (arith, is)
begun_step k who _ q n less kept is = omega (arith, is)

-- an OnceEnd ends its once, and nothing else does
pub ended_step : (t : OncesState) (o : Op) (q : ℕ) → q < length t.ended → (ended_in t q || once_ends q o) ≡ ended_in (onces_after t o) q
ended_step t (OnceEnd p) q less = rw (get_or-set t.ended p q true false less) (go (p == q))
  where
    go : (b : Bool) → (ended_in t q || b) ≡ (if b then true else ended_in t q)
    go true = or-true (ended_in t q)
    go false = or-false (ended_in t q)
ended_step t (OnceBegin p) q less = or-false (ended_in t q)
ended_step t _ q less = or-false (ended_in t q)

-- what ended began, where what ends began
pub ended_begun_step : (t : OncesState) (o : Op) (q : ℕ) → q < length t.begun → q < length t.ended → (IsTrue (ended_in t q) → IsTrue (begun_in t q))
    → (IsTrue (once_ends q o) → IsTrue (begun_in t q)) → IsTrue (ended_in (onces_after t o) q) → IsTrue (begun_in (onces_after t o) q)
ended_begun_step t (OnceBegin p) q row less old ends is = rw (get_or-set t.begun p q true false row) (go (p == q))
  where
    go : (b : Bool) → IsTrue (if b then true else begun_in t q)
    go true = refl
    go false = old is
ended_begun_step t (OnceEnd p) q row less old ends is = go (p == q) ends (sym (get_or-set t.ended p q true false less) ∙ is)
  where
    go : (b : Bool) → (b ≡ true → IsTrue (begun_in t q)) → (if b then true else ended_in t q) ≡ true → IsTrue (begun_in t q)
    go true ends is = ends refl
    go false ends is = old is
ended_begun_step t _ q row less old ends is = old is
