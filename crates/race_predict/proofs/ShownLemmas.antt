-- A run that ends with a race on a variable without a recorded one is a certificate.
use Rattle.std.proofs.Common.{◌≡◌, ◌+◌, ℕ, List, length, refl, sym, subst, Result, Ok, Err, IfOk}
use Rattle.race_records.specs.Events.{TraceState}
use Rattle.race_model.specs.Race.{IsRace}
use Rattle.race_verdict.specs.{declared.races.Race.Race, Traces.capacities}
use Rattle.race_predict.specs.{declared.prediction.Prediction.Prediction, Certified.{EndsInPair, IsCertificate, IsPredicted, IsPredictedRace, IsRunWithRace}}

pub certified : (recorded : TraceState) (x : ℕ) (order : List ℕ) (trace : TraceState) → IsRunWithRace recorded x order trace
    → ((i j : ℕ) → ¬ IsRace (capacities recorded) recorded.events x i j) → IsCertificate recorded x order trace
certified recorded x order trace run none = record {
  decls = run.decls;
  prediction = record { could_have_run = run.could_have_run; ends_with_race = run.ends_with_race; not_recorded = none };
  made = run.made;
  kept = run.kept;
  limited = run.limited;
}

-- what holds of a result, and so more
pub more_if_ok : {X E : Type 0} (F G : X → Type 0) (r : Result X E) → ((x : X) → F x → G x) → IfOk r F → IfOk r G
more_if_ok F G (Ok x) more is = more x is
more_if_ok F G (Err e) more is = is

-- so is another trace with the same declarations and events
pub same_certificate : (recorded : TraceState) (x : ℕ) (order : List ℕ) (trace other : TraceState) → other.decls ≡ recorded.decls → other.events ≡ trace.events
    → IsCertificate recorded x order trace → IsCertificate recorded x order other
same_certificate recorded x order trace other decls events is =
    let moved : IsCertificate recorded x order (record { decls = recorded.decls; events = trace.events; spare = other.spare }) = record {
      decls = refl;
      prediction = is.prediction;
      made = is.made;
      kept = is.kept;
      limited = is.limited;
    } in
    subst (IsCertificate recorded x order) (λ i. record { decls = sym decls i; events = sym events i; spare = other.spare }) moved

-- the last two events of a prediction are those of its race
pub predicted_race : {A : Type 0} → (recorded : TraceState) (p : Prediction A) (race : Race) (before : ℕ) → race.var ≡ p.var
    → length p.order.items ≡ before + 2 → EndsInPair p.order.items before race.first race.second → IsPredicted recorded p → IsPredictedRace recorded race
predicted_race recorded p race before var last_two pair (other, is) = record {
  order = p.order.items;
  other = other;
  certificate = subst (λ x. IsCertificate recorded x p.order.items other) (sym var) is;
  before = before;
  last_two = last_two;
  pair = pair;
}
