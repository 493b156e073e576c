use Rattle.std.proofs.Common.{◌≡◌, ℕ, ◌+◌, IsTrue, Some, List, slice_get, refl, ap, ◌∙◌, subst, inl, inr, arith}
use Rattle.race_records.specs.{declared.event.{Event.Event, Op.TheVariants.Exit}, Events.TraceState}
use Rattle.race_model.specs.{Events.{At, accesses}, Examples.{main, x, does}, PredictExamples.main_locks_first}
use Rattle.race_predict.specs.{Certified.{IsCertificate, IsPredictedRace}, Examples.{recorded, trace, locks_first, race}}
use Rattle.race_predict.proofs.ExampleLemmas.{locks_certificate, told_by}
use Rattle.race_predict.proofs.examples.a_predicted_race_is_that_of_the_last_two.Goals as goal

pub returns-clause-last_two : goal.returns-clause-last_two
returns-clause-last_two c = record {
  order = locks_first;
  other = trace main_locks_first;
  certificate = locks_certificate;
  before = 3;
  last_two = refl;
  pair = inl (refl, refl);
}

pub returns-clause-turned : goal.returns-clause-turned
returns-clause-turned c = record {
  order = locks_first;
  other = trace main_locks_first;
  certificate = locks_certificate;
  before = 3;
  last_two = refl;
  pair = inr (refl, refl);
}

-- main's exit is no access
never : (order : List ℕ) (other : TraceState) → IsCertificate recorded x order other → (k : ℕ) (a : Event) → At other.events k a
    → IsTrue (accesses x a.op) → slice_get order k ≡ Some 7 → ⊥
never order other is k a at access there =
    let (v, same) = told_by is.made k 7 a (does main Exit) there refl at in
    let none : IsTrue (accesses x Exit) = subst (λ (e : Event). IsTrue (accesses x e.op)) same access in cc

pub returns-clause-another_event : goal.returns-clause-another_event
returns-clause-another_event c = by
  where
    by : IsPredictedRace recorded (race 1 7) → ⊥
    by p =
        let ends = p.certificate.prediction.ends_with_race in
        let many = p.certificate.made.as_many in
        let two = ends.last_two in
        let last = p.last_two in
        let same : ends.before ≡ p.before = omega (arith, many, two, last) in
        let (a, at_a, first) = ends.conflict.1 in
        let (b, at_b, second) = ends.conflict.2 in
        elim p.pair [
          | inl (i, j) ↦ never p.order p.other p.certificate (ends.before + 1) b at_b second (ap (λ n. slice_get p.order (n + 1)) same ∙ j)
          | inr (j, i) ↦ never p.order p.other p.certificate ends.before a at_a first (ap (slice_get p.order) same ∙ j)
        ]
