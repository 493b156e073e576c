-- A predicted race can be printed.
use Rattle.std.proofs.Common.{◌≡◌, ℕ, ◌+◌, ◌<◌, ◌≤◌, ◌++◌, inl, inr, List, [], ◌∷◌, All, length, Some, slice_get, get_or, refl, sym, ap, subst}
use Rattle.std.proofs.Common.{◌∙◌, arith, IsTrue}
use Rattle.std.proofs.lemmas.Option.{slice_get_within, slice_get-get_or}
use Rattle.race_records.specs.{declared.{event.{Event.Event, Op.{Op, TheVariants.Read}}, kind.Kind.Kind}, Declarations.{count_of, counts_of}}
use Rattle.race_records.specs.Events.{TraceState, IsTrace}
use Rattle.race_model.specs.{Events.accesses, Predict.{finding, told}}
use Rattle.race_verdict.{specs.{declared.races.Race.Race, Races.race_of}, proofs.RangeLemmas.{range_in_trace, accessed_in_range, accessed_below}}
use Rattle.race_predict.specs.Certified.{IsCertificate, IsPredictedRace}
use Rattle.race_report.specs.Printable.{IsOf}

module _ (recorded : TraceState) where
  told_is : (a b : Event) → Some a ≡ Some b → a ≡ b
  told_is a b is = cc

  -- a read may find another value, and is an access of the same variable
  still_accesses : (v x : ℕ) (o : Op) → accesses x (finding v o) ≡ accesses x o
  still_accesses v x (Read y w) = refl
  still_accesses v x o = cc

  module _ (is_trace : IsTrace recorded) where
    -- so the variable is declared
    var_declared : (x : ℕ) (order : List ℕ) (other : TraceState) → IsCertificate recorded x order other
        → x < count_of Kind.Var recorded.decls.declarations
    var_declared x order other is =
        let ends = is.prediction.ends_with_race in
        let within : ends.before < length order = omega (arith, ends.last_two, is.made.as_many) in
        let (e, at, (v, made)) = is.made.each ends.before (get_or order ends.before 0) (slice_get-get_or order ends.before 0 within) in
        let (a, stands, accessed) = ends.conflict.1 in
        let same : a ≡ told v e = told_is a (told v e) (sym stands ∙ made) in
        accessed_below e.op _ x
        (accessed_in_range (counts_of recorded.decls.declarations) e.op (range_in_trace recorded (get_or order ends.before 0) e is_trace at).1)
        (subst IsTrue (ap (λ (b : Event). accesses x b.op) same ∙ still_accesses v x e.op) accessed)

    -- an event of the order is a recorded one
    event_within : (x : ℕ) (order : List ℕ) (other : TraceState) → IsCertificate recorded x order other
        → (k i : ℕ) → slice_get order k ≡ Some i → i < length recorded.events
    event_within x order other is k i stands =
        let (e, at, (v, made)) = is.made.each k i stands in
        slice_get_within recorded.events i e at

    pub is_of : (race : Race) → IsPredictedRace recorded race → IsOf recorded (race_of race)
    is_of race is =
        let within = event_within race.var is.order is.other is.certificate in
        let var = var_declared race.var is.order is.other is.certificate in
        elim is.pair [
          | inl (first, second) ↦ record { var = var; first = within is.before race.first first; second = within (is.before + 1) race.second second }
          | inr (second, first) ↦ record { var = var; first = within (is.before + 1) race.first first; second = within is.before race.second second }
        ]
