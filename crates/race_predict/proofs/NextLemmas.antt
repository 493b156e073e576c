-- Which recorded event is what each that takes part in it did next.
use Rattle.std.proofs.Common.{◌≡◌, ◌==◌, ◌<◌, ◌≤◌, ℕ, IsTrue, IfSome, Option, Some, None, List, length, slice_index_or, sym, ap, ◌∙◌, subst, refl, arith, eq-eqb}
use Rattle.std.proofs.lemmas.{Option.slice_get_within, Bool.or_right}
use Rattle.race_records.specs.{declared.{event.Event.Event, kind.Kind.Kind}, Events.{TraceState, fits}}
use Rattle.race_model.specs.{Events.{At, gives, partner, takes_part}}
use Rattle.race_model.proofs.{Indexes.at_same, Reaching.who_takes_part}
use Rattle.race_predict.specs.{declared.positions.Position.Position, Fronts.{Counts, IsNext, IsPosition}}
use Rattle.race_predict.specs.Attempts.{AttemptState, IsAttempt, IsFound, IsNextAt, events_by}
use Rattle.race_predict.proofs.{AttemptLemmas.rows_from_fits, FrontLemmas.is_due}
use Rattle.race_legal.{specs.ReplayState.{ReplayState, IsInRange, counts_in}, proofs.RangeLemmas.in_range}

-- where an event is next, the counts say so
pub counts_tell : (recorded past : List Event) (counts : List ℕ) (i : ℕ) (e : Event) (p : Position) → Counts counts past → IsPosition recorded i e p
    → e.who < length counts → IfSome (partner e.op) (λ g. g < length counts) → IsNext recorded past i e
    → (slice_index_or counts e.who 0 ≡ p.own) × IfSome (partner e.op) (λ g. slice_index_or counts g 0 ≡ p.partners)
counts_tell recorded past counts i e p c pos who other next =
    (c e.who who ∙ next e.who (who_takes_part e) ∙ sym pos.own, by (partner e.op) refl)
  where
    by : (o : Option ℕ) → partner e.op ≡ o → IfSome o (λ g. slice_index_or counts g 0 ≡ p.partners)
    by None is = tt
    by (Some g) is =
        let less : g < length counts = subst (λ o. IfSome o (λ g. g < length counts)) is other in
        let part : IsTrue (takes_part g e) = or_right (e.who == g) _ (ap (λ o. gives o g) is ∙ eq-eqb g g refl) in
        c g less ∙ next g part ∙ sym (pos.partners g is)

-- what the counts say of an event holds of the events so far
pub found_by : (recorded : TraceState) (a : AttemptState) (i : ℕ) (e : Event) (p : Position) → At recorded.events i e → IsTrue (fits recorded.decls e)
    → IsPosition recorded.events i e p → slice_index_or a.taken e.who 0 ≡ p.own
    → IfSome (partner e.op) (λ g. slice_index_or a.taken g 0 ≡ p.partners) → IsFound recorded a i e
found_by recorded a i e p at fit pos own others = record {
  event = at;
  fit = fit;
  next = λ order attempt g.
      let rows = rows_from_fits recorded a.taken e fit attempt.rows in
      is_due recorded.events (events_by recorded.events order) a.taken i e p attempt.counts pos rows.0 rows.1 own others g;
}

-- where they say otherwise it isn't next
pub not_found : (recorded : TraceState) (a : AttemptState) (i : ℕ) (e : Event) (p : Position) → At recorded.events i e → IsTrue (fits recorded.decls e)
    → IsPosition recorded.events i e p
    → (slice_index_or a.taken e.who 0 ≡ p.own → ¬ IfSome (partner e.op) (λ g. slice_index_or a.taken g 0 ≡ p.partners))
    → (order : List ℕ) → IsAttempt recorded order a → ¬ IsNextAt recorded order i
not_found recorded a i e p at fit pos never order attempt there =
    let rows = rows_from_fits recorded a.taken e fit attempt.rows in
    let (own, others) = counts_tell recorded.events (events_by recorded.events order) a.taken i e p attempt.counts pos rows.0 rows.1
    (subst (IsNext recorded.events (events_by recorded.events order) i) (at_same recorded.events i there.e e there.event at) there.next) in
    never own others

-- nor is one that isn't there
pub none_there : (recorded : TraceState) (order : List ℕ) (i : ℕ) → length recorded.events ≤ i → ¬ IsNextAt recorded order i
none_there recorded order i past there =
    let less = slice_get_within recorded.events i there.e there.event in
    absurd (omega (arith, less, past))

-- an event that was found is in the range of a replay of the same declarations
pub found_in_range : (recorded : TraceState) (order : List ℕ) (a : AttemptState) (i : ℕ) (e : Event) (k : ReplayState) → counts_in k ≡ counts_in a.replay
    → IsAttempt recorded order a → IsFound recorded a i e → IsInRange (counts_in k) e
found_in_range recorded order a i e k same attempt found =
    subst (λ (counts : Kind → ℕ). IsInRange counts e) (sym same)
    (in_range recorded.decls a.replay (events_by recorded.events order) e attempt.stands found.fit)
