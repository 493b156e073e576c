-- Positions, counted event by event.
use Rattle.std.proofs.Common.{◌≡◌, ◌+◌, ◌<◌, ◌≤◌, ℕ, IfSome, List, [], ◌∷◌, ◌++◌, length, take, slice_get}
use Rattle.std.proofs.Common.{slice_index_or, sym, ap, ◌∙◌, subst, inl, inr, arith}
use Rattle.std.proofs.lemmas.{List.{length_push, length-take-le}, Option.slice_get_within}
use Rattle.race_records.specs.declared.{event.Event.Event, trace.TheConstants.MAX_EVENTS}
use Rattle.race_model.{specs.{Events.{At, partner}}, proofs.Indexes.{push_at, at_same}}
use Rattle.race_legal.proofs.Fronts.{take_next}
use Rattle.race_predict.specs.{declared.positions.Position.Position, Fronts.{Counts, counted, IsPosition, ArePositions}}
use Rattle.race_predict.proofs.FrontLemmas.{counts_go_on}

module _ (events : List Event) (i : ℕ) (e : Event) (at : At events i e) (counts : List ℕ) (who : e.who < length counts)
    (other : IfSome (partner e.op) (λ g. g < length counts)) (c : Counts counts (take i events)) where
  -- the counts behind the event
  pub counts_next : length events ≤ MAX_EVENTS → Counts (counted counts e.who (partner e.op)) (take (i + 1) events)
  counts_next few =
      let less = slice_get_within events i e at in
      let len = length-take-le i events (omega (arith, less)) in
      subst (Counts (counted counts e.who (partner e.op))) (sym (take_next events i e at))
      (counts_go_on counts (take i events) e who other (omega (arith, less, len, few)) c)

  -- the position that the counts tell
  pub position_is : (p : Position) → p.own ≡ slice_index_or counts e.who 0 → IfSome (partner e.op) (λ g. p.partners ≡ slice_index_or counts g 0)
      → IsPosition events i e p
  position_is p own partners = record {
    own = own ∙ c e.who who;
    partners = λ g is.
        subst (λ o. IfSome o (λ g. p.partners ≡ slice_index_or counts g 0)) is partners ∙ c g (subst (λ o. IfSome o (λ g. g < length counts)) is other);
  }

  pub positions_push : (ps : List Position) (p : Position) → ArePositions events i ps → IsPosition events i e p → ArePositions events (i + 1) (ps ++ p ∷ [])
  positions_push ps p are is = record {
    as_many = let len = are.as_many in omega (arith, len, length_push ps p);
    each = λ j d q at_d there. elim (push_at ps p j q there) [
      | inl old ↦ are.each j d q at_d old
      | inr (last, same) ↦
          let here : j ≡ i = last ∙ are.as_many in
          let event : e ≡ d = at_same events i e d at (ap (slice_get events) (sym here) ∙ at_d) in
          subst (λ j. IsPosition events j d q) (sym here) (subst (λ d. IsPosition events i d q) event (subst (IsPosition events i e) same is))
    ];
  }
