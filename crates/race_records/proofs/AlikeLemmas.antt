-- Two events with the texts of their places, compared part by part.
use Rattle.std.proofs.Common.{◌≡◌, ◌==◌, ◌&&◌, ℕ, Bool, true, false, List, Some, slice_get, IsTrue, sym, ap, ◌∙◌}
use Rattle.std.{proofs.{Common.option_map, lemmas.Option.{slice_get-map, same_Some}}, specs.Str.bytes_eq}
use Rattle.race_records.specs.{declared.event.Event.Event, Events.TraceState, TraceEquality.{placed, placed_events}}
use Rattle.race_records.specs.TraceEquality.{same_op, same_text, same_placed, same_placed-Decides}

-- the event at an index, with the texts of its places
placed_at : (trace : TraceState) (i : ℕ) (e : Event) → slice_get trace.events i ≡ Some e
    → slice_get (placed_events trace) i ≡ Some (placed trace.decls.places e)
placed_at trace i e at = slice_get-map (placed trace.decls.places) trace.events i ∙ ap (option_map (placed trace.decls.places)) at

module _ (trace other : TraceState) (i : ℕ) (e f : Event) (here : slice_get trace.events i ≡ Some e) (there : slice_get other.events i ≡ Some f) where
  -- what tells whether the two are equal
  pub alike_by : (b : Bool) → b ≡ same_placed (placed trace.decls.places e) (placed other.decls.places f)
      → (IsTrue b → slice_get (placed_events trace) i ≡ slice_get (placed_events other) i)
      × (slice_get (placed_events trace) i ≡ slice_get (placed_events other) i → IsTrue b)
  alike_by b is =
      let tests = same_placed-Decides (placed trace.decls.places e) (placed other.decls.places f) in (
        λ h. placed_at trace i e here ∙ ap Some (tests.0 (sym is ∙ h)) ∙ sym (placed_at other i f there),
        λ same. is ∙ tests.1 (same_Some _ _ (sym (placed_at trace i e here) ∙ same ∙ placed_at other i f there)),
      )

  pub by_who : (e.who == f.who) ≡ false → false ≡ same_placed (placed trace.decls.places e) (placed other.decls.places f)
  by_who differ = λ j. ((sym differ j && same_op e.op f.op) && same_text (placed trace.decls.places e).place (placed other.decls.places f).place)
      && same_text (placed trace.decls.places e).place2 (placed other.decls.places f).place2

  pub by_op : (e.who == f.who) ≡ true → same_op e.op f.op ≡ false → false ≡ same_placed (placed trace.decls.places e) (placed other.decls.places f)
  by_op same differ = λ j. ((sym same j && sym differ j) && same_text (placed trace.decls.places e).place (placed other.decls.places f).place)
      && same_text (placed trace.decls.places e).place2 (placed other.decls.places f).place2

  pub by_place : (e.who == f.who) ≡ true → same_op e.op f.op ≡ true → (text another : List ℕ) → slice_get trace.decls.places e.place ≡ Some text
      → slice_get other.decls.places f.place ≡ Some another
      → bytes_eq text another ≡ false → false ≡ same_placed (placed trace.decls.places e) (placed other.decls.places f)
  by_place who op text another at at2 differ =
      (λ j. sym differ j && same_text (placed trace.decls.places e).place2 (placed other.decls.places f).place2)
      ∙ (λ j. ((sym who j && sym op j) && same_text (sym at j) (sym at2 j))
      && same_text (placed trace.decls.places e).place2 (placed other.decls.places f).place2)

  pub by_texts : (e.who == f.who) ≡ true → same_op e.op f.op ≡ true → (text another : List ℕ) → slice_get trace.decls.places e.place ≡ Some text
      → slice_get other.decls.places f.place ≡ Some another
      → bytes_eq text another ≡ true → same_text (placed trace.decls.places e).place2 (placed other.decls.places f).place2
      ≡ same_placed (placed trace.decls.places e) (placed other.decls.places f)
  by_texts who op text another at at2 same =
      (λ j. sym same j && same_text (placed trace.decls.places e).place2 (placed other.decls.places f).place2)
      ∙ (λ j. ((sym who j && sym op j) && same_text (sym at j) (sym at2 j))
      && same_text (placed trace.decls.places e).place2 (placed other.decls.places f).place2)
