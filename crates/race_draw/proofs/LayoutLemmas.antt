-- What is laid out of a race has the trace's numbers, so it can be drawn.
use Rattle.std.proofs.Common.{◌≡◌, ℕ, ◌+◌, ◌<◌, List, [], ◌∷◌, ◌++◌, length, All, get_or, Option, Some, None, IfSome, slice_get}
use Rattle.std.proofs.{Common.{inl, inr, sym, subst, ap, ◌∙◌, arith}, lemmas.Option.{slice_get_within, slice_get-get_or}}
use Rattle.race_model.proofs.Indexes.{at_same, push_at}
use Rattle.race_records.specs.{declared.{event.Event.Event, kind.Kind.Kind}, Declarations.count_of, Events.{TraceState, IsTrace}}
use Rattle.race_verdict.specs.{declared.races.Race.Race, Races.race_of, Traces.capacities}
use Rattle.race_verdict.proofs.RangeLemmas.{race_declared, range_in_trace}
use Rattle.race_edges.specs.{declared.edge_list.Edge.Edge, Edges.IsEdge}
use Rattle.race_report.specs.Printable.{IsOf}
use Rattle.race_shards.specs.{Seen.{IsLastSeen, who_at}, Witness.RacesInOrder}
use Rattle.race_draw.specs.{Layout.{LayoutState, IsLayoutOf, IsPictureOf, AreListed, missing}, Picture.PictureState, Text.CanBeDrawn}
use Rattle.race_draw.proofs.PictureLemmas.{race_printable}

module _ (trace : TraceState) (is_trace : IsTrace trace) (r : Race) (races : RacesInOrder (capacities trace) trace.events r) where
  race_is_of : IsOf trace (race_of r)
  race_is_of =
      let conflict = races.race.conflict in
      record {
        var = race_declared (capacities trace) trace r.var r.first r.second is_trace races.race;
        first = slice_get_within trace.events r.first conflict.1.0 conflict.1.1;
        second = slice_get_within trace.events r.second conflict.2.0 conflict.2.1;
      }

  seen_within : (seen : Option ℕ) → IsLastSeen (capacities trace) trace.events r seen → IfSome seen (λ p. p < length trace.events)
  seen_within None none = tt
  seen_within (Some p) last = slice_get_within trace.events p last.part.0 last.part.1

  who_within : (i : ℕ) (e : Event) → slice_get trace.events i ≡ Some e → who_at trace.events i < count_of Kind.Goroutine trace.decls.declarations
  who_within i e at =
      subst (λ (o : Option Event). (elim o [ Some e ↦ e.who | None ↦ 0 ]) < count_of Kind.Goroutine trace.decls.declarations) (sym at)
      (range_in_trace trace i e is_trace at).0

  -- by the parts of a layout
  pub parts_can_be_drawn : (seen : Option ℕ) (edges way : List Edge) (m : Edge) (p : PictureState) → m ≡ missing trace.events r
      → IsLastSeen (capacities trace) trace.events r seen → IsPictureOf trace edges m way p → CanBeDrawn trace (record { race = r; seen = seen; picture = p })
  parts_can_be_drawn seen edges way m p same last is =
      let conflict = races.race.conflict in
      record {
        race = race_is_of;
        seen = seen_within seen last;
        picture = race_printable trace edges (missing trace.events r) way p
            (who_within r.first conflict.1.0 conflict.1.1) (who_within r.second conflict.2.0 conflict.2.1)
            (subst (λ (e : Edge). IsPictureOf trace edges e way p) same is);
      }

-- one layout more
pub laid_more : (trace : TraceState) (edges : List Edge) (races : List Race) (layouts : List LayoutState) (i : ℕ) (r : Race) (l : LayoutState)
    → length layouts ≡ i → slice_get races i ≡ Some r → IsLayoutOf trace edges r l
    → ((k : ℕ) (q : Race) (x : LayoutState) → slice_get races k ≡ Some q → slice_get layouts k ≡ Some x → IsLayoutOf trace edges q x)
    → (k : ℕ) (q : Race) (x : LayoutState) → slice_get races k ≡ Some q → slice_get (layouts ++ l ∷ []) k ≡ Some x → IsLayoutOf trace edges q x
laid_more trace edges races layouts i r l as_many this is each k q x here there = elim (push_at layouts l k x there) [
  | inl old ↦ each k q x here old
  | inr new ↦
      let index : k ≡ i = new.0 ∙ as_many in
      let same : r ≡ q = at_same races i r q this (ap (slice_get races) (sym index) ∙ here) in
      subst (λ (y : LayoutState). IsLayoutOf trace edges q y) new.1 (subst (λ (r : Race). IsLayoutOf trace edges r l) same is)
]

-- what is listed are edges
pub listed_are_edges : (trace : TraceState) (edges : List Edge) → AreListed trace edges → All (IsEdge (capacities trace) trace.events) edges
listed_are_edges trace edges (inl all) i d less = all.1.each i (get_or edges i d) (slice_get-get_or edges i d less)
listed_are_edges trace edges (inr none) i d less = let len : length edges ≡ 0 = ap length none.1 in absurd (omega (arith, less, len))
