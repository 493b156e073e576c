-- Races of a right verdict and edges of a trace have the trace's numbers, so they can be printed.
use Rattle.std.proofs.Common.{◌≡◌, ℕ, ◌<◌, inl, inr, List, length, map, Option, Some, IfSome, slice_get, get_or, All}
use Rattle.std.proofs.{Common.{IsTrue, subst, ap, ◌∙◌, arith}, lemmas.{Bool.Decides.nat_tests, Option.slice_get_within}}
use Rattle.std.{proofs.lemmas.Option.{slice_get-map, slice_get-get_or, get_or_from_slice_get}, specs.Option.option_map}
use Rattle.race_records.specs.declared.{event.Event.Event, kind.Kind.Kind}
use Rattle.race_records.specs.{Declarations.{DeclsState, count_of, counts_of}, Events.{TraceState, IsTrace, fits}}
use Rattle.race_legal.proofs.RangeLemmas.{range_from_fits}
use Rattle.race_model.{specs.{Events.partner, Race.IsReportedRace}, proofs.Indexes.take_at_old}
use Rattle.race_edges.specs.{declared.edge_list.Edge.Edge, Edges.{IsEdge, AreEdges}}
use Rattle.race_edges.proofs.SynchronizedLemmas.{inside_pair}
use Rattle.race_verdict.proofs.RangeLemmas.{range_in_trace, partner_in_range, race_declared}
use Rattle.race_verdict.specs.declared.{report.{ReportedAccess.ReportedAccess, Report.Report}, verdict.Verdict.Verdict}
use Rattle.race_verdict.specs.{Notes.{IsNoteOf, IsNotedRaceOf, IsNotedOf, race_noted, verdict_noted}, Races.race_of}
use Rattle.race_verdict.specs.{Traces.{capacities, HasVerdict}, Verdicts.verdict_of}
use Rattle.race_report.specs.Printable.{IsOf, RacesAreOf, IsNoteNamed, AreNamed, IsEdgeOf}
use Rattle.race_model.specs.Verdict as model
use Rattle.race_verdict.specs.declared.races.Race as tool

module _ (trace : TraceState) (is_trace : IsTrace trace) where
  race_is_of : (caps : ℕ → ℕ) (race : model.Race) → IsReportedRace caps trace.events race.var race.first race.second → IsOf trace race
  race_is_of caps race reported =
      let conflict = reported.race.conflict in
      let first = conflict.1 in
      let second = conflict.2 in
      record {
        var = race_declared caps trace race.var race.first race.second is_trace reported.race;
        first = slice_get_within trace.events race.first first.0 first.1;
        second = slice_get_within trace.events race.second second.0 second.1;
      }

-- what holds of each race in the model's list holds of each race in the code's
all_races : (P : model.Race → Type 0) (races : List tool.Race) → ((k : ℕ) (r : model.Race) → slice_get (map race_of races) k ≡ Some r → P r)
    → All (λ (r : tool.Race). P (race_of r)) races
all_races P races each =
    λ i d within. each i (race_of (get_or races i d)) (slice_get-map race_of races i ∙ ap (option_map race_of) (slice_get-get_or races i d within))

-- so those of a right verdict can be printed
pub races_are_of : {A : Type 0} (trace : TraceState) (verdict : Verdict A) → IsTrace trace → HasVerdict trace (verdict_of verdict) → RacesAreOf trace verdict
races_are_of trace (Verdict.Illegal illegal) is_trace right = tt
races_are_of trace Verdict.Clean is_trace right = tt
races_are_of trace (Verdict.Races races) is_trace right =
    all_races (IsOf trace) races (λ k r at. race_is_of trace is_trace (capacities trace) r (right.2.each k r at))

-- so do edges of the trace: their goroutines take part in its events
module _ (trace : TraceState) (is_trace : IsTrace trace) where
  who_in_range : (i : ℕ) (e : Event) → slice_get trace.events i ≡ Some e → e.who < count_of Kind.Goroutine trace.decls.declarations
  who_in_range i e at = (range_in_trace trace i e is_trace at).0

  partner_is_in_range : (i : ℕ) (e : Event) (g : ℕ) → slice_get trace.events i ≡ Some e → partner e.op ≡ Some g
      → g < count_of Kind.Goroutine trace.decls.declarations
  partner_is_in_range i e g at is =
      subst (λ (o : Option ℕ). IfSome o (λ n. n < count_of Kind.Goroutine trace.decls.declarations)) is
      (partner_in_range (counts_of trace.decls.declarations) e.op (range_in_trace trace i e is_trace at).1)

  edge_is_of : (caps : ℕ → ℕ) (edge : Edge) → IsEdge caps trace.events edge → IsEdgeOf trace edge
  edge_is_of caps edge (e, at, how) = elim how [
    | inl inside ↦ elim (inside_pair e.who e.op edge.from_who edge.to_who inside.1) [
      | inl pair ↦ record {
        from_who = subst (λ n. n < count_of Kind.Goroutine trace.decls.declarations) pair.0 (who_in_range edge.to e at);
        to_who = partner_is_in_range edge.to e edge.to_who at pair.1;
      }
      | inr pair ↦ record {
        from_who = partner_is_in_range edge.to e edge.from_who at pair.0;
        to_who = subst (λ n. n < count_of Kind.Goroutine trace.decls.declarations) pair.1 (who_in_range edge.to e at);
      }
    ]
    | inr source ↦ record {
      from_who = subst (λ n. n < count_of Kind.Goroutine trace.decls.declarations) source.3
          (who_in_range edge.from source.0 (take_at_old edge.to trace.events edge.from source.0 source.1));
      to_who = subst (λ n. n < count_of Kind.Goroutine trace.decls.declarations) source.4 (who_in_range edge.to e at);
    }
  ]

  pub edges_are_of : (caps : ℕ → ℕ) (edges : List Edge) → AreEdges caps trace.events edges → All (IsEdgeOf trace) edges
  edges_are_of caps edges are = λ i d within. edge_is_of caps (get_or edges i d) (are.each i (get_or edges i d) (slice_get-get_or edges i d within))

-- the place of an event that fits is declared
pub place_from_fits : (decls : DeclsState) (e : Event) → IsTrue (fits decls e) → e.place < length decls.places
unfolding fits
place_from_fits decls e fit = grind (arith, nat_tests)

-- what is noted of events of the trace is declared
module _ (trace : TraceState) (is_trace : IsTrace trace) where
  note_is_named : (n : ReportedAccess) → IsNoteOf trace.events n → IsNoteNamed trace.decls n
  note_is_named n is =
      let fit : IsTrue (fits trace.decls is.event) = subst (λ (e : Event). IsTrue (fits trace.decls e))
      (get_or_from_slice_get trace.events n.at is.event is.event is.stands)
      (is_trace.fit n.at is.event (slice_get_within trace.events n.at is.event is.stands)) in
      record {
        who = subst (λ g. g < count_of Kind.Goroutine trace.decls.declarations) is.who (range_from_fits trace.decls is.event fit).0;
        place = subst (λ p. p < length trace.decls.places) is.place (place_from_fits trace.decls is.event fit);
      }

  pub notes_are_named : {A : Type 0} (verdict : Report A) → HasVerdict trace (verdict_noted verdict) → IsNotedOf trace.events verdict
      → AreNamed trace.decls verdict
  notes_are_named (Report.Illegal illegal) right noted = tt
  notes_are_named (Report.Clean events accesses) right noted = tt
  notes_are_named (Report.Races races) right noted = λ i d within.
      let both : IsNotedRaceOf trace.events (get_or races.items i d) = noted i d within in
      let at = slice_get-map race_noted races.items i ∙ ap (option_map race_noted) (slice_get-get_or races.items i d within) in
      record {
        var = (race_is_of trace is_trace (capacities trace) (race_noted (get_or races.items i d)) (right.2.each i (race_noted (get_or races.items i d)) at)).var;
        first = note_is_named (get_or races.items i d).first both.0;
        second = note_is_named (get_or races.items i d).second both.1;
      }
