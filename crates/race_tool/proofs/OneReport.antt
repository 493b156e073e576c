-- Whichever finding is right for a list of bytes, the report is the same.
use Rattle.std.proofs.Common.{◌≡◌, ℕ, ◌+◌, Bool, IsTrue, List, [], ◌∷◌, ◌++◌, length, map, slice_get, unwrap_or, codes}
use Rattle.std.proofs.Common.{decimal, Option, Some, None, option_map, refl, sym, ap, ◌∙◌, subst, arith}
use Rattle.std.proofs.lemmas.{List.length-map, Option.{none-some, same_Some, slice_get-map}, Simd.map-map}
use Rattle.std.specs.List.{flat_map, concat}
use Rattle.race_records.specs.{declared.event.{Event.Event, Op.Op}, Declarations.capacity_of, Events.TraceState}
use Rattle.race_records.specs.TraceEquality.{PlacedEvent, placed, placed_events, Recorded, recorded}
use Rattle.race_model.specs.{Events.{operations, count, is_access}, Verdict.{Race, Verdict, Illegal, Clean, Races}}
use Rattle.race_model.{specs.Verdict.IsVerdict, proofs.PlacesAside.{counted_alike, verdict_alike}}
use Rattle.race_model.proofs.Uniqueness.{verdict_unique}
use Rattle.race_text.specs.{declared.cause.TextFault.TextFault, Fault.text_fault, Text.{goroutine_name, var_name}}
use Rattle.race_text.{specs.Text.{place_text, IsTextOf}, proofs.{TextFine.text_has_no_fault, TextLaws.equal_texts}}
use Rattle.race_report.specs.Report.{newline, clean_line, access_word, access_text, race_line, races_line, report}
use Rattle.race_verdict.specs.Traces.{capacities, HasVerdict}
use Rattle.race_tool.specs.Finding.{Finding, Faulty, TooLong, Judged, IsFinding, report_of, status_of}
use Rattle.race_tool.specs.declared.status.TheConstants as status

-- two traces that record the same
module _ (t u : TraceState) (same : recorded t ≡ recorded u) where
  declarations_same : t.decls.declarations ≡ u.decls.declarations
  declarations_same = ap (λ (r : Recorded). r.declared.declarations) same

  events_same : placed_events t ≡ placed_events u
  events_same = ap (λ (r : Recorded). r.events) same

  doing : PlacedEvent → ℕ × Op
  doing p = (p.who, p.op)

  operations_same : operations t.events ≡ operations u.events
  unfolding doing
  operations_same = sym (map-map doing (placed t.decls.places) t.events) ∙ ap (map doing) events_same ∙ map-map doing (placed u.decls.places) u.events

  length_same : length t.events ≡ length u.events
  length_same = sym (length-map t.events (placed t.decls.places)) ∙ ap length events_same ∙ length-map u.events (placed u.decls.places)

  accesses_same : count is_access t.events ≡ count is_access u.events
  accesses_same = counted_alike t.events u.events operations_same (λ c. is_access c.1)

  event_same : (i : ℕ) → option_map (placed t.decls.places) (slice_get t.events i) ≡ option_map (placed u.decls.places) (slice_get u.events i)
  event_same i = sym (slice_get-map (placed t.decls.places) t.events i) ∙ ap (λ l. slice_get l i) events_same ∙ slice_get-map (placed u.decls.places) u.events i

  -- an access is printed the same, whatever the numbers of places
  access_same : (i : ℕ) → access_text t i ≡ access_text u i
  unfolding access_text
  access_same i = by (slice_get t.events i) (slice_get u.events i) (event_same i)
    where
      words : TraceState → Option Event → List (List ℕ)
      words trace o =
          elim o [
            | None ↦ []
            | Some e ↦
                access_word e.op ∷ codes " by " ∷ goroutine_name trace.decls.declarations e.who
                ∷ codes " at " ∷ place_text trace.decls.places e.place
                ∷ codes " (event " ∷ decimal (i + 1) ∷ codes ")" ∷ []
          ]

      by : (o p : Option Event) → option_map (placed t.decls.places) o ≡ option_map (placed u.decls.places) p → words t o ≡ words u p
      by None None h = refl
      by None (Some f) h = absurd (none-some (placed u.decls.places f) h)
      by (Some e) None h = absurd (none-some (placed t.decls.places e) (sym h))
      by (Some e) (Some f) h =
          let one = same_Some (placed t.decls.places e) (placed u.decls.places f) h in
          λ j. access_word (one j).op ∷ codes " by " ∷ goroutine_name (declarations_same j) (one j).who
          ∷ codes " at " ∷ unwrap_or (one j).place []
          ∷ codes " (event " ∷ decimal (i + 1) ∷ codes ")" ∷ []

  race_same : (race : Race) → race_line t race ≡ race_line u race
  unfolding race_line
  race_same race = λ j. concat (codes "race on " ∷ var_name (declarations_same j) race.var ∷ codes ": "
      ∷ (access_same race.first j ++ codes ", " ∷ (access_same race.second j ++ newline ∷ [])))

  pub report_same : (verdict : Verdict) → report t verdict ≡ report u verdict
  unfolding clean_line
  report_same (Illegal index rule) = refl
  report_same Clean = λ j. concat (codes "clean: " ∷ decimal (length_same j) ∷ codes " events, " ∷ decimal (accesses_same j) ∷ codes " accesses" ∷ newline ∷ [])
  report_same (Races races) = λ j. flat_map (λ race. race_same race j) races ++ races_line (length races)

module _ (bytes : List ℕ) where
  -- the bytes are the text of one trace at most
  one_trace : (t u : TraceState) → IsTextOf t bytes → IsTextOf u bytes → recorded t ≡ recorded u
  one_trace t u is are = equal_texts t u is.has_text are.has_text (sym is.printed ∙ are.printed)

  -- and then they have no fault
  never_both : (t : TraceState) (fault : TextFault) → IsTextOf t bytes → text_fault bytes ≡ Some fault → ⊥
  never_both t fault is h = none-some fault (sym (ap text_fault is.printed ∙ text_has_no_fault t is.has_text) ∙ h)

  -- traces with one text declare the same capacities and do the same, so they have one verdict
  one_verdict : (t u : TraceState) (v w : Verdict) → IsTextOf t bytes → IsTextOf u bytes → HasVerdict t v → HasVerdict u w → v ≡ w
  one_verdict t u v w is are judged other =
      let same = one_trace t u is are in
      let verdict : HasVerdict u v = subst (λ ds. IsVerdict (capacity_of ds) u.events v) (declarations_same t u same)
      (verdict_alike t.events u.events (operations_same t u same) (capacities t) v judged) in
      verdict_unique (capacities u) u.events v w verdict other

  -- two right findings print the same, unless one judge takes what is too long for the other
  pub one_report : (p q : Bool) (f g : Finding) → (status_of f ≡ status.USAGE → IsTrue p → IsTrue q) → (IsTrue q → IsTrue p)
      → IsFinding p bytes f → IsFinding q bytes g → (report_of f ≡ report_of g) × (status_of f ≡ status_of g)
  one_report p q (Faulty a) (Faulty b) there back h k = let same = same_Some a b (sym h ∙ k) in (ap (λ x. report_of (Faulty x)) same, refl)
  one_report p q (Faulty a) (TooLong n) there back h (plain, (u, are, length_is, over)) = absurd (never_both u a are h)
  one_report p q (Faulty a) (Judged u w) there back h (are, short, judged) = absurd (never_both u a are h)
  one_report p q (TooLong m) (Faulty b) there back (plain, (t, is, length_is, over)) k = absurd (never_both t b is k)
  one_report p q (TooLong m) (TooLong n) there back (plain, (t, is, m_is, over)) (both, (u, are, n_is, more)) =
      let same : m ≡ n = sym m_is ∙ length_same t u (one_trace t u is are) ∙ n_is in
      (ap (λ k. report_of (TooLong k)) same, refl)
  one_report p q (TooLong m) (Judged u w) there back (plain, (t, is, m_is, over)) (are, short, judged) =
      let same = length_same t u (one_trace t u is are) in
      absurd (omega (arith, same, m_is, over, short (there refl plain)))
  one_report p q (Judged t v) (Faulty b) there back (is, short, judged) k = absurd (never_both t b is k)
  one_report p q (Judged t v) (TooLong n) there back (is, short, judged) (plain, (u, are, n_is, over)) =
      let same = length_same t u (one_trace t u is are) in
      absurd (omega (arith, same, n_is, over, short (back plain)))
  one_report p q (Judged t v) (Judged u w) there back (is, short, judged) (are, less, other) =
      let same = one_verdict t u v w is are judged other in
      (report_same t u (one_trace t u is are) v ∙ ap (report u) same, ap (λ x. status_of (Judged u x)) same)
