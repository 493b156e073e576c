-- What is noted of a run is a run on one thread.
use Rattle.std.proofs.Common.{ℕ, ◌≡◌, ◌≢◌, ◌⊎◌, ◌<◌, ◌≤◌, ◌+◌, ◌-◌, ◌^◌, ◌++◌, List, [], ◌∷◌, length, Bool, true, false, Option, Some, None, IsSome, refl, sym, ap}
use Rattle.std.proofs.Common.{◌∙◌, arith, subst, suc, zero, length-append, ◌&&◌, if◌then◌else◌, inl, inr, All}
use Rattle.std.{proofs.lemmas.{List.Elements.{All-head, All-tail}, Option.none-some}, specs.Prelude.{is_none, nat_lt, slice_get, unwrap_or}}
use Rattle.race_hub.specs.{declared.ending.End.End, Hub.{HubState, stop_of, end_of, choices_of, is_deadlock}, Fires.IsFired}
use Rattle.race_requests.specs.declared.request.{Answer.Answer, Request.Request}
use Rattle.race_record.specs.{declared.noting.Fork.Fork, Serial.{pick_of, Comes, TakesTurn, begins, turns, fires}}
use Rattle.race_record.specs.Noting.{HaveNext, IsNotedOut, fork_at, Notes, no_event, turn, event}
use Rattle.race_record.proofs.SerialLemmas.{turn_keeps, run_is_out}

-- a number comes after each pick, and after 0
pub has_next : (picks : List ℕ) (number : ℕ) → HaveNext picks → pick_of picks number + 1 < 2 ^ 64
has_next [] number all = omega arith
has_next (p ∷ picks) zero all = All-head (λ pick. pick + 1 < 2 ^ 64) p picks all
has_next (p ∷ picks) (suc number) all = has_next picks number (All-tail (λ pick. pick + 1 < 2 ^ 64) p picks all)

-- what stops the hub decides whether it has ended
runs_on : {R : Type 0} (h : HubState R) → end_of h ≡ None → is_none (stop_of h) ≡ true
runs_on h is = by (stop_of h) (is_deadlock h) is
  where
    by : (stop : Option End) (dead : Bool) → ◌≡◌ {A = Option End} (elim stop [ Some e ↦ Some e | None ↦ if dead then Some End.Deadlock else None ]) None
        → is_none stop ≡ true
    by (Some e) dead is = absurd (none-some e (sym is))
    by None dead is = refl

-- whether there is a choice of the next number
pub has_more : {R : Type 0} (h : HubState R) (pick : ℕ) (more : Bool) → end_of h ≡ None
    → more ≡ (is_none (stop_of h) && nat_lt (pick + 1) (length (choices_of h))) → record { pick = pick; more = more } ≡ fork_at h pick
has_more h pick more on is =
    ap (λ (b : Bool). record { pick = pick; more = b }) (is ∙ ap (λ b. b && nat_lt (pick + 1) (length (choices_of h))) (runs_on h on))

module _ {R : Type 0} (asks : R → Answer → Request → R → Type 0) (picks : List ℕ) (start : HubState R) where
  -- there is one for each event of the run
  pub notes_count : {forks : List Fork} {h : HubState R} → Notes asks picks start forks h → length h.events ≡ length start.events + length forks
  notes_count no_event = omega arith
  notes_count (turn forks old new notes taken) = ap length (turn_keeps asks old new taken).0 ∙ notes_count notes
  notes_count (event forks old new notes idle fired) =
      let before = notes_count notes in
      let longer : length new.events ≡ length old.events + 1 = ap length fired.fires.events ∙ length-append old.events (fired.fires.e ∷ []) in
      let more = length-append forks (fork_at old (pick_of picks (length forks)) ∷ []) in
      omega (arith, before, longer, more)

  pub notes_come : {forks : List Fork} {h : HubState R} → Notes asks picks start forks h → Comes asks picks start h
  notes_come no_event = begins
  notes_come (turn forks old new notes taken) = turns old new (notes_come notes) taken
  notes_come (event forks old new notes idle fired) =
      let before = notes_count notes in
      let number : length forks ≡ length old.events - length start.events = omega (arith, before) in
      fires old new (notes_come notes) idle (subst (λ n. IsFired (pick_of picks n) old new) number fired)

  nobody_ready : (h same : HubState R) → same ≡ h → (end_of h ≢ None) ⊎ (h.ready ≡ []) → end_of same ≡ None → same.ready ≡ []
  nobody_ready h same is (inl ended) running = absurd (ended (ap end_of (sym is) ∙ running))
  nobody_ready h same is (inr ready) running = ap (λ (h : HubState R). h.ready) is ∙ ready

  -- an event is noted
  pub notes_on : (forks now : List Fork) (h same new : HubState R) (pick number : ℕ) (more : Bool) → Notes asks picks start forks h → same ≡ h
      → (end_of h ≢ None) ⊎ (h.ready ≡ []) → number ≡ length forks → pick ≡ pick_of picks number
      → more ≡ (is_none (stop_of same) && nat_lt (pick + 1) (length (choices_of same))) → IsFired pick same new
      → now ≡ forks ++ record { pick = pick; more = more } ∷ [] → Notes asks picks start now new
  notes_on forks now h same new pick number more notes is idle number_is pick_is more_is fired now_is =
      let asked : pick ≡ pick_of picks (length forks) = pick_is ∙ ap (pick_of picks) number_is in
      let fork : record { pick = pick; more = more } ≡ fork_at same (pick_of picks (length forks)) =
      has_more same pick more fired.running more_is ∙ ap (fork_at same) asked in
      subst (λ (fs : List Fork). Notes asks picks start fs new) (sym (now_is ∙ ap (λ (f : Fork). forks ++ f ∷ []) fork))
      (event forks same new (subst (λ h. Notes asks picks start forks h) (sym is) notes) (nobody_ready h same is idle fired.running)
      (subst (λ p. IsFired p same new) asked fired))

  -- nothing is left to do
  pub is_noted_out : (forks : List Fork) (h same new : HubState R) → Notes asks picks start forks h → h.out ≡ [] → same ≡ h
      → (end_of h ≢ None) ⊎ (h.ready ≡ []) → new ≡ same → (end_of same ≢ None) ⊎ (choices_of same ≡ []) → IsNotedOut asks picks start forks new
  is_noted_out forks h same new notes out is idle stays stuck =
      subst (λ h. IsNotedOut asks picks start forks h) (sym (stays ∙ is)) (record {
        notes = notes;
        ended = run_is_out h out idle (subst (λ (h : HubState R). (end_of h ≢ None) ⊎ (choices_of h ≡ [])) is stuck);
        back = out;
      })
