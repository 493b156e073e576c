-- The hub after a job was put back, or taken.
use Rattle.std.proofs.Common.{List, ◌≡◌, ◌==◌, ◌&&◌, ◌||◌, not, ℕ, zero, suc, ◌<◌, ◌++◌, Bool, true, false, if◌then◌else◌}
use Rattle.std.proofs.Common.{[], ◌∷◌, length, All, IsTrue, Option, Some, None, is_none, refl, sym, ap, ◌∙◌, subst, arith}
use Rattle.std.proofs.{Common.{slice_get, eq-eqb, true≢false, ◌≢◌, get_or}, lemmas.{Option.none-some, List.length-set}}
use Rattle.std.{proofs.lemmas.List.Elements.All-append, specs.{List.{count_by, list_any, remove}}}
use Rattle.race_model.{proofs.CountSteps.as_number, specs.{Events.{is_fault, has_exited}, State.started}}
use Rattle.race_legal.specs.ReplayState.{ReplayState}
use Rattle.race_requests.specs.{declared.request.{Answer.Answer, Waiter.Waiter, Request.Request}, Sound.{is_sound, is_out_of_turn}}
use Rattle.race_requests.proofs.ChoiceLemmas.{some_is}
use Rattle.race_hub.specs.{declared.ending.End.End, Hub.{HubState, stop_by, stop_of, end_of, is_last, is_main_exit}}
use Rattle.race_hub.specs.{HubHolds.HaveRoom, Holds.Holds, Job.JobState, Kept.{standing, is_active, has_failed, IsKept}}
use Rattle.race_hub.specs.{Recording.HasBadRequest, Submits.{is_bad, is_stray, ends_hub, Takes, Submits}}
use Rattle.race_hub.proofs.{TableLemmas.{both_true, same_number}, EndLemmas.end_while_out}
use Rattle.race_hub.proofs.EndedLemmas.{bad_stays, bad_joins, out_waits_not, standing_stays}
use Rattle.race_hub.proofs.{KeptLemmas.{taken_kept, submitted_kept, was_out, fewer_out, routine_there}, OnceLemmas.{at_most_one, count_append, count_one, count_cons}}

all_one : {X : Type 0} (P : X → Type 0) (x : X) → P x → All P (x ∷ [])
all_one P x holds zero d less = holds
all_one P x holds (suc k) d less = absurd (omega (arith, less))

module _ {R : Type 0} where
  -- a hub with no bad goroutine is stopped by its events and its limit alone
  stop_same : (old new : HubState R) → new.events ≡ old.events → new.limit ≡ old.limit → new.bad ≡ old.bad → stop_of new ≡ stop_of old
  stop_same old new e l b = λ i. stop_by (e i) (l i) (b i)

  pub bad_stops : (h : HubState R) (g : ℕ) → h.bad ≡ Some g → stop_of h ≡ None → ⊥
  unfolding stop_by
  bad_stops h g is on = by (is_last is_main_exit h.events) (is_last (λ e. is_fault e.op) h.events) h.bad (length h.events == h.limit) is on
    where
      by : (a b : Bool) (bad : Option ℕ) (full : Bool) → bad ≡ Some g
          → ◌≡◌ {A = Option End} (if a then Some End.Main else (if b then Some End.Fault
          else elim bad [ Some g ↦ Some (End.Bad g) | None ↦ if full then Some End.Limit else None ])) None → ⊥
      by false false None full is on = none-some _ is
      by _ _ _ full is on = absurd cc

  not_bad : (h : HubState R) (w : Waiter) (stop : Option End) → stop ≡ None → (is_none stop && is_bad h w) ≡ false → is_sound h.decls w ≡ true
  not_bad h w (Some e) on is = absurd (none-some e (sym on))
  not_bad h w None on is = by (is_sound h.decls w) (is_out_of_turn h.events h.waiting w.who w.asked.ask) is
    where
      by : (a b : Bool) → (not a || b) ≡ false → a ≡ true
      by true b is = refl
      by false b is = absurd cc

  -- whether its request ends the hub, where its job is out
  pub ends_test : (h : HubState R) (job : JobState R) (w : Waiter) → list_any (λ o. o == job.who) h.out ≡ true → w.who ≡ job.who → job.asked ≡ Some w.asked
      → ends_hub h job ≡ (is_none (stop_of h) && is_bad h w)
  ends_test h job w among same asks =
      ap (λ (o : Option Request). elim o [ None ↦ false | Some asked ↦ is_none (end_of h) && is_bad h (record { who = job.who; asked = asked }) ]) asks
      ∙ ap (λ n. is_none (end_of h) && is_bad h (record { who = n; asked = w.asked })) (sym same)
      ∙ ap (λ (e : Option End). is_none e && is_bad h w) (end_while_out h (λ o. o == job.who) among)

  -- what the job asks
  abbrev waiter : JobState R → Request → Waiter
  waiter job asked = record { who = job.who; asked = asked }

  -- what a hub holds it holds with one job back, whose request was bad or not
  pub submitted : {k : ReplayState} {old new : HubState R} {job : JobState R} {P Q : Type 0} → Submits old job new → is_stray old job ≡ false
      → Holds k old → P → Q → Submits old job new × (Holds k new × P × Q)
  submitted {k} {old} {new} {job} {P} {Q} t back holds p q =
      let (decls, events, limit, ready) = t.same in
      let len = ap length t.routines ∙ length-set old.routines job.who (Some job.routine) in (
        t,
        (
          record {
            kept = submitted_kept old new job back t holds.kept;
            stands = rw (decls, events) holds.stands;
            few = rw limit holds.few;
            few_goroutines = rw len holds.few_goroutines;
            count = rw (len, decls) holds.count;
            sound = λ on.
                let (before, sound) = sound_by (is_none (stop_of old) && is_bad old (waiter job t.asked)) refl is on in
                rw (t.waiting, decls) (All-append (λ w. IsTrue (is_sound old.decls w)) old.waiting (waiter job t.asked ∷ []) (holds.sound before)
                (all_one (λ w. IsTrue (is_sound old.decls w)) (waiter job t.asked) sound));
            bad_waits = λ g named. rw (decls, events, t.waiting) (bad_by g (is_none (stop_of old) && is_bad old (waiter job t.asked)) refl (sym is ∙ named));
          },
          p,
          q,
        ),
      )
    where
      is : new.bad ≡ (if is_none (stop_of old) && is_bad old (waiter job t.asked) then Some job.who else old.bad)
      is = t.bad ∙ ap (λ b. if b then Some job.who else old.bad) (ends_test old job (waiter job t.asked) (was_out old job back) refl t.asks)

      sound_by : (b : Bool) → b ≡ (is_none (stop_of old) && is_bad old (waiter job t.asked)) → new.bad ≡ (if b then Some job.who else old.bad) → stop_of new ≡ None
          → (stop_of old ≡ None) × (is_sound old.decls (waiter job t.asked) ≡ true)
      sound_by true test is on = absurd (bad_stops new job.who is on)
      sound_by false test is on =
          let (decls, events, limit, ready) = t.same in
          let before = sym (stop_same old new events limit is) ∙ on in
          (before, not_bad old (waiter job t.asked) (stop_of old) before (sym test))

      bad_by : (g : ℕ) (b : Bool) → b ≡ (is_none (stop_of old) && is_bad old (waiter job t.asked)) → (if b then Some job.who else old.bad) ≡ Some g
          → HasBadRequest old.decls old.events (old.waiting ++ waiter job t.asked ∷ []) g
      bad_by g false test named = bad_stays old.decls old.events old.waiting (waiter job t.asked ∷ []) g (holds.bad_waits g named)
      bad_by g true test named =
          let one : as_number (job.who == job.who) ≡ 1 = ap as_number (eq-eqb job.who job.who refl) in
          let gone = fewer_out old new job back t job.who in
          let none = out_waits_not old job.who (count_by (λ o. o == job.who) new.out) holds.kept.once (omega (arith, gone, one)) in
          subst (HasBadRequest old.decls old.events (old.waiting ++ waiter job t.asked ∷ [])) (some_is named)
          (bad_joins old.decls old.events old.waiting (waiter job t.asked) none (both_true (is_none (stop_of old)) (is_bad old (waiter job t.asked)) (sym test)).1)

  -- and with one job out
  pub taken : {k : ReplayState} {old new : HubState R} {job : JobState R} {P Q : Type 0} → Takes old job new → Holds k old → P → Q
      → Takes old job new × (Holds k new × P × Q)
  taken {k} {old} {new} {job} {P} {Q} t holds p q =
      let (decls, events, limit, waiting, bad) = t.same in
      let len = ap length t.routines ∙ length-set old.routines job.who None in (
        t,
        (
          record {
            kept = taken_kept old new job t holds.kept;
            stands = rw (decls, events) holds.stands;
            few = rw limit holds.few;
            few_goroutines = rw len holds.few_goroutines;
            count = rw (len, decls) holds.count;
            sound = λ on. rw (waiting, decls) (holds.sound (sym (stop_same old new events limit bad) ∙ on));
            bad_waits = λ g is. rw (decls, events, waiting) (holds.bad_waits g (sym bad ∙ is));
          },
          p,
          q,
        ),
      )

  -- whoever is ready has its routine
  pub ready_routine : (h : HubState R) (who : ℕ) (answer : Answer) (rest : List (ℕ × Answer)) → h.ready ≡ (who, answer) ∷ rest → IsKept h
      → (who < length h.routines) × ((routine : R) × (slice_get h.routines who ≡ Some (Some routine)))
  ready_routine h who answer rest is kept =
      let sum = ap (count_by (λ (r : ℕ × Answer). r.0 == who)) is ∙ count_cons (λ (r : ℕ × Answer). r.0 == who) (who, answer) rest in
      let one : as_number (who == who) ≡ 1 = ap as_number (eq-eqb who who refl) in
      let once = kept.once who in
      let within = kept.places who (omega (arith, sum, one)) in
      let stays = standing_stays (who == 0 || started who h.events) (has_exited who h.events) (has_failed who h.events)
      (standing h who) once (omega (arith, sum, one)) in
      let active = at_most_one (is_active who h.events) in
      (within, routine_there h who kept within (omega (arith, sum, one, once, active)) stays)

  -- the room of those that wait, with one job out
  pub room_taken : (h : HubState R) (who : ℕ) (answer : Answer) (rest : List (ℕ × Answer)) (old new : List Bool) → h.ready ≡ (who, answer) ∷ rest
      → IsKept h → HaveRoom h.waiting old → ((k : ℕ) → k ≢ who → slice_get new k ≡ slice_get old k) → HaveRoom h.waiting new
  room_taken h who answer rest old new is kept room others g some =
      others g (λ same. by (sym same)) ∙ room g some
    where
      by : who ≡ g → ⊥
      by same =
          let sum = ap (count_by (λ (r : ℕ × Answer). r.0 == g)) is ∙ count_cons (λ (r : ℕ × Answer). r.0 == g) (who, answer) rest in
          let one : as_number (who == g) ≡ 1 = ap as_number (eq-eqb who g same) in
          let once = kept.once g in
          let active = at_most_one (is_active g h.events) in
          absurd (omega (arith, sum, one, once, active, some))

-- and with one request more
pub room_joined : (waiting : List Waiter) (w : Waiter) (old new : List Bool) → HaveRoom waiting old → slice_get new w.who ≡ Some true
    → ((k : ℕ) → k ≢ w.who → slice_get new k ≡ slice_get old k) → HaveRoom (waiting ++ w ∷ []) new
room_joined waiting w old new room at others g some = by (w.who == g) refl
  where
    by : (b : Bool) → (w.who == g) ≡ b → slice_get new g ≡ Some true
    by true test = ap (slice_get new) (sym (same_number w.who g test)) ∙ at
    by false test =
        let more = count_append (λ (w : Waiter). w.who == g) waiting (w ∷ []) in
        let one = count_one (λ (w : Waiter). w.who == g) w in
        let none = ap as_number test in
        others g (λ same. true≢false (sym (eq-eqb w.who g (sym same)) ∙ test)) ∙ room g (omega (arith, more, one, none, some))

-- the first of a list that isn't empty
pub front_of : {X : Type 0} (xs : List X) (x : X) → 0 < length xs → x ≡ get_or xs 0 x → xs ≡ x ∷ remove xs 0
front_of [] x less is = absurd (omega (arith, less))
front_of (y ∷ ys) x less is = ap (λ z. z ∷ ys) (sym is)

-- whoever is ready longest has a place, and its routine is there
pub first_ready : {R : Type 0} (h : HubState R) (r : ℕ × Answer) → 0 < length h.ready → r ≡ get_or h.ready 0 r → IsKept h
    → (r.0 < length h.routines) × ((routine : R) × (slice_get h.routines r.0 ≡ Some (Some routine)))
first_ready h r some is kept = ready_routine h r.0 r.1 (remove h.ready 0) (front_of h.ready r some is) kept
