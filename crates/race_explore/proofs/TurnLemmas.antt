-- What a turn makes of a hub from which no job is out.
use Rattle.std.proofs.Common.{ℕ, ◌≡◌, ◌==◌, ◌++◌, ◌&&◌, Bool, true, false, if◌then◌else◌, List, [], ◌∷◌, length}
use Rattle.std.proofs.Common.{Option, Some, None, is_none, refl, sym, ap, ◌∙◌, subst, arith, slice_get, slice_set}
use Rattle.std.proofs.lemmas.{Option.{none-some, same_Some, slice_get_within}}
use Rattle.race_model.{specs.Events.is_fault, proofs.Indexes.at_below}
use Rattle.race_requests.specs.{declared.request.{Answer.Answer, Request.Request, Waiter.Waiter}, Sound.is_bad_among}
use Rattle.race_hub.specs.{declared.ending.End.End, Job.{JobState, asking}, Hub.{HubState, choices_of, stop_by, stop_of, is_last, is_main_exit, is_deadlock, end_of}}
use Rattle.race_hub.specs.{Submits.{Submits, ends_hub, without_first}, Kept.IsKept}
use Rattle.race_hub.proofs.KeptLemmas.{taken_kept, submitted_kept}
use Rattle.race_record.specs.Serial.{IsTurned, TakesTurn}
use Rattle.race_record.proofs.SerialLemmas.{is_no_stray, none_is_out}

-- who waits with that request
abbrev pub asker : ℕ → Request → Waiter
asker who asked = record { who = who; asked = asked }

end_by : (stop : Option End) (dead : Bool) → ◌≡◌ {A = Option End} (elim stop [ Some e ↦ Some e | None ↦ if dead then Some End.Deadlock else None ]) None
    → stop ≡ None
end_by (Some e) dead is = absurd (none-some e (sym is))
end_by None dead is = refl

somebody_is_out : (b c : Bool) → (b && (false && c)) ≡ false
somebody_is_out true c = refl
somebody_is_out false c = refl

module _ {R : Type 0} where
  -- a hub that hasn't ended isn't stopped
  pub unstopped : (h : HubState R) → end_of h ≡ None → stop_of h ≡ None
  unstopped h running = end_by (stop_of h) (is_deadlock h) running

  -- where nothing stops it and somebody is ready or out, it hasn't ended
  pub runs_while : (h : HubState R) → stop_of h ≡ None → is_deadlock h ≡ false → end_of h ≡ None
  runs_while h on alive = λ i. elim (on i) [ Some e ↦ Some e | None ↦ if alive i then Some End.Deadlock else None ]

  -- nobody's request was bad
  pub none_bad : (h : HubState R) → stop_of h ≡ None → h.bad ≡ None
  unfolding stop_by
  none_bad h on = by (is_last is_main_exit h.events) (is_last (λ e. is_fault e.op) h.events) h.bad (length h.events == h.limit) on
    where
      by : (a b : Bool) (bad : Option ℕ) (full : Bool)
          → ◌≡◌ {A = Option End} (if a then Some End.Main else (if b then Some End.Fault
          else elim bad [ Some g ↦ Some (End.Bad g) | None ↦ if full then Some End.Limit else None ])) None → bad ≡ None
      by true b bad full is = absurd (none-some End.Main (sym is))
      by false true bad full is = absurd (none-some End.Fault (sym is))
      by false false (Some g) full is = absurd (none-some (End.Bad g) (sym is))
      by false false None full is = refl

module _ {R : Type 0} (asks : R → Answer → Request → R → Type 0) where
  -- who is ready first goes on with its answer, and waits with this request
  pub record Turns (h : HubState R) (who : ℕ) (asked : Request) (next : R) (m : HubState R) : Type 0 where
    pub answer : Answer
    pub routine : R
    pub running : end_of h ≡ None
    pub ready : h.ready ≡ (who, answer) ∷ m.ready
    pub routine_is : slice_get h.routines who ≡ Some (Some routine)
    pub does : asks routine answer asked next
    pub routines : m.routines ≡ slice_set (slice_set h.routines who None) who (Some next)
    pub waiting : m.waiting ≡ h.waiting ++ asker who asked ∷ []
    pub bad : m.bad ≡ (if is_bad_among h.decls h.events h.waiting (asker who asked) then Some who else h.bad)
    pub same : (m.decls ≡ h.decls) × (m.events ≡ h.events) × (m.limit ≡ h.limit)
    pub out : m.out ≡ []

  module _ (h m : HubState R) (none : h.out ≡ []) (t : TakesTurn asks h m) where
    -- while the job is out the hub goes on
    between_runs : end_of t.between ≡ None
    between_runs =
        let (decls, events, limit, waiting, bad) = t.takes.same in
        runs_while t.between ((λ i. stop_by (events i) (limit i) (bad i)) ∙ unstopped h t.running)
        (ap (λ (out : List ℕ). (length t.between.ready == 0) && ((length out == 0) && (length (choices_of t.between) == 0)))
        (t.takes.out ∙ ap (λ out. out ++ t.job.who ∷ []) none) ∙ somebody_is_out (length t.between.ready == 0) (length (choices_of t.between) == 0))

    facts : (asked : Request) (next : R) → t.turned ≡ asking t.job next asked → asks t.job.routine t.job.answer asked next → Turns h t.job.who asked next m
    facts asked next turned does =
        let (decls, events, limit, waiting, bad) = t.takes.same in
        let (decls2, events2, limit2, ready2) = t.submits.same in
        let s : Submits t.between (asking t.job next asked) m = subst (λ j. Submits t.between j m) turned t.submits in
        let question : s.asked ≡ asked = same_Some s.asked asked (sym s.asks) in
        let bad_if : is_bad_among t.between.decls t.between.events t.between.waiting (asker t.job.who asked) ≡ is_bad_among h.decls h.events h.waiting (asker t.job.who asked) =
        (λ i. is_bad_among (decls i) (events i) (waiting i) (asker t.job.who asked)) in
        record {
          answer = t.job.answer;
          routine = t.job.routine;
          running = t.running;
          ready = t.takes.ready ∙ ap (λ r. (t.job.who, t.job.answer) ∷ r) (sym ready2);
          routine_is = t.takes.routine;
          does = does;
          routines = s.routines ∙ ap (λ rs. slice_set rs t.job.who (Some next)) t.takes.routines;
          waiting = s.waiting ∙ (λ i. waiting i ++ asker t.job.who (question i) ∷ []);
          bad = s.bad ∙ (λ i. if is_none (between_runs i) && bad_if i then Some t.job.who else bad i);
          same = (decls2 ∙ decls, events2 ∙ events, limit2 ∙ limit);
          out = none_is_out asks h t.between m t.job t.turned none t.takes t.turns t.submits;
        }

    turned_by : (o : Option Request) → t.job.asked ≡ o → IsTurned asks o t.job t.turned
        → (asked : Request) × (next : R) × asks t.job.routine t.job.answer asked next × (t.turned ≡ asking t.job next asked)
    turned_by (Some q) is turned = absurd (none-some q (sym t.takes.asked ∙ is))
    turned_by None is turned = turned

    pub turn_facts : (who : ℕ) × (asked : Request) × (next : R) × Turns h who asked next m
    turn_facts = let (asked, next, does, turned) = turned_by t.job.asked refl t.turns in (t.job.who, asked, next, facts asked next turned does)

    -- and is kept
    pub turn_kept : IsKept h → IsKept m
    turn_kept kept =
        submitted_kept t.between m t.turned (is_no_stray asks h t.between t.job t.turned t.submits.asked none t.takes t.turns t.submits.asks) t.submits
        (taken_kept h t.between t.job t.takes kept)

  -- such a turn is taken where it can be
  pub record MakesTurn (h : HubState R) (who : ℕ) (asked : Request) (next : R) (rest : List (ℕ × Answer)) : Type 0 where
    pub m : HubState R
    pub turn : TakesTurn asks h m
    pub turns : Turns h who asked next m
    pub ready : m.ready ≡ rest

  module _ (h : HubState R) (who : ℕ) (answer : Answer) (rest : List (ℕ × Answer)) (routine : R) (asked : Request) (next : R) (none : h.out ≡ [])
      (running : end_of h ≡ None) (ready : h.ready ≡ (who, answer) ∷ rest) (there : slice_get h.routines who ≡ Some (Some routine)) (kept : IsKept h)
      (does : asks routine answer asked next)
    where
      log_there : (log : _) × (slice_get h.logs who ≡ Some log)
      log_there = at_below h.logs who (let within = slice_get_within h.routines who (Some routine) there in let same = kept.logs in omega (arith, within, same))

      abbrev job : JobState R
      job = record { who = who; routine = routine; answer = answer; log = log_there.0; asked = None }

      abbrev between : HubState R
      between = record {
        decls = h.decls;
        events = h.events;
        limit = h.limit;
        routines = slice_set h.routines who None;
        logs = slice_set h.logs who [];
        ready = rest;
        waiting = h.waiting;
        out = h.out ++ who ∷ [];
        bad = h.bad;
      }

      abbrev behind : HubState R
      behind = record {
        decls = h.decls;
        events = h.events;
        limit = h.limit;
        routines = slice_set (slice_set h.routines who None) who (Some next);
        logs = slice_set (slice_set h.logs who []) who log_there.0;
        ready = rest;
        waiting = h.waiting ++ asker who asked ∷ [];
        out = without_first who (h.out ++ who ∷ []);
        bad = if ends_hub between (asking job next asked) then Some who else h.bad;
      }

      made : TakesTurn asks h behind
      made = record {
        job = job;
        turned = asking job next asked;
        between = between;
        running = running;
        takes = record {
          ready = ready;
          routine = there;
          log = log_there.1;
          asked = refl;
          out = refl;
          routines = refl;
          logs = refl;
          same = (refl, refl, refl, refl, refl);
        };
        turns = (asked, next, does, refl);
        submits = record {
          asked = asked;
          asks = refl;
          waiting = refl;
          out = refl;
          routines = refl;
          logs = refl;
          bad = refl;
          same = (refl, refl, refl, refl);
        };
      }

      pub turn_made : MakesTurn h who asked next rest
      unfolding made
      turn_made = record { m = behind; turn = made; turns = facts h behind none made asked next refl does; ready = refl }
