-- What turns and firings leave of a hub, and when its run is out.
use Rattle.std.proofs.Common.{ℕ, ◌≡◌, ◌≢◌, ◌==◌, ◌⊎◌, ◌<◌, ◌≤◌, ◌+◌, ◌-◌, ◌++◌, List, [], ◌∷◌, length, Bool, true}
use Rattle.std.proofs.Common.{false, Option, Some, None, IsSome, refl, sym, ap, ◌∙◌, arith, subst, suc, append-nil}
use Rattle.std.proofs.Common.{length-append, ◌&&◌, ◌||◌, not, if◌then◌else◌, eq-eqb, true≢false, inl, inr}
use Rattle.std.{proofs.lemmas.{List.append_assoc, Bool.Decides.nat_tests, Option.none-some}, specs.List.list_any}
use Rattle.std.specs.Prelude.{cond, is_some, nat_lt, remove, slice_get}
use Rattle.race_records.specs.declared.event.Event.{Event}
use Rattle.race_hub.specs.{declared.{recording.Mismatch.Mismatch, ending.End.End}, Finish.IsMismatch}
use Rattle.race_hub.specs.{Job.{JobState, asking}, Hub.{HubState, stop_by, is_last, is_main_exit, stop_of, end_of}}
use Rattle.race_hub.specs.{Hub.{choices_of, is_deadlock}, Fires.IsFired, Submits.{Takes, Submits, is_stray}}
use Rattle.race_hub.specs.Submits.{without_first}
use Rattle.race_requests.specs.declared.request.{Answer.Answer, Request.Request}
use Rattle.race_model.specs.Events.{is_fault}
use Rattle.race_record.specs.Serial.{IsTurned, TakesTurn, Comes, IsRunOut, pick_of, begins, turns, fires}

-- declarations and limit stay, and more events may follow
pub record GoesOn {R : Type 0} (old new : HubState R) : Type 0 where
  pub decls : new.decls ≡ old.decls
  pub limit : new.limit ≡ old.limit
  pub more : List Event
  pub events : new.events ≡ old.events ++ more

is_there : {X : Type 0} (o : Option X) → o ≢ None → IsSome o
is_there (Some x) is = refl
is_there None is = absurd (is refl)

end_none : (stop : Option End) (dead : Bool) → ◌≡◌ {A = Option End} (elim stop [ Some e ↦ Some e | None ↦ if dead then Some End.Deadlock else None ]) None
    → stop ≡ None
end_none (Some e) dead is = absurd (none-some e (sym is))
end_none None dead is = refl

less : (n m : ℕ) → (n == m) ≡ false → n ≤ m → n < m
less n m other le = by (nat_lt n m) refl
  where
    by : (b : Bool) → nat_lt n m ≡ b → n < m
    by true is = grind (arith, nat_tests)
    by false is =
        let back : m ≤ n = grind (arith, nat_tests) in
        absurd (true≢false (sym (eq-eqb n m (omega (arith, back, le))) ∙ other))

module _ {R : Type 0} where
  behind : (first next last : HubState R) → GoesOn first next → GoesOn next last → GoesOn first last
  behind first next last a b = record {
    decls = b.decls ∙ a.decls;
    limit = b.limit ∙ a.limit;
    more = a.more ++ b.more;
    events = b.events ∙ ap (λ es. es ++ b.more) a.events ∙ append_assoc first.events a.more b.more;
  }

  not_full : (h : HubState R) → stop_of h ≡ None → (length h.events == h.limit) ≡ false
  unfolding stop_by
  not_full h on = by (is_last is_main_exit h.events) (is_last (λ e. is_fault e.op) h.events) h.bad (length h.events == h.limit) on
    where
      by : (a b : Bool) (bad : Option ℕ) (full : Bool)
          → ◌≡◌ {A = Option End} (if a then Some End.Main else (if b then Some End.Fault
          else elim bad [ Some g ↦ Some (End.Bad g) | None ↦ if full then Some End.Limit else None ])) None → full ≡ false
      by true b bad full on = absurd (none-some End.Main (sym on))
      by false true bad full on = absurd (none-some End.Fault (sym on))
      by false false (Some g) full on = absurd (none-some (End.Bad g) (sym on))
      by false false None true on = absurd (none-some End.Limit (sym on))
      by false false None false on = refl

  -- an event brings the hub nearer to its limit
  pub fired_nearer : (pick : ℕ) (first old new : HubState R) → old.events ≡ first.events → old.limit ≡ first.limit → length old.events ≤ old.limit
      → IsFired pick old new → new.limit - length new.events < first.limit - length first.events
  fired_nearer pick first old new same same_limit within f =
      let below : length old.events < old.limit =
      less (length old.events) old.limit (not_full old (end_none (stop_of old) (is_deadlock old) f.running)) within in
      let (decls, limit, out, bad) = f.fires.same in
      let longer : length new.events ≡ length old.events + 1 = ap length f.fires.events ∙ length-append old.events (f.fires.e ∷ []) in
      let count : length old.events ≡ length first.events = ap length same in
      omega (arith, below, limit, longer, count, same_limit)

  fired_goes_on : (pick : ℕ) (old new : HubState R) → IsFired pick old new → GoesOn old new
  fired_goes_on pick old new f =
      let (decls, limit, out, bad) = f.fires.same in
      record { decls = decls; limit = limit; more = f.fires.e ∷ []; events = f.fires.events }

  -- nobody is ready or out, and there is no choice: it has ended
  deadlock_ends : (h : HubState R) → h.out ≡ [] → h.ready ≡ [] → choices_of h ≡ [] → IsSome (end_of h)
  deadlock_ends h out ready choices = by (stop_of h) (is_deadlock h) (λ i. (length (ready i) == 0) && ((length (out i) == 0) && (length (choices i) == 0)))
    where
      by : (stop : Option End) (dead : Bool) → dead ≡ true
          → IsSome (elim stop [ Some e ↦ Some e | None ↦ if dead then Some End.Deadlock else None ])
      by (Some end) dead is = refl
      by None true is = refl
      by None false is = absurd (true≢false (sym is))

  pub run_is_out : (h : HubState R) → h.out ≡ [] → (end_of h ≢ None) ⊎ (h.ready ≡ []) → (end_of h ≢ None) ⊎ (choices_of h ≡ []) → IsSome (end_of h)
  run_is_out h out (inl ended) _ = is_there (end_of h) ended
  run_is_out h out _ (inl ended) = is_there (end_of h) ended
  run_is_out h out (inr ready) (inr choices) = deadlock_ends h out ready choices

  -- the only mismatch of a hub that has ended and from which no job is out
  pub only_log : (h : HubState R) (m : Mismatch) → IsMismatch h m → IsSome (end_of h) → h.out ≡ [] → (g : ℕ) × IsMismatch h (Mismatch.Log g)
  only_log h Mismatch.NotEnded is ended back = absurd (none_isnt (end_of h) is ended)
    where
      none_isnt : {X : Type 0} (o : Option X) → o ≡ None → IsSome o → ⊥
      none_isnt None is some = cc
      none_isnt (Some x) is some = none-some x (sym is)
  only_log h (Mismatch.Out g) is ended back =
      let (i, at) = is.1.among in absurd (none-some g (ap (λ out. slice_get out i) (sym back) ∙ at))
  only_log h (Mismatch.Log g) is ended back = (g, is)

module _ {R : Type 0} (asks : R → Answer → Request → R → Type 0) where
  turn_goes_on : (old new : HubState R) → TakesTurn asks old new → GoesOn old new
  turn_goes_on old new t =
      let (decls, events, limit, _, _) = t.takes.same in
      let (decls2, events2, limit2, _) = t.submits.same in
      record { decls = decls2 ∙ decls; limit = limit2 ∙ limit; more = []; events = events2 ∙ events ∙ sym (append-nil old.events) }

  -- a turn makes one goroutine fewer ready, and no event
  pub turn_fewer : (old new : HubState R) → TakesTurn asks old new → length new.ready < length old.ready
  turn_fewer old new t =
      let (decls2, events2, limit2, ready) = t.submits.same in
      let more : length old.ready ≡ suc (length t.between.ready) = ap length t.takes.ready in
      let same : length new.ready ≡ length t.between.ready = ap length ready in
      omega (arith, more, same)

  pub turn_keeps : (old new : HubState R) → TakesTurn asks old new → (new.events ≡ old.events) × (new.limit ≡ old.limit)
  turn_keeps old new t =
      let (decls, events, limit, _, _) = t.takes.same in
      let (decls2, events2, limit2, _) = t.submits.same in
      (events2 ∙ events, limit2 ∙ limit)

  pub comes_goes_on : (picks : List ℕ) (start : HubState R) {h : HubState R} → Comes asks picks start h → GoesOn start h
  comes_goes_on picks start begins = record { decls = refl; limit = refl; more = []; events = sym (append-nil start.events) }
  comes_goes_on picks start (turns old new comes turn) = behind start old new (comes_goes_on picks start comes) (turn_goes_on old new turn)
  comes_goes_on picks start (fires old new comes idle fired) =
      behind start old new (comes_goes_on picks start comes) (fired_goes_on (pick_of picks (length old.events - length start.events)) old new fired)

  pub comes_longer : (picks : List ℕ) (start h : HubState R) → Comes asks picks start h → length start.events ≤ length h.events
  comes_longer picks start h comes =
      let goes = comes_goes_on picks start comes in
      let sum : length h.events ≡ length start.events + length goes.more = ap length goes.events ∙ length-append start.events goes.more in
      omega (arith, sum)

  -- a choice happens where nobody is ready
  pub fired_comes : (picks : List ℕ) (start h old new : HubState R) (pick number : ℕ) → Comes asks picks start h → old ≡ h
      → (end_of h ≢ None) ⊎ (h.ready ≡ []) → number ≡ length old.events - length start.events → pick ≡ pick_of picks number → IsFired pick old new
      → Comes asks picks start new
  fired_comes picks start h old new pick number comes same idle number_is pick_is fired =
      fires old new (subst (λ h. Comes asks picks start h) (sym same) comes) (nobody idle)
      (subst (λ p. IsFired p old new) (pick_is ∙ ap (pick_of picks) number_is) fired)
    where
      nobody : (end_of h ≢ None) ⊎ (h.ready ≡ []) → old.ready ≡ []
      nobody (inl ended) = absurd (ended (ap end_of (sym same) ∙ fired.running))
      nobody (inr ready) = ap (λ (h : HubState R). h.ready) same ∙ ready

  -- nothing is left to do
  pub is_run_out : (picks : List ℕ) (start h old new : HubState R) → Comes asks picks start h → h.out ≡ [] → old ≡ h → (end_of h ≢ None) ⊎ (h.ready ≡ [])
      → new ≡ old → (end_of old ≢ None) ⊎ (choices_of old ≡ []) → IsRunOut asks picks start new
  is_run_out picks start h old new comes out same idle stays stuck =
      subst (λ h. IsRunOut asks picks start h) (sym (stays ∙ same)) (record {
        comes = comes;
        ended = run_is_out h out idle (subst (λ (h : HubState R). (end_of h ≢ None) ⊎ (choices_of h ≡ [])) same stuck);
        back = out;
      })

  -- the job behind its turn, as the contract of the turn tells it
  pub is_turned : (job turned : JobState R) (asked : Request) → ((kept : Request) → job.asked ≡ Some kept → turned ≡ job)
      → (job.asked ≡ None → asks job.routine job.answer asked turned.routine × (turned ≡ asking job turned.routine asked))
      → IsTurned asks job.asked job turned
  is_turned job turned asked kept called = by job.asked refl
    where
      by : (o : Option Request) → job.asked ≡ o → IsTurned asks o job turned
      by (Some a) is = kept a is
      by None is = let (asks, new) = called is in (asked, turned.routine, asks, new)

  -- whose job was taken while none was out, it is the one that is out
  who_of : (asked : Option Request) (job turned : JobState R) → IsTurned asks asked job turned → turned.who ≡ job.who
  who_of (Some asked) job turned is = ap (λ (j : JobState R). j.who) is
  who_of None job turned (asked, routine, asks, is) = ap (λ (j : JobState R). j.who) is

  out_is : (old between : HubState R) (job turned : JobState R) → old.out ≡ [] → Takes old job between → IsTurned asks job.asked job turned
      → between.out ≡ turned.who ∷ []
  out_is old between job turned none takes is =
      takes.out ∙ ap (λ out. out ++ job.who ∷ []) none ∙ ap (λ g. g ∷ []) (sym (who_of job.asked job turned is))

  -- so it isn't stray once it has asked
  pub is_no_stray : (old between : HubState R) (job turned : JobState R) (asked : Request) → old.out ≡ [] → Takes old job between
      → IsTurned asks job.asked job turned → turned.asked ≡ Some asked → is_stray between turned ≡ false
  is_no_stray old between job turned asked none takes is has =
      (λ i. not (is_some (has i) && list_any (λ o. o == turned.who) (out_is old between job turned none takes is i)))
      ∙ ap (λ b. not (b || false)) (eq-eqb turned.who turned.who refl)

  -- and behind its turn no job is out
  pub none_is_out : (old between new : HubState R) (job turned : JobState R) → old.out ≡ [] → Takes old job between
      → IsTurned asks job.asked job turned → Submits between turned new → new.out ≡ []
  none_is_out old between new job turned none takes is submits =
      submits.out ∙ ap (without_first turned.who) (out_is old between job turned none takes is) ∙ first_gone turned.who
    where
      first_gone : (g : ℕ) → without_first g (g ∷ []) ≡ []
      first_gone g = ap (λ b. remove (g ∷ []) (cond (not b) 1 0)) (eq-eqb g g refl)
