-- Of two states that are alike each goes on as the other does: turn by turn, and event by event.
use Rattle.std.proofs.Common.{ℕ, ◌≡◌, ◌≢◌, ◌==◌, ◌<◌, ◌≤◌, ◌+◌, ◌%◌, ◌++◌, ◌||◌, not, Bool, true, false, if◌then◌else◌, List, [], ◌∷◌, length}
use Rattle.std.proofs.Common.{Some, is_some, refl, sym, ap, ◌∙◌, subst, slice_get, append_assoc}
use Rattle.std.proofs.lemmas.Option.{same_Some}
use Rattle.std.specs.{List.list_any, Option.option_or}
use Rattle.race_model.specs.{Events.gives, Legal.broken}
use Rattle.race_records.specs.{declared.event.Event.Event, Declarations.{DeclsState, capacity_of}}
use Rattle.race_requests.specs.declared.{choice.Choice.Choice, request.{Answer.Answer, Ask.Ask, Request.Request, Waiter.Waiter}}
use Rattle.race_requests.specs.{Choices.{choices}, Sound.{is_sound, is_out_of_turn, is_bad_among, asks_to_start}}
use Rattle.race_hub.specs.{Hub.{HubState, choices_of}}
use Rattle.race_hub.specs.Fires.{Fires, IsFired, HasRoutine, partner_of, without, without_leaver, goes_on, begins, started_by}
use Rattle.race_record.specs.{declared.noting.Fork.Fork, Serial.TakesTurn}
use Rattle.race_explore.specs.Ways.{here, turned, fired, fork_of, choice_count}
use Rattle.race_explore.proofs.WaiterLemmas.{waits_of, waits_append, WaitOnce, IsIn, any_in, any_from}
use Rattle.race_explore.proofs.MatchLemmas.{AskTheSame, waits_too, ask_other_way, AreSame, like_choice, same_event}
use Rattle.race_explore.proofs.AlikeLemmas.{SayTheSame, GoOnTheSame, Alike, takes, taken_out, left_in, wait_once, say_now, ask_same, end_same}
use Rattle.race_explore.proofs.TurnLemmas.{asker, turn_facts, turn_kept, turn_made}
use Rattle.race_explore.proofs.SettleLemmas.{set_next, nothing_more, GoesTo}
use Rattle.race_explore.proofs.FireLemmas.{same_partner, fired_hub, fire_like, HappensBy, rows_there, fire_kept, happens_by}

both_ways : (a b : Bool) → (a ≡ true → b ≡ true) → (b ≡ true → a ≡ true) → a ≡ b
both_ways true b to from = sym (to refl)
both_ways false true to from = from refl
both_ways false false to from = refl

-- one of those that wait passes, or none does
any_same : (past later : List Event) (ws vs : List Waiter) → AskTheSame past later ws vs → (p : Waiter → Bool) → list_any p ws ≡ list_any p vs
any_same past later ws vs ask p =
    both_ways (list_any p ws) (list_any p vs)
    (λ is. let (w, there, passes) = any_in p ws is in any_from p vs w (waits_too past later ws vs ask w there) passes)
    (λ is. let (w, there, passes) = any_in p vs is in any_from p ws w (waits_too later past vs ws (ask_other_way past later ws vs ask) w there) passes)

turn_same : (past later : List Event) (ws vs : List Waiter) → AskTheSame past later ws vs → SayTheSame past later → (g : ℕ) (ask : Ask)
    → is_out_of_turn past ws g ask ≡ is_out_of_turn later vs g ask
turn_same past later ws vs ask say g (Ask.Go h) =
    λ i. (h == 0) || (say.started h i || any_same past later ws vs ask (λ w. asks_to_start h w.asked.ask) i)
turn_same past later ws vs ask say g Ask.Exit = ap is_some (say.innermost g)
turn_same past later ws vs ask say g (Ask.EndDo o) = ap (λ x. not (gives x o)) (say.innermost g)
turn_same past later ws vs ask say g _ = refl

-- the same waits once the choices have happened
module _ (t u : Choice) (ws vs : List Waiter) (w : Waiter) (asks : slice_get ws t.place ≡ Some w) (asks_too : slice_get vs u.place ≡ Some w)
    (partner : t.partner ≤ length ws) (partner_too : u.partner ≤ length vs) (apart : t.partner ≢ t.place + 1) (apart_too : u.partner ≢ u.place + 1)
    (once : WaitOnce ws) (once_too : WaitOnce vs) (same : partner_of u vs ≡ partner_of t ws) (g : ℕ)
  where
    pub without_same : waits_of g ws ≡ waits_of g vs → waits_of g (without t ws) ≡ waits_of g (without u vs)
    without_same waits = by (takes g w (partner_of t ws)) refl
      where
        by : (b : Bool) → takes g w (partner_of t ws) ≡ b → waits_of g (without t ws) ≡ waits_of g (without u vs)
        by true is =
            taken_out t ws w asks partner apart once g is
            ∙ sym (taken_out u vs w asks_too partner_too apart_too once_too g (ap (takes g w) same ∙ is))
        by false is =
            left_in t ws w asks partner apart g is ∙ waits ∙ sym (left_in u vs w asks_too partner_too apart_too g (ap (takes g w) same ∙ is))

push_same : (past later : List Event) (e : Event) → GoOnTheSame past later → GoOnTheSame (past ++ e ∷ []) (later ++ e ∷ [])
push_same past later e same rest =
    subst (λ es. SayTheSame es ((later ++ e ∷ []) ++ rest)) (sym (append_assoc past (e ∷ []) rest))
    (subst (λ es. SayTheSame (past ++ e ∷ rest) es) (sym (append_assoc later (e ∷ []) rest)) (same (e ∷ rest)))

module _ {R : Type 0} where
  bad_same : (h k : HubState R) → Alike h k → (w : Waiter) → is_bad_among h.decls h.events h.waiting w ≡ is_bad_among k.decls k.events k.waiting w
  bad_same h k alike w =
      let say = say_now h.events k.events alike.events in
      λ i. not (is_sound (sym alike.decls i) w) || turn_same h.events k.events h.waiting k.waiting (ask_same h k alike) say w.who w.asked.ask i

  -- an event happens in both
  pub record FiresToo (k next : HubState R) (e : Event) : Type 0 where
    pub pick : ℕ
    pub last : HubState R
    pub within : pick < choice_count k
    pub fired : IsFired pick k last
    pub events : last.events ≡ k.events ++ e ∷ []
    pub alike : Alike next last

  module _ (pick : ℕ) (h next k : HubState R) (alike : Alike h k) (f : IsFired pick h next) where
    found : (u : Choice) × AreSame h.waiting k.waiting f.t u × IsIn u (choices (capacity_of h.decls.declarations) k.events k.waiting)
    found = like_choice (capacity_of h.decls.declarations) h.events k.events h.waiting k.waiting (ask_same h k alike) f.t (pick % length (choices_of h), f.chosen)

    there : IsIn found.0 (choices_of k)
    there = subst (λ (d : DeclsState). IsIn found.0 (choices (capacity_of d.declarations) k.events k.waiting)) (sym alike.decls) found.2

    say : SayTheSame h.events k.events
    say = say_now h.events k.events alike.events

    abbrev after : HubState R
    after = fired_hub k found.0 f.fires.w f.fires.e f.fires.told f.fires.partner_told

    fires : Fires k found.0 after
    fires =
        fire_like h next k f.t found.0 f.fires found.1
        (sym (same_event h.events k.events h.waiting k.waiting f.t found.0 found.1 (λ alone. say.does found.1.w.asked.ask f.t.offer)) ∙ f.fires.makes)
        (ap (λ (d : DeclsState). broken (capacity_of d.declarations) k.events f.fires.e) alike.decls
        ∙ sym (say.broken (capacity_of h.decls.declarations) f.fires.e) ∙ f.fires.legal)
        (subst (λ rs. HasRoutine rs (started_by f.fires.e.op)) (sym alike.routines) f.fires.routine)

    does : HappensBy k found.0 fires.e after
    does = happens_by k after found.0 (sym (end_same h k alike) ∙ f.running) alike.kept_too there fires

    partner_is : partner_of found.0 k.waiting ≡ partner_of f.t h.waiting
    partner_is = same_partner h.waiting k.waiting f.t found.0 found.1.partner

    waits_after : (g : ℕ) → waits_of g next.waiting ≡ waits_of g after.waiting
    waits_after g =
        let rows = rows_there pick h next f in
        let rows_too = rows_there does.pick k after does.fired in
        let choice : does.fired.t ≡ found.0 = does.t_is in
        let asks_too : slice_get k.waiting found.0.place ≡ Some f.fires.w =
        found.1.asks_too ∙ ap (λ (w : Waiter). Some w) (same_Some found.1.w f.fires.w (sym found.1.asks ∙ f.fires.asks)) in
        ap (waits_of g) f.fires.waiting
        ∙ without_same f.t found.0 h.waiting k.waiting f.fires.w f.fires.asks asks_too rows.partner
        (subst (λ (t : Choice). t.partner ≤ length k.waiting) choice rows_too.partner) rows.apart
        (subst (λ (t : Choice). t.partner ≢ t.place + 1) choice rows_too.apart)
        (wait_once h alike.kept) (wait_once k alike.kept_too) partner_is g (alike.waits g)

    alike_after : Alike next after
    alike_after =
        let (decls, limit, out, bad) = f.fires.same in record {
          decls = alike.decls ∙ sym decls;
          limit = alike.limit ∙ sym limit;
          events = subst (λ es. GoOnTheSame es after.events) (sym f.fires.events) (push_same h.events k.events f.fires.e alike.events);
          routines = ap (without_leaver (Some f.fires.w) f.fires.told) alike.routines ∙ sym f.fires.routines;
          ready = (λ i. alike.ready i ++ goes_on (Some f.fires.w) f.fires.told ++ goes_on (partner_is i) f.fires.partner_told ++ begins (started_by f.fires.e.op))
              ∙ sym f.fires.ready;
          waits = waits_after;
          out = alike.out ∙ sym out;
          bad = alike.bad ∙ sym bad;
          kept = fire_kept pick h next f alike.kept;
          kept_too = does.kept;
        }

    pub alike_fire : FiresToo k next f.fires.e
    alike_fire = record { pick = does.pick; last = after; within = does.within; fired = does.fired; events = refl; alike = alike_after }

module _ {R : Type 0} (asks : R → Answer → Request → R → Type 0) where
  -- a turn is taken in both
  pub record TurnsToo (k next : HubState R) : Type 0 where
    pub last : HubState R
    pub turn : TakesTurn asks k last
    pub events : last.events ≡ k.events
    pub alike : Alike next last

  pub alike_turn : (h next k : HubState R) → Alike h k → h.out ≡ [] → TakesTurn asks h next → TurnsToo k next
  alike_turn h next k alike out turn =
      let (who, asked, after, t) = turn_facts asks h next out turn in
      let out_too : k.out ≡ [] = alike.out ∙ out in
      let made = turn_made asks k who t.answer next.ready t.routine asked after out_too (sym (end_same h k alike) ∙ t.running) (alike.ready ∙ t.ready)
      (ap (λ rs. slice_get rs who) alike.routines ∙ t.routine_is) alike.kept_too t.does in
      let u = made.turns in
      let (decls, events, limit) = t.same in
      let (decls2, events2, limit2) = u.same in
      let w : Waiter = asker who asked in
      record {
        last = made.m;
        turn = made.turn;
        events = events2;
        alike = record {
          decls = decls2 ∙ alike.decls ∙ sym decls;
          limit = limit2 ∙ alike.limit ∙ sym limit;
          events = subst (λ es. GoOnTheSame es made.m.events) (sym events) (subst (λ es. GoOnTheSame h.events es) (sym events2) alike.events);
          routines = u.routines ∙ ap (λ rs. set_next rs who after) alike.routines ∙ sym t.routines;
          ready = made.ready;
          waits = λ g.
              ap (waits_of g) t.waiting ∙ waits_append g h.waiting (w ∷ []) ∙ ap (λ o. option_or o (waits_of g (w ∷ []))) (alike.waits g)
              ∙ sym (waits_append g k.waiting (w ∷ [])) ∙ sym (ap (waits_of g) u.waiting);
          out = u.out ∙ sym t.out;
          bad = u.bad ∙ (λ i. if sym (bad_same h k alike w) i then Some who else alike.bad i) ∙ sym t.bad;
          kept = turn_kept asks h next out turn alike.kept;
          kept_too = turn_kept asks k made.m out_too made.turn alike.kept_too;
        };
      }

  -- and so on to the end, by the same events
  pub record GoesToo (h last k : HubState R) : Type 0 where
    pub forks : List Fork
    pub end : HubState R
    pub way : GoesTo asks k forks end
    pub alike : Alike last end
    pub more : List Event
    pub events : last.events ≡ h.events ++ more
    pub events_too : end.events ≡ k.events ++ more

  pub alike_way : {h last : HubState R} {forks : List Fork} → GoesTo asks h forks last → (k : HubState R) → Alike h k → h.out ≡ [] → GoesToo h last k
  alike_way {h = h} here k alike out = record {
    forks = [];
    end = k;
    way = here;
    alike = alike;
    more = [];
    events = nothing_more h.events;
    events_too = nothing_more k.events;
  }
  alike_way {h = h} (turned {b = b} turn way) k alike out =
      let too = alike_turn h b k alike out turn in
      let (who, asked, next, t) = turn_facts asks h b out turn in
      let rest = alike_way way too.last too.alike t.out in
      record {
        forks = rest.forks;
        end = rest.end;
        way = turned too.turn rest.way;
        alike = rest.alike;
        more = rest.more;
        events = rest.events ∙ ap (λ es. es ++ rest.more) t.same.1;
        events_too = rest.events_too ∙ ap (λ es. es ++ rest.more) too.events;
      }
  alike_way {h = h} (fired {b = b} pick fire way) k alike out =
      let f = fire.1.1 in
      let too = alike_fire pick h b k alike f in
      let (decls, limit, same_out, bad) = f.fires.same in
      let rest = alike_way way too.last too.alike (same_out ∙ out) in
      record {
        forks = fork_of (choice_count k) too.pick ∷ rest.forks;
        end = rest.end;
        way = fired too.pick (too.within, (alike.ready ∙ fire.1.0, too.fired)) rest.way;
        alike = rest.alike;
        more = f.fires.e ∷ rest.more;
        events = rest.events ∙ ap (λ es. es ++ rest.more) f.fires.events ∙ append_assoc h.events (f.fires.e ∷ []) rest.more;
        events_too = rest.events_too ∙ ap (λ es. es ++ rest.more) too.events ∙ append_assoc k.events (f.fires.e ∷ []) rest.more;
      }
