-- Two independent events that happened one behind the other happen in the other order too, and lead to a state that is alike.
use Rattle.std.proofs.Common.{ℕ, ◌≡◌, ◌++◌, ◌⊎◌, Bool, true, false, List, [], ◌∷◌}
use Rattle.std.proofs.Common.{length, Some, None, refl, sym, ap, ◌∙◌, subst, slice_get, inl, inr, length-append}
use Rattle.race_model.specs.{Events.{takes_part, starts, is_fault}, State.{started, innermost}, Legal.{broken, IsLegal}}
use Rattle.race_model.proofs.{LegalSteps.legal_push}
use Rattle.race_records.specs.{declared.event.Event.Event, Declarations.{DeclsState, capacity_of}}
use Rattle.race_exchange.specs.{Independent.are_independent}
use Rattle.race_exchange.proofs.{Apart.{Apart, apart, independent_other_way}, OtherWay.{unseen_by, legal_other_way}, Unseen.innermost_kept, OperationKinds.not_by}
use Rattle.race_requests.specs.declared.request.{Answer.Answer, Request.Request, Waiter.Waiter}
use Rattle.race_requests.specs.{Choices.op_of, Sound.asks_to_start}
use Rattle.race_hub.specs.{Hub.{HubState, stop_by, is_main_exit, end_of}, Kept.IsKept}
use Rattle.race_hub.specs.Fires.{IsFired, partner_of}
use Rattle.race_record.specs.declared.noting.Fork.{Fork}
use Rattle.race_explore.specs.Ways.{fork_of, choice_count}
use Rattle.race_explore.proofs.WaiterLemmas.{waits_of, IsIn, found_in, in_found}
use Rattle.race_explore.proofs.TupleLemmas.{in_right}
use Rattle.race_explore.proofs.AlikeLemmas.{SayTheSame, GoOnTheSame, Alike, takes, wait_once, say_now}
use Rattle.race_explore.proofs.TurnLemmas.{unstopped, none_bad}
use Rattle.race_explore.proofs.SettleLemmas.{Settled, GoesTo}
use Rattle.race_explore.proofs.{OpLemmas.{op_same, no_end, last_is, exchanged_go_on}}
use Rattle.race_explore.proofs.BadLemmas.{IsToStart, StartNoMore, none_bad_elsewhere, starts_apart, ask_who}
use Rattle.race_explore.proofs.PartLemmas.{asker_part, not_taken, ready_takes_part, waits_still, same_routine, same_waits, started_here, asked_here}
use Rattle.race_explore.proofs.ReplayLemmas.{CanReplay, Replayed, replay}
use Rattle.race_explore.proofs.StaysLemmas.{list_same, stops_no_more, started_stays, starts_now, started_before, not_both, waits_on_fire, waits_on_settle}

module _ {R : Type 0} (asks : R → Answer → Request → R → Type 0) (pa : ℕ) (h0 h1 h2 : HubState R) (fa : IsFired pa h0 h1) (asked_a : List Waiter)
    (sa : Settled asks h1 asked_a h2) (pb : ℕ) (h3 h4 : HubState R) (fb : IsFired pb h2 h3) (asked_b : List Waiter) (sb : Settled asks h3 asked_b h4)
    (idle : h0.ready ≡ []) (out : h0.out ≡ []) (kept0 : IsKept h0) (kept2 : IsKept h2) (kept4 : IsKept h4) (running : end_of h4 ≡ None)
    (apart_is : are_independent fa.fires.e fb.fires.e ≡ true)
  where
    abbrev a : Event
    a = fa.fires.e

    abbrev b : Event
    b = fb.fires.e

    abbrev caps : ℕ → ℕ
    caps = capacity_of h0.decls.declarations

    both : Apart a b
    both = apart a b apart_is

    decls2 : h2.decls ≡ h0.decls
    decls2 = let (decls, limit, same_out, bad) = fa.fires.same in sa.decls ∙ decls

    limit2 : h2.limit ≡ h0.limit
    limit2 = let (decls, limit, same_out, bad) = fa.fires.same in sa.limit ∙ limit

    events2 : h2.events ≡ h0.events ++ a ∷ []
    events2 = sa.events ∙ fa.fires.events

    decls3 : h3.decls ≡ h0.decls
    decls3 = let (decls, limit, same_out, bad) = fb.fires.same in decls ∙ decls2

    events3 : h3.events ≡ (h0.events ++ a ∷ []) ++ b ∷ []
    events3 = fb.fires.events ∙ ap (λ es. es ++ b ∷ []) events2

    limit4 : h4.limit ≡ h0.limit
    limit4 = let (decls, limit, same_out, bad) = fb.fires.same in sb.limit ∙ limit ∙ limit2

    events4 : h4.events ≡ (h0.events ++ a ∷ []) ++ b ∷ []
    events4 = sb.events ∙ events3

    legal_b : broken caps (h0.events ++ a ∷ []) b ≡ None
    legal_b =
        subst (λ es. broken caps es b ≡ None) events2
        (subst (λ (d : DeclsState). broken (capacity_of d.declarations) h2.events b ≡ None) decls2 fb.fires.legal)

    turned_legal : (broken caps h0.events b ≡ None) × (broken caps (h0.events ++ b ∷ []) a ≡ None)
    turned_legal = legal_other_way caps h0.events a b kept0.legal apart_is fa.fires.legal legal_b

    legal_to_a : IsLegal caps (h0.events ++ a ∷ [])
    legal_to_a = legal_push caps h0.events a kept0.legal fa.fires.legal

    legal_to_b : IsLegal caps (h0.events ++ b ∷ [])
    legal_to_b = legal_push caps h0.events b kept0.legal turned_legal.0

    not_a : (g : ℕ) → takes_part g b ≡ true → takes_part g a ≡ false
    not_a g takes_b = not_both (takes_part g a) (takes_part g b) (both.no_goroutine g) takes_b

    not_b : (g : ℕ) → takes_part g a ≡ true → takes_part g b ≡ false
    not_b g takes_a = not_both (takes_part g b) (takes_part g a) (λ of_b of_a. both.no_goroutine g of_a of_b) takes_a

    say : SayTheSame ((h0.events ++ a ∷ []) ++ b ∷ []) ((h0.events ++ b ∷ []) ++ a ∷ [])
    say = say_now ((h0.events ++ a ∷ []) ++ b ∷ []) ((h0.events ++ b ∷ []) ++ a ∷ []) (exchanged_go_on h0.events a b apart_is)

    inner_b : (g : ℕ) → takes_part g b ≡ true → innermost g (h0.events ++ b ∷ []) ≡ innermost g ((h0.events ++ a ∷ []) ++ b ∷ [])
    inner_b g takes_b =
        sym (innermost_kept caps (h0.events ++ b ∷ []) legal_to_b a g turned_legal.1 (not_by g a (not_a g takes_b))) ∙ sym (say.innermost g)

    inner_a : (g : ℕ) → takes_part g a ≡ true → innermost g ((h0.events ++ b ∷ []) ++ a ∷ []) ≡ innermost g (h0.events ++ a ∷ [])
    inner_a g takes_a = sym (say.innermost g) ∙ innermost_kept caps (h0.events ++ a ∷ []) legal_to_a b g legal_b (not_by g b (not_b g takes_a))

    -- who asks behind b takes part in b, and who asks behind a in a
    asks_b : (w : Waiter) → IsIn w asked_b → takes_part w.who b ≡ true
    asks_b w there = ask_who asks (λ g. takes_part g b) h3.ready h3.routines asked_b h4.routines (ready_takes_part pb h2 h3 fb sa.ready) sb.all w there

    asks_a : (w : Waiter) → IsIn w asked_a → takes_part w.who a ≡ true
    asks_a w there = ask_who asks (λ g. takes_part g a) h1.ready h1.routines asked_a h2.routines (ready_takes_part pa h0 h1 fa idle) sa.all w there

    -- who waits in the first state and takes part in neither event waits behind the first, and behind both
    waits_in_1 : (v : Waiter) → IsIn v h0.waiting → takes v.who fa.fires.w (partner_of fa.t h0.waiting) ≡ false → waits_of v.who h1.waiting ≡ Some v
    waits_in_1 v there free = waits_on_fire pa h0 h1 fa v (in_found h0.waiting (wait_once h0 kept0) v there) free

    waits_in_3 : (v : Waiter) → IsIn v h0.waiting → takes v.who fa.fires.w (partner_of fa.t h0.waiting) ≡ false
        → takes v.who fb.fires.w (partner_of fb.t h2.waiting) ≡ false → IsIn v h3.waiting
    waits_in_3 v there free free_b =
        (found_in v.who h3.waiting v
        (waits_on_fire pb h2 h3 fb v (waits_on_settle asks h1 h2 asked_a sa v (waits_in_1 v there free)) free_b)).0

    starts_no_more_b : (vs : List Waiter) → ((v : Waiter) → IsIn v vs → IsIn v h0.waiting × (takes v.who fb.fires.w (partner_of fb.t h2.waiting) ≡ false))
        → StartNoMore h3.events (h0.events ++ b ∷ []) h3.waiting vs asked_b
    starts_no_more_b vs within = record {
      events = λ w g there w_asks is. inl (ap (started g) events3 ∙ so_far g (started_before g h0.events b is));
      requests = λ w v g there w_asks v_there v_asks.
          let (old, free) = within v v_there in by v g v_asks old free (takes v.who fa.fires.w (partner_of fa.t h0.waiting)) refl;
    }
      where
        so_far : (g : ℕ) → (started g h0.events ≡ true) ⊎ (starts g b.op ≡ true) → started g ((h0.events ++ a ∷ []) ++ b ∷ []) ≡ true
        so_far g (inl is) = started_stays g (h0.events ++ a ∷ []) b (started_stays g h0.events a is)
        so_far g (inr is) = starts_now g (h0.events ++ a ∷ []) b is

        by : (v : Waiter) (g : ℕ) → asks_to_start g v.asked.ask ≡ true → IsIn v h0.waiting → takes v.who fb.fires.w (partner_of fb.t h2.waiting) ≡ false
            → (taken : Bool) → takes v.who fa.fires.w (partner_of fa.t h0.waiting) ≡ taken → IsToStart g h3.events h3.waiting
        by v g v_asks old free true is =
            inl (ap (started g) events3
            ∙ started_stays g (h0.events ++ a ∷ []) b (starts_now g h0.events a (started_here pa h0 h1 fa kept0 v g old is v_asks)))
        by v g v_asks old free false is = inr (v, waits_in_3 v old is free, v_asks)

    can_b : CanReplay asks pb h2 h3 h0 fb asked_b
    can_b = record {
      idle = sa.ready;
      kept = kept2;
      idle_too = idle;
      out = out;
      kept_too = kept0;
      decls = sym decls2;
      on = λ g takes_b. sym (same_routine pa h0 h1 fa asks idle asked_a h2 sa g (not_a g takes_b));
      waits_on = λ g takes_b. sym (same_waits pa h0 h1 fa asks idle asked_a h2 sa g (not_a g takes_b));
      moves = (no_end b both.b_moves).2;
      does = λ ask n is.
          ap (λ es. op_of es ask n) events2
          ∙ op_same b (h0.events ++ a ∷ []) h0.events (unseen_by caps h0.events a b kept0.legal apart_is fa.fires.legal) (no_end b both.b_moves).1 ask n (h2.events, is);
      legal = turned_legal.0;
      goes_on = unstopped h0 fa.running;
      goes_on_behind =
          stops_no_more h2.events (h0.events ++ b ∷ []) h0.limit h2.bad h0.bad (ap (λ n. stop_by h2.events n h2.bad) (sym limit2) ∙ unstopped h2 fb.running)
          (length-append h0.events (b ∷ []) ∙ sym (ap length events2 ∙ length-append h0.events (a ∷ [])))
          (last_is is_main_exit h0.events b ∙ (no_end b both.b_moves).0) (last_is (λ e. is_fault e.op) h0.events b ∙ (no_end b both.b_moves).1)
          (none_bad h0 (unstopped h0 fa.running));
      fine = λ vs within.
          none_bad_elsewhere h3.decls h0.decls h3.events (h0.events ++ b ∷ []) h3.waiting vs asked_b (sym decls3) (starts_no_more_b vs within)
          (λ w there. inner_b w.who (asks_b w there) ∙ ap (innermost w.who) (sym events3)) sb.fine;
    }

    one : Replayed asks h4 h0 b asked_b h2 fb.t fb.fires.w
    one = replay asks pb h2 h3 h4 h0 fb asked_b sb can_b

    abbrev k2 : HubState R
    k2 = one.n

    -- who asks in b waits behind a
    asks_in_1 : IsIn fb.fires.w h1.waiting
    asks_in_1 =
        let free : takes_part fb.fires.w.who a ≡ false = not_a fb.fires.w.who (asker_part pb h2 h3 fb) in
        (found_in fb.fires.w.who h1.waiting fb.fires.w
        (waits_still pa h0 h1 fa fb.fires.w.who free ∙ sym (same_waits pa h0 h1 fa asks idle asked_a h2 sa fb.fires.w.who free)
        ∙ in_found h2.waiting (wait_once h2 kept2) fb.fires.w (fb.t.place, fb.fires.asks))).0

    -- who asks behind a waits behind both
    asked_in_3 : (w : Waiter) → IsIn w asked_a → IsIn w h3.waiting
    asked_in_3 w there =
        (found_in w.who h3.waiting w
        (waits_on_fire pb h2 h3 fb w
        (in_found h2.waiting (wait_once h2 kept2) w (subst (IsIn w) (sym sa.waiting) (in_right w h1.waiting asked_a there)))
        (not_taken pb h2 h3 fb w.who (not_b w.who (asks_a w there))))).0

    starts_no_more_a : (vs : List Waiter) → ((v : Waiter) → IsIn v vs → IsIn v k2.waiting × (takes v.who fa.fires.w (partner_of fa.t h0.waiting) ≡ false))
        → StartNoMore h1.events (k2.events ++ a ∷ []) h1.waiting vs asked_a
    starts_no_more_a vs within = record {
      events = λ w g there w_asks is. by g (started_before g k2.events a is);
      requests = λ w v g there w_asks v_there v_asks.
          let (old, free) = within v v_there in waited w v g there w_asks v_asks free (one.waiting v old);
    }
      where
        so_far : (g : ℕ) → (started g h0.events ≡ true) ⊎ (starts g b.op ≡ true) → IsToStart g h1.events h1.waiting
        so_far g (inl is) = inl (ap (started g) fa.fires.events ∙ started_stays g h0.events a is)
        so_far g (inr is) = inr (fb.fires.w, asks_in_1, asked_here pb h2 h3 fb g is)

        by : (g : ℕ) → (started g k2.events ≡ true) ⊎ (starts g a.op ≡ true) → IsToStart g h1.events h1.waiting
        by g (inl is) = so_far g (started_before g h0.events b (ap (started g) (sym one.events) ∙ is))
        by g (inr is) = inl (ap (started g) fa.fires.events ∙ starts_now g h0.events a is)

        waited : (w v : Waiter) (g : ℕ) → IsIn w asked_a → asks_to_start g w.asked.ask ≡ true → asks_to_start g v.asked.ask ≡ true
            → takes v.who fa.fires.w (partner_of fa.t h0.waiting) ≡ false
            → (IsIn v h0.waiting × (takes v.who fb.fires.w (partner_of fb.t h2.waiting) ≡ false)) ⊎ IsIn v asked_b → IsToStart g h1.events h1.waiting
        waited w v g there w_asks v_asks free (inl (old, free_b)) = inr (v, (found_in v.who h1.waiting v (waits_in_1 v old free)).0, v_asks)
        waited w v g there w_asks v_asks free (inr new) =
            absurd (starts_apart h3.decls h3.events h3.waiting asked_b v w g sb.fine new v_asks (asked_in_3 w there) w_asks)

    events_k2_a : k2.events ++ a ∷ [] ≡ (h0.events ++ b ∷ []) ++ a ∷ []
    events_k2_a = ap (λ es. es ++ a ∷ []) one.events

    can_a : CanReplay asks pa h0 h1 k2 fa asked_a
    can_a = record {
      idle = idle;
      kept = kept0;
      idle_too = one.ready;
      out = one.out;
      kept_too = one.kept;
      decls = one.decls;
      on = λ g takes_a. one.off g (not_b g takes_a);
      waits_on = λ g takes_a. one.waits_off g (not_b g takes_a);
      moves = (no_end a both.a_moves).2;
      does = λ ask n is.
          sym (op_same a (h0.events ++ b ∷ []) h0.events (unseen_by caps h0.events b a kept0.legal (independent_other_way a b apart_is) turned_legal.0)
          (no_end a both.a_moves).1 ask n (h0.events, is))
          ∙ ap (λ es. op_of es ask n) (sym one.events);
      legal =
          subst (λ es. broken (capacity_of k2.decls.declarations) es a ≡ None) (sym one.events)
          (subst (λ (d : DeclsState). broken (capacity_of d.declarations) (h0.events ++ b ∷ []) a ≡ None) (sym one.decls) turned_legal.1);
      goes_on = (λ i. stop_by (one.events i) (one.limit i) ((one.bad ∙ sym (none_bad h0 (unstopped h0 fa.running))) i)) ∙ can_b.goes_on_behind;
      goes_on_behind =
          stops_no_more h4.events (k2.events ++ a ∷ []) k2.limit h4.bad k2.bad
          (ap (λ n. stop_by h4.events n h4.bad) (one.limit ∙ sym limit4) ∙ unstopped h4 running)
          (ap length events_k2_a ∙ sym say.length ∙ ap length (sym events4))
          (last_is is_main_exit k2.events a ∙ (no_end a both.a_moves).0) (last_is (λ e. is_fault e.op) k2.events a ∙ (no_end a both.a_moves).1) one.bad;
      fine = λ vs within.
          none_bad_elsewhere h1.decls k2.decls h1.events (k2.events ++ a ∷ []) h1.waiting vs asked_a
          (let (decls, limit, same_out, bad) = fa.fires.same in one.decls ∙ sym decls) (starts_no_more_a vs within)
          (λ w there. ap (innermost w.who) events_k2_a ∙ inner_a w.who (asks_a w there) ∙ ap (innermost w.who) (sym fa.fires.events)) sa.fine;
    }

    two : Replayed asks h2 k2 a asked_a h0 fa.t fa.fires.w
    two = replay asks pa h0 h1 h2 k2 fa asked_a sa can_a

    abbrev k4 : HubState R
    k4 = two.n

    routines_same : (g : ℕ) → slice_get k4.routines g ≡ slice_get h4.routines g
    routines_same g = by (takes_part g a) (takes_part g b) refl refl
      where
        by : (of_a of_b : Bool) → takes_part g a ≡ of_a → takes_part g b ≡ of_b → slice_get k4.routines g ≡ slice_get h4.routines g
        by true of_b is is_b = two.on g is ∙ sym (same_routine pb h2 h3 fb asks sa.ready asked_b h4 sb g (not_b g is))
        by false true is is_b = two.off g is ∙ one.on g is_b
        by false false is is_b =
            two.off g is ∙ one.off g is_b
            ∙ sym (same_routine pb h2 h3 fb asks sa.ready asked_b h4 sb g is_b ∙ same_routine pa h0 h1 fa asks idle asked_a h2 sa g is)

    waits_same : (g : ℕ) → waits_of g h4.waiting ≡ waits_of g k4.waiting
    waits_same g = by (takes_part g a) (takes_part g b) refl refl
      where
        by : (of_a of_b : Bool) → takes_part g a ≡ of_a → takes_part g b ≡ of_b → waits_of g h4.waiting ≡ waits_of g k4.waiting
        by true of_b is is_b = same_waits pb h2 h3 fb asks sa.ready asked_b h4 sb g (not_b g is) ∙ sym (two.waits_on g is)
        by false true is is_b = sym (two.waits_off g is ∙ one.waits_on g is_b)
        by false false is is_b =
            same_waits pb h2 h3 fb asks sa.ready asked_b h4 sb g is_b ∙ same_waits pa h0 h1 fa asks idle asked_a h2 sa g is
            ∙ sym (two.waits_off g is ∙ one.waits_off g is_b)

    alike_behind : Alike h4 k4
    alike_behind = record {
      decls = two.decls ∙ one.decls ∙ sym (sb.decls ∙ decls3);
      limit = two.limit ∙ one.limit ∙ sym limit4;
      events = subst (λ es. GoOnTheSame es k4.events) (sym events4)
          (subst (λ es. GoOnTheSame ((h0.events ++ a ∷ []) ++ b ∷ []) es) (sym (two.events ∙ events_k2_a)) (exchanged_go_on h0.events a b apart_is));
      routines = list_same k4.routines h4.routines routines_same;
      ready = two.ready ∙ sym sb.ready;
      waits = waits_same;
      out = two.out ∙ sym sb.out;
      bad = two.bad ∙ sym sb.bad;
      kept = kept4;
      kept_too = two.kept;
    }

    -- from the first state the two happen in the other order, and what is reached is alike
    pub record TurnedTo : Type 0 where
      pub k : HubState R
      pub alike : Alike h4 k
      pub events : k.events ≡ (h0.events ++ b ∷ []) ++ a ∷ []
      pub forks : List Fork
      pub way : (more : List Fork) (end : HubState R) → GoesTo asks k more end → GoesTo asks h0 (forks ++ more) end

    pub turned_to : TurnedTo
    turned_to = record {
      k = k4;
      alike = alike_behind;
      events = two.events ∙ events_k2_a;
      forks = fork_of (choice_count h0) one.pick ∷ fork_of (choice_count k2) two.pick ∷ [];
      way = λ more end way. one.way (fork_of (choice_count k2) two.pick ∷ more) end (two.way more end way);
    }
