-- An event that happened in one state happens in another one, in which those that take part in it stand the same, and so do the turns behind it.
use Rattle.std.proofs.Common.{ℕ, ◌≡◌, ◌≢◌, ◌==◌, ◌-◌, ◌+◌, ◌<◌, ◌≤◌, ◌%◌, ◌++◌, ◌&&◌, not, Bool, true, false, cond, if◌then◌else◌, List, [], ◌∷◌}
use Rattle.std.proofs.Common.{length, map, ◌⊎◌, inl, inr, Option, Some, None, is_none, refl, sym, ap, ◌∙◌, subst, arith, slice_get, true≢false, eqb-true}
use Rattle.std.proofs.lemmas.{Option.{none-some, same_Some, slice_get_within}, Bool.{and_parts, Decides.nat_tests}}
use Rattle.std.specs.{Option.option_or}
use Rattle.race_model.specs.{Events.takes_part, Legal.broken}
use Rattle.race_model.proofs.Indexes.{at_below}
use Rattle.race_records.specs.declared.event.{Event.Event, Op.{Op, TheVariants.Default}}
use Rattle.race_records.specs.Declarations.{capacity_of}
use Rattle.race_exchange.specs.Independent.{is_default}
use Rattle.race_requests.specs.declared.{choice.Choice.Choice, request.{Answer.Answer, Ask.Ask, Offer.Offer, Request.Request, Waiter.Waiter}}
use Rattle.race_requests.specs.Choices.{event_of, lone_op, offer_at, op_of, is_default_of, is_legal_next, can_move}
use Rattle.race_requests.specs.{Table.offers_of, Offers.case_of}
use Rattle.race_hub.specs.{Hub.{HubState, choices_of, stop_by, stop_of, end_of}, Kept.IsKept}
use Rattle.race_hub.specs.Fires.{Fires, IsFired, HasRoutine, partner_of, goes_on, begins, started_by}
use Rattle.race_hub.proofs.OnceLemmas.{count_without, is_waiter}
use Rattle.race_record.specs.declared.noting.Fork.{Fork}
use Rattle.race_explore.specs.Ways.{fired, fork_of, choice_count}
use Rattle.race_explore.proofs.WaiterLemmas.{waits_of, waits_append, WaitOnce, IsIn, found_in, in_found}
use Rattle.race_explore.proofs.TupleLemmas.{IsTupleOf, choice_has, choice_only, in_either}
use Rattle.race_explore.proofs.MatchLemmas.{AreSame, like_there, same_event, same_tuple, same_default}
use Rattle.race_explore.proofs.AlikeLemmas.{takes, taken_out, left_in, wait_once}
use Rattle.race_explore.proofs.TurnLemmas.{runs_while}
use Rattle.race_explore.proofs.SettleLemmas.{NoneIsBad, AgreeOn, AgreeOff, AskAll, Settled, Settles, GoesTo, ask_none, ask_elsewhere, settles}
use Rattle.race_explore.proofs.FireLemmas.{same_partner, fired_hub, fire_like, HappensBy, rows_there, happens_by}
use Rattle.race_explore.proofs.LockstepLemmas.{without_same}
use Rattle.race_explore.proofs.PartLemmas.{alone_does, asker_offers, started_part, leaver_on, leaver_off, waits_within, asker_part, partner_part, nothing_else}
use Rattle.race_explore.proofs.PartLemmas.{not_taken, ready_takes_part}
use Rattle.race_requests.specs.Choices.{is_default as takes_default}

-- by its default a select does the default
default_does : (past : List Event) (ask : Ask) (k : ℕ) (op : Op) → is_default_of ask k ≡ true → op_of past ask k ≡ Some op → is_default op ≡ true
default_does past (Ask.Select offers has_default) k op test is =
    ap is_default (sym (same_Some (Default (map case_of offers)) op
    (sym (ap (λ b. cond b (Some (Default (map case_of offers))) (offer_at offers k (lone_op past))) test) ∙ is)))
default_does past _ k op test is = absurd (true≢false (sym test))

-- and there is no offer
default_offers : (ask : Ask) (k : ℕ) (o : Offer) → is_default_of ask k ≡ true → slice_get (offers_of ask) k ≡ Some o → ⊥
default_offers (Ask.Select offers has_default) k o test is =
    let last = eqb-true k (length offers) (and_parts has_default (k == length offers) test).1 in
    let within = slice_get_within offers k o is in
    absurd (omega (arith, last, within))
default_offers _ k o test is = true≢false (sym test)

module _ {R : Type 0} (asks : R → Answer → Request → R → Type 0) where
  -- the event of the one state, where k may replay it
  pub record CanReplay (pick : ℕ) (h next k : HubState R) (f : IsFired pick h next) (asked : List Waiter) : Type 0 where
    pub idle : h.ready ≡ []
    pub kept : IsKept h
    pub idle_too : k.ready ≡ []
    pub out : k.out ≡ []
    pub kept_too : IsKept k
    pub decls : k.decls ≡ h.decls
    pub on : AgreeOn (λ g. takes_part g f.fires.e) h.routines k.routines
    pub waits_on : (g : ℕ) → takes_part g f.fires.e ≡ true → waits_of g k.waiting ≡ waits_of g h.waiting
    pub moves : is_default f.fires.e.op ≡ false
    pub does : (ask : Ask) (n : ℕ) → op_of h.events ask n ≡ Some f.fires.e.op → op_of h.events ask n ≡ op_of k.events ask n
    pub legal : broken (capacity_of k.decls.declarations) k.events f.fires.e ≡ None
    pub goes_on : stop_of k ≡ None
    pub goes_on_behind : stop_by (k.events ++ f.fires.e ∷ []) k.limit k.bad ≡ None
    pub fine : (vs : List Waiter)
        → ((v : Waiter) → IsIn v vs → IsIn v k.waiting × (takes v.who f.fires.w (partner_of f.t h.waiting) ≡ false))
        → NoneIsBad k.decls (k.events ++ f.fires.e ∷ []) vs asked

  -- what comes of it: those that take part stand as behind the one state, and the others as in k
  pub record Replayed (m k : HubState R) (e : Event) (asked : List Waiter) (before : HubState R) (t : Choice) (w : Waiter) : Type 0 where
    pub n : HubState R
    pub kept : IsKept n
    pub events : n.events ≡ k.events ++ e ∷ []
    pub decls : n.decls ≡ k.decls
    pub limit : n.limit ≡ k.limit
    pub ready : n.ready ≡ []
    pub out : n.out ≡ []
    pub bad : n.bad ≡ None
    pub on : AgreeOn (λ g. takes_part g e) m.routines n.routines
    pub off : AgreeOff (λ g. takes_part g e) k.routines n.routines
    pub waits_on : (g : ℕ) → takes_part g e ≡ true → waits_of g n.waiting ≡ waits_of g m.waiting
    pub waits_off : (g : ℕ) → takes_part g e ≡ false → waits_of g n.waiting ≡ waits_of g k.waiting
    -- what waits did wait in k and takes no part, or was asked behind the event
    pub waiting : (v : Waiter) → IsIn v n.waiting → (IsIn v k.waiting × (takes v.who w (partner_of t before.waiting) ≡ false)) ⊎ IsIn v asked
    pub pick : ℕ
    pub way : (forks : List Fork) (end : HubState R) → GoesTo asks n forks end → GoesTo asks k (fork_of (choice_count k) pick ∷ forks) end

  module _ (pick : ℕ) (h next m k : HubState R) (f : IsFired pick h next) (asked : List Waiter) (s : Settled asks next asked m)
      (can : CanReplay pick h next k f asked)
    where
      abbrev e : Event
      e = f.fires.e

      abbrev w : Waiter
      w = f.fires.w

      tuple : IsTupleOf h.waiting f.t
      tuple = (choice_only (capacity_of h.decls.declarations) h.events h.waiting f.t (pick % length (choices_of h), f.chosen)).0

      waits_too : (v : Waiter) → IsIn v h.waiting → takes_part v.who e ≡ true → IsIn v k.waiting
      waits_too v there in_e = (found_in v.who k.waiting v (can.waits_on v.who in_e ∙ in_found h.waiting (wait_once h can.kept) v there)).0

      like : (u : Choice) × AreSame h.waiting k.waiting f.t u
      like =
          like_there h.waiting k.waiting f.t tuple
          (λ v at. waits_too v (f.t.place, at) (ap (λ (x : Waiter). takes_part x.who e) (same_Some v w (sym at ∙ f.fires.asks)) ∙ asker_part pick h next f))
          (λ r some at. waits_too r (f.t.partner - 1, at) (partner_part pick h next f r (meets some at)))
        where
          meets : {r : Waiter} → 0 < f.t.partner → slice_get h.waiting (f.t.partner - 1) ≡ Some r → partner_of f.t h.waiting ≡ Some r
          meets some at = ap (λ b. if b then None else slice_get h.waiting (f.t.partner - 1)) (let test : (f.t.partner == 0) ≡ false = grind (arith, nat_tests) in test) ∙ at

      waiter : like.1.w ≡ w
      waiter = same_Some like.1.w w (sym like.1.asks ∙ f.fires.asks)

      makes : event_of k.events k.waiting like.0 ≡ Some e
      makes =
          sym (same_event h.events k.events h.waiting k.waiting f.t like.0 like.1
          (λ alone. can.does like.1.w.asked.ask f.t.offer (ap (λ (x : Waiter). op_of h.events x.asked.ask f.t.offer) waiter
          ∙ alone_does h.events h.waiting f.t w e f.fires.asks f.fires.makes alone)))
          ∙ f.fires.makes

      no_default : takes_default h.waiting f.t ≡ false
      no_default = ap (λ (o : Option Waiter). elim o [ None ↦ false | Some v ↦ is_default_of v.asked.ask f.t.offer ]) f.fires.asks
          ∙ by (is_default_of w.asked.ask f.t.offer) refl
        where
          meets : (b : Bool) → (f.t.partner == 0) ≡ b → is_default_of w.asked.ask f.t.offer ≡ true → ⊥
          meets true none test =
              true≢false (sym (default_does h.events w.asked.ask f.t.offer e.op test
              (alone_does h.events h.waiting f.t w e f.fires.asks f.fires.makes (eqb-true f.t.partner 0 none))) ∙ can.moves)
          meets false some test =
              let rows = rows_there pick h next f in
              let le = rows.partner in
              let more : 0 < f.t.partner = grind (arith, nat_tests) in
              let (r, at) = at_below h.waiting (f.t.partner - 1) (omega (arith, more, le)) in
              let (o, offer) = asker_offers h.events h.waiting f.t w e f.fires.asks f.fires.makes r some at in
              default_offers w.asked.ask f.t.offer o test offer

          by : (b : Bool) → is_default_of w.asked.ask f.t.offer ≡ b → is_default_of w.asked.ask f.t.offer ≡ false
          by true test = absurd (meets (f.t.partner == 0) refl test)
          by false test = test

      there : IsIn like.0 (choices_of k)
      there =
          choice_has (capacity_of k.decls.declarations) k.events k.waiting like.0 (same_tuple h.waiting k.waiting f.t like.0 like.1 tuple)
          ((λ i. is_legal_next (capacity_of k.decls.declarations) k.events (makes i)
          && not (sym (same_default h.waiting k.waiting f.t like.0 like.1) i && can_move (capacity_of k.decls.declarations) k.events k.waiting like.0.place))
          ∙ (λ i. is_none (can.legal i)
          && not (no_default i && can_move (capacity_of k.decls.declarations) k.events k.waiting like.0.place)))

      routine_by : (o : Option ℕ) → started_by e.op ≡ o → HasRoutine h.routines o → HasRoutine k.routines o
      routine_by None is has = tt
      routine_by (Some g) is has = (has.0, can.on g (started_part e g is) ∙ has.1)

      abbrev after : HubState R
      after = fired_hub k like.0 w e f.fires.told f.fires.partner_told

      fires : Fires k like.0 after
      fires = fire_like h next k f.t like.0 f.fires like.1 makes can.legal (routine_by (started_by e.op) refl f.fires.routine)

      running : end_of k ≡ None
      running = runs_while k can.goes_on (by (choices_of k) there (length k.ready == 0) (length k.out == 0))
        where
          by : (cs : List Choice) → IsIn like.0 cs → (a b : Bool) → (a && (b && (length cs == 0))) ≡ false
          by [] is a b = let (i, at) = is in absurd (none-some like.0 at)
          by (c ∷ cs) is true true = let some : (length (c ∷ cs) == 0) ≡ false = grind (arith, nat_tests) in some
          by (c ∷ cs) is true false = refl
          by (c ∷ cs) is false b = refl

      happens : HappensBy k like.0 fires.e after
      happens = happens_by k after like.0 running can.kept_too there fires

      asks_too : slice_get k.waiting like.0.place ≡ Some w
      asks_too = like.1.asks_too ∙ ap (λ (x : Waiter). Some x) waiter

      partner_is : partner_of like.0 k.waiting ≡ partner_of f.t h.waiting
      partner_is = same_partner h.waiting k.waiting f.t like.0 like.1.partner

      partner_too : like.0.partner ≤ length k.waiting
      partner_too = subst (λ (t : Choice). t.partner ≤ length k.waiting) happens.t_is (rows_there happens.pick k after happens.fired).partner

      apart_too : like.0.partner ≢ like.0.place + 1
      apart_too = subst (λ (t : Choice). t.partner ≢ t.place + 1) happens.t_is (rows_there happens.pick k after happens.fired).apart

      ready_is : after.ready ≡ next.ready
      ready_is =
          (λ i. (can.idle_too ∙ sym can.idle) i ++ goes_on (Some w) f.fires.told ++ goes_on (partner_is i) f.fires.partner_told ++ begins (started_by e.op))
          ∙ sym f.fires.ready

      agree : AgreeOn (λ g. takes_part g e) next.routines after.routines
      agree =
          subst (λ rs. AgreeOn (λ g. takes_part g e) rs after.routines) (sym f.fires.routines)
          (leaver_on (λ g. takes_part g e) w f.fires.told h.routines k.routines (waits_within h w can.kept (f.t.place, f.fires.asks))
          (waits_within k w can.kept_too (like.0.place, asks_too)) can.on)

      elsewhere : (end : List (Option R)) × AskAll asks next.ready after.routines asked end × AgreeOn (λ g. takes_part g e) m.routines end
          × AgreeOff (λ g. takes_part g e) after.routines end
      elsewhere =
          ask_elsewhere asks (λ g. takes_part g e) next.ready next.routines after.routines asked m.routines (ready_takes_part pick h next f can.idle) agree s.all

      once_after : WaitOnce after.waiting
      once_after g =
          let sum = count_without (is_waiter g) like.0 k.waiting w asks_too partner_too apart_too in
          let most = wait_once k can.kept_too g in
          omega (arith, sum, most)

      left_waiting : (v : Waiter) → IsIn v after.waiting → IsIn v k.waiting × (takes v.who w (partner_of f.t h.waiting) ≡ false)
      left_waiting v v_there = by (takes v.who w (partner_of like.0 k.waiting)) refl
        where
          found : waits_of v.who after.waiting ≡ Some v
          found = in_found after.waiting once_after v v_there

          by : (b : Bool) → takes v.who w (partner_of like.0 k.waiting) ≡ b → IsIn v k.waiting × (takes v.who w (partner_of f.t h.waiting) ≡ false)
          by true is =
              absurd (none-some v (sym (taken_out like.0 k.waiting w asks_too partner_too apart_too (wait_once k can.kept_too) v.who is) ∙ found))
          by false is = (
            (found_in v.who k.waiting v (sym (left_in like.0 k.waiting w asks_too partner_too apart_too v.who is) ∙ found)).0,
            ap (takes v.who w) (sym partner_is) ∙ is,
          )

      settled : Settles asks after asked elsewhere.0
      settled =
          settles asks next.ready asked elsewhere.0 after ready_is can.out happens.kept can.goes_on_behind elsewhere.1 (can.fine after.waiting left_waiting)

      waits_behind : (g : ℕ) → waits_of g settled.m.waiting ≡ option_or (waits_of g after.waiting) (waits_of g asked)
      waits_behind g = ap (waits_of g) settled.settled.waiting ∙ waits_append g after.waiting asked

      waits_on : (g : ℕ) → takes_part g e ≡ true → waits_of g settled.m.waiting ≡ waits_of g m.waiting
      waits_on g takes_it =
          let rows = rows_there pick h next f in
          waits_behind g
          ∙ ap (λ o. option_or o (waits_of g asked)) (sym (without_same f.t like.0 h.waiting k.waiting w f.fires.asks asks_too rows.partner partner_too rows.apart
          apart_too (wait_once h can.kept) (wait_once k can.kept_too) partner_is g (sym (can.waits_on g takes_it))))
          ∙ sym (ap (waits_of g) s.waiting ∙ waits_append g next.waiting asked ∙ ap (λ ws. option_or (waits_of g ws) (waits_of g asked)) f.fires.waiting)

      waits_off : (g : ℕ) → takes_part g e ≡ false → waits_of g settled.m.waiting ≡ waits_of g k.waiting
      waits_off g out =
          waits_behind g
          ∙ (λ i. option_or (left_in like.0 k.waiting w asks_too partner_too apart_too g (ap (takes g w) partner_is ∙ not_taken pick h next f g out) i)
          (ask_none asks (λ g. takes_part g e) next.ready next.routines asked m.routines (ready_takes_part pick h next f can.idle) s.all g out i))
          ∙ nothing_else (waits_of g k.waiting)

      others : (g : ℕ) → takes_part g e ≡ false → slice_get settled.m.routines g ≡ slice_get k.routines g
      others g out =
          ap (λ rs. slice_get rs g) settled.routines ∙ elsewhere.3 g out
          ∙ leaver_off w f.fires.told k.routines g (λ same. true≢false (sym (subst (λ n. takes_part n e ≡ true) same (asker_part pick h next f)) ∙ out))

      pub replay : Replayed m k e asked h f.t w
      replay = record {
        n = settled.m;
        kept = settled.kept;
        events = settled.settled.events;
        decls = settled.settled.decls;
        limit = settled.settled.limit;
        ready = settled.settled.ready;
        out = settled.settled.out;
        bad = settled.settled.bad;
        on = λ g takes_it. ap (λ rs. slice_get rs g) settled.routines ∙ elsewhere.2 g takes_it;
        off = others;
        waits_on = waits_on;
        waits_off = waits_off;
        waiting = λ v v_there. by v (in_either v after.waiting asked (subst (IsIn v) settled.settled.waiting v_there));
        pick = happens.pick;
        way = λ forks end way. fired happens.pick (happens.within, (can.idle_too, happens.fired)) (settled.way forks end way);
      }
        where
          by : (v : Waiter) → IsIn v after.waiting ⊎ IsIn v asked → (IsIn v k.waiting × (takes v.who w (partner_of f.t h.waiting) ≡ false)) ⊎ IsIn v asked
          by v (inl old) = inl (left_waiting v old)
          by v (inr new) = inr new
