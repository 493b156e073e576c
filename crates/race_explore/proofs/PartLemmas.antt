-- Who takes part in an event that happened, and what stays of the others.
use Rattle.std.proofs.Common.{ℕ, ◌≡◌, ◌==◌, ◌-◌, ◌<◌, ◌++◌, ◌⊎◌, Bool, true, false, if◌then◌else◌, List, [], ◌∷◌}
use Rattle.std.proofs.Common.{length, Option, Some, None, refl, sym, ap, ◌∙◌, subst, arith, slice_get, slice_set, inl, inr, true≢false, eq-eqb, eqb-true}
use Rattle.std.proofs.lemmas.{Option.{none-some, same_Some}, Bool.Decides.nat_tests}
use Rattle.std.specs.{Option.option_or}
use Rattle.race_model.{specs.Events.{takes_part, partner, starts}, proofs.Indexes.at_below}
use Rattle.race_records.specs.declared.event.{Event.Event, Op.{Op, TheVariants.{Go}}}
use Rattle.race_exchange.proofs.Asked.{takes_own_part, takes_second_part}
use Rattle.race_requests.specs.declared.{choice.Choice.Choice, request.{Answer.Answer, Ask.Ask, Offer.Offer, Request.Request, Waiter.Waiter}}
use Rattle.race_requests.specs.{Choices.{event_of, op_of}, Table.{offers_of, done_by, IsRow}, Sound.asks_to_start}
use Rattle.race_requests.proofs.ChoiceLemmas.{meets_by, IsMeet, is_meet}
use Rattle.race_hub.specs.{Hub.HubState, Kept.{IsKept}}
use Rattle.race_hub.specs.Fires.{IsFired, partner_of, is_asker, without_leaver, goes_on, begins, started_by}
use Rattle.race_hub.proofs.{OnceLemmas.{event_who, starts_go}, TableLemmas.{set_other, get_set}}
use Rattle.race_explore.proofs.WaiterLemmas.{waits_of, waits_append, IsIn, counted, one_waits}
use Rattle.race_explore.proofs.MatchLemmas.{event_is, made_by}
use Rattle.race_explore.proofs.AlikeLemmas.{takes, left_in, wait_once}
use Rattle.race_explore.proofs.SettleLemmas.{AllPass, AgreeOn, Settled, ask_off, ask_none}
use Rattle.race_explore.proofs.{FireLemmas.rows_there, BadLemmas.{go_asks, or_cases}}

-- the operation of an event that is made of one
made_op : (who place : ℕ) (place2 : Option ℕ) (o : Option Op) (e : Event)
    → elim o [ None ↦ None | Some op ↦ Some (record { who = who; op = op; place = place; place2 = place2 }) ] ≡ Some e → o ≡ Some e.op
made_op who place place2 None e is = absurd (none-some e is)
made_op who place place2 (Some op) e is =
    ap (λ (x : Event). Some x.op) (same_Some (record { who = who; op = op; place = place; place2 = place2 }) e is)

-- who offers something doesn't ask to start anybody
offers_only : (ask : Ask) (g q : ℕ) (o : Offer) → slice_get (offers_of ask) q ≡ Some o → asks_to_start g ask ≡ false
offers_only (Ask.Go h) g q o is = absurd (none-some o is)
offers_only _ g q o is = refl

module _ (past : List Event) (ws : List Waiter) (t : Choice) (w : Waiter) (e : Event) (asks : slice_get ws t.place ≡ Some w)
    (makes : event_of past ws t ≡ Some e)
  where
    -- what who meets nobody does is what it does alone
    pub alone_does : t.partner ≡ 0 → op_of past w.asked.ask t.offer ≡ Some e.op
    alone_does none =
        made_op w.who w.asked.place None (op_of past w.asked.ask t.offer) e
        (ap (λ (b : Bool). made_by past w t.offer b (slice_get ws (t.partner - 1)) (t.partner_offer - 1)) (sym (eq-eqb t.partner 0 none))
        ∙ sym (event_is past ws t w asks) ∙ makes)

    meeting : (r : Waiter) → (t.partner == 0) ≡ false → slice_get ws (t.partner - 1) ≡ Some r
        → IsMeet r.who (slice_get (offers_of w.asked.ask) t.offer) (slice_get (offers_of r.asked.ask) (t.partner_offer - 1)) e.op
    meeting r meets at =
        is_meet r.who (slice_get (offers_of w.asked.ask) t.offer) (slice_get (offers_of r.asked.ask) (t.partner_offer - 1)) e.op
        (made_op w.who w.asked.place (Some r.asked.place)
        (meets_by r.who (slice_get (offers_of w.asked.ask) t.offer) (slice_get (offers_of r.asked.ask) (t.partner_offer - 1))) e
        (sym (λ i. made_by past w t.offer (meets i) (at i) (t.partner_offer - 1)) ∙ sym (event_is past ws t w asks) ∙ makes))

    -- whom it meets takes part, and doesn't ask to start anybody
    pub partner_takes_part : (r : Waiter) → (t.partner == 0) ≡ false → slice_get ws (t.partner - 1) ≡ Some r → takes_part r.who e ≡ true
    partner_takes_part r meets at = takes_second_part e r.who (ap partner (meeting r meets at).op_is)

    pub partner_starts_none : (r : Waiter) → (t.partner == 0) ≡ false → slice_get ws (t.partner - 1) ≡ Some r → (g : ℕ) → asks_to_start g r.asked.ask ≡ false
    partner_starts_none r meets at g = offers_only r.asked.ask g (t.partner_offer - 1) _ (meeting r meets at).receives

    -- who asks by a branch that meets has an offer there
    pub asker_offers : (r : Waiter) → (t.partner == 0) ≡ false → slice_get ws (t.partner - 1) ≡ Some r
        → (o : Offer) × (slice_get (offers_of w.asked.ask) t.offer ≡ Some o)
    asker_offers r meets at = (Offer.Send (Some (meeting r meets at).chan) (meeting r meets at).value, (meeting r meets at).sends)

-- who is met
pub partner_there : (t : Choice) (ws : List Waiter) (r : Waiter) → partner_of t ws ≡ Some r → ((t.partner == 0) ≡ false) × (slice_get ws (t.partner - 1) ≡ Some r)
partner_there t ws r is = by (t.partner == 0) refl is
  where
    by : (b : Bool) → (t.partner == 0) ≡ b → (if b then None else slice_get ws (t.partner - 1)) ≡ Some r
        → ((t.partner == 0) ≡ false) × (slice_get ws (t.partner - 1) ≡ Some r)
    by true test is = absurd (none-some r is)
    by false test is = (test, is)

pass_append : (p : ℕ → Bool) (xs ys : List (ℕ × Answer)) → AllPass p xs → AllPass p ys → AllPass p (xs ++ ys)
pass_append p [] ys all more = more
pass_append p (x ∷ xs) ys all more = (all.0, pass_append p xs ys all.1 more)

pass_goes : (p : ℕ → Bool) (o : Option Waiter) (told : Option Answer) → ((v : Waiter) → o ≡ Some v → p v.who ≡ true) → AllPass p (goes_on o told)
pass_goes p None told passes = tt
pass_goes p (Some v) None passes = tt
pass_goes p (Some v) (Some answer) passes = (passes v refl, tt)

pass_begins : (p : ℕ → Bool) (o : Option ℕ) → ((g : ℕ) → o ≡ Some g → p g ≡ true) → AllPass p (begins o)
pass_begins p None passes = tt
pass_begins p (Some g) passes = (passes g refl, tt)

positive : (n : ℕ) → (n == 0) ≡ false → 0 < n
positive n is = grind (arith, nat_tests)

pub started_part : (e : Event) (g : ℕ) → started_by e.op ≡ Some g → takes_part g e ≡ true
started_part e g is = takes_second_part e g (by e.op is)
  where
    by : (op : Op) → started_by op ≡ Some g → partner op ≡ Some g
    by (Go h) is = is
    by _ is = absurd (none-some g is)

pub nothing_else : {X : Type 0} (o : Option X) → option_or o None ≡ o
nothing_else None = refl
nothing_else (Some x) = refl

module _ {R : Type 0} where
  pub leaver_off : (w : Waiter) (told : Option Answer) (rs : List (Option R)) (g : ℕ) → (w.who ≡ g → ⊥)
      → slice_get (without_leaver (Some w) told rs) g ≡ slice_get rs g
  leaver_off w None rs g unlike = set_other rs w.who g None unlike
  leaver_off w (Some answer) rs g unlike = refl

  pub leaver_on : (p : ℕ → Bool) (w : Waiter) (told : Option Answer) (rs others : List (Option R)) → w.who < length rs → w.who < length others
      → AgreeOn p rs others → AgreeOn p (without_leaver (Some w) told rs) (without_leaver (Some w) told others)
  leaver_on p w (Some answer) rs others less less_too agree g passes = agree g passes
  leaver_on p w None rs others less less_too agree g passes = by (w.who == g) refl
    where
      by : (b : Bool) → (w.who == g) ≡ b → slice_get (slice_set others w.who None) g ≡ slice_get (slice_set rs w.who None) g
      by true is =
          subst (λ n. slice_get (slice_set others w.who None) n ≡ slice_get (slice_set rs w.who None) n) (eqb-true w.who g is)
          (get_set others w.who None less_too ∙ sym (get_set rs w.who None less))
      by false is =
          let unlike : w.who ≡ g → ⊥ = λ same. true≢false (sym (eq-eqb w.who g same) ∙ is) in
          set_other others w.who g None unlike ∙ agree g passes ∙ sym (set_other rs w.who g None unlike)

  -- who waits has a place
  pub waits_within : (h : HubState R) (w : Waiter) → IsKept h → IsIn w h.waiting → w.who < length h.routines
  waits_within h w kept there = let some = counted h.waiting w there in kept.places w.who (omega (arith, some))

  module _ (pick : ℕ) (h next : HubState R) (f : IsFired pick h next) where
    pub asker_part : takes_part f.fires.w.who f.fires.e ≡ true
    asker_part =
        subst (λ g. takes_part g f.fires.e ≡ true) (event_who h.events h.waiting f.t f.fires.w f.fires.e f.fires.asks f.fires.makes)
        (takes_own_part f.fires.e)

    pub partner_part : (r : Waiter) → partner_of f.t h.waiting ≡ Some r → takes_part r.who f.fires.e ≡ true
    partner_part r is =
        let there = partner_there f.t h.waiting r is in
        partner_takes_part h.events h.waiting f.t f.fires.w f.fires.e f.fires.asks f.fires.makes r there.0 there.1

    -- who waited and waits no more takes part
    pub takes_is_part : (g : ℕ) → takes g f.fires.w (partner_of f.t h.waiting) ≡ true → takes_part g f.fires.e ≡ true
    takes_is_part g is = by (or_cases (f.fires.w.who == g) (is_asker g (partner_of f.t h.waiting)) is)
      where
        met : (o : Option Waiter) → partner_of f.t h.waiting ≡ o → is_asker g o ≡ true → takes_part g f.fires.e ≡ true
        met None at asks = absurd (true≢false (sym asks))
        met (Some r) at asks = subst (λ n. takes_part n f.fires.e ≡ true) (eqb-true r.who g asks) (partner_part r at)

        by : ((f.fires.w.who == g) ≡ true) ⊎ (is_asker g (partner_of f.t h.waiting) ≡ true) → takes_part g f.fires.e ≡ true
        by (inl own) = subst (λ n. takes_part n f.fires.e ≡ true) (eqb-true f.fires.w.who g own) asker_part
        by (inr other) = met (partner_of f.t h.waiting) refl other

    pub not_taken : (g : ℕ) → takes_part g f.fires.e ≡ false → takes g f.fires.w (partner_of f.t h.waiting) ≡ false
    not_taken g out = by (takes g f.fires.w (partner_of f.t h.waiting)) refl
      where
        by : (b : Bool) → takes g f.fires.w (partner_of f.t h.waiting) ≡ b → takes g f.fires.w (partner_of f.t h.waiting) ≡ false
        by true is = absurd (true≢false (sym (takes_is_part g is) ∙ out))
        by false is = is

    pub ready_takes_part : h.ready ≡ [] → AllPass (λ g. takes_part g f.fires.e) next.ready
    ready_takes_part idle =
        subst (AllPass (λ g. takes_part g f.fires.e)) (sym (f.fires.ready
        ∙ ap (λ r. r ++ goes_on (Some f.fires.w) f.fires.told ++ goes_on (partner_of f.t h.waiting) f.fires.partner_told ++ begins (started_by f.fires.e.op)) idle))
        (pass_append (λ g. takes_part g f.fires.e) (goes_on (Some f.fires.w) f.fires.told ++ goes_on (partner_of f.t h.waiting) f.fires.partner_told)
        (begins (started_by f.fires.e.op))
        (pass_append (λ g. takes_part g f.fires.e) (goes_on (Some f.fires.w) f.fires.told) (goes_on (partner_of f.t h.waiting) f.fires.partner_told)
        (pass_goes (λ g. takes_part g f.fires.e) (Some f.fires.w) f.fires.told
        (λ v is. ap (λ (x : Waiter). takes_part x.who f.fires.e) (sym (same_Some f.fires.w v is)) ∙ asker_part))
        (pass_goes (λ g. takes_part g f.fires.e) (partner_of f.t h.waiting) f.fires.partner_told partner_part))
        (pass_begins (λ g. takes_part g f.fires.e) (started_by f.fires.e.op) (started_part f.fires.e)))

    -- who takes no part waits for the same behind the event
    pub waits_still : (g : ℕ) → takes_part g f.fires.e ≡ false → waits_of g next.waiting ≡ waits_of g h.waiting
    waits_still g out =
        let rows = rows_there pick h next f in
        ap (waits_of g) f.fires.waiting ∙ left_in f.t h.waiting f.fires.w f.fires.asks rows.partner rows.apart g (not_taken g out)

    -- and behind the turns, with the same routine
    module _ (asks : R → Answer → Request → R → Type 0) (idle : h.ready ≡ []) (asked : List Waiter) (m : HubState R) (s : Settled asks next asked m) (g : ℕ)
        (out : takes_part g f.fires.e ≡ false)
      where
        pub same_routine : slice_get m.routines g ≡ slice_get h.routines g
        same_routine =
            ask_off asks (λ g. takes_part g f.fires.e) next.ready next.routines asked m.routines (ready_takes_part idle) s.all g out
            ∙ ap (λ rs. slice_get rs g) f.fires.routines
            ∙ leaver_off f.fires.w f.fires.told h.routines g (λ same. true≢false (sym (subst (λ n. takes_part n f.fires.e ≡ true) same asker_part) ∙ out))

        pub same_waits : waits_of g m.waiting ≡ waits_of g h.waiting
        same_waits =
            ap (waits_of g) s.waiting ∙ waits_append g next.waiting asked
            ∙ (λ i. option_or (waits_still g out i)
            (ask_none asks (λ g. takes_part g f.fires.e) next.ready next.routines asked m.routines (ready_takes_part idle) s.all g out i))
            ∙ nothing_else (waits_of g h.waiting)

    -- who takes part and asked to start somebody does so in the event
    pub started_here : IsKept h → (v : Waiter) (g : ℕ) → IsIn v h.waiting → takes v.who f.fires.w (partner_of f.t h.waiting) ≡ true
        → asks_to_start g v.asked.ask ≡ true → starts g f.fires.e.op ≡ true
    started_here kept v g there taken v_asks = by (or_cases (f.fires.w.who == v.who) (is_asker v.who (partner_of f.t h.waiting)) taken)
      where
        same_as : (x : Waiter) → IsIn x h.waiting → (x.who == v.who) ≡ true → asks_to_start g x.asked.ask ≡ true
        same_as x x_there same =
            ap (λ (y : Waiter). asks_to_start g y.asked.ask) (one_waits h.waiting (wait_once h kept) x v x_there there (eqb-true x.who v.who same)) ∙ v_asks

        met : (o : Option Waiter) → partner_of f.t h.waiting ≡ o → is_asker v.who o ≡ true → ⊥
        met None at asks = true≢false (sym asks)
        met (Some r) at asks =
            let place = partner_there f.t h.waiting r at in
            true≢false (sym (same_as r (f.t.partner - 1, place.1) asks)
            ∙ partner_starts_none h.events h.waiting f.t f.fires.w f.fires.e f.fires.asks f.fires.makes r place.0 place.1 g)

        alone : (b : Bool) → (f.t.partner == 0) ≡ b → asks_to_start g f.fires.w.asked.ask ≡ true → starts g f.fires.e.op ≡ true
        alone true none asks =
            does f.fires.w.asked.ask asks (alone_does h.events h.waiting f.t f.fires.w f.fires.e f.fires.asks f.fires.makes (eqb-true f.t.partner 0 none))
          where
            does : (ask : Ask) → asks_to_start g ask ≡ true → op_of h.events ask f.t.offer ≡ Some f.fires.e.op → starts g f.fires.e.op ≡ true
            does (Ask.Go k) asks is = ap (starts g) (sym (same_Some (Go k) f.fires.e.op is)) ∙ asks
            does _ asks is = absurd (true≢false (sym asks))
        alone false meets asks =
            let rows = rows_there pick h next f in
            let some = positive f.t.partner meets in
            let le = rows.partner in
            let (r, at) = at_below h.waiting (f.t.partner - 1) (omega (arith, some, le)) in
            let (o, offer) = asker_offers h.events h.waiting f.t f.fires.w f.fires.e f.fires.asks f.fires.makes r meets at in
            absurd (true≢false (sym asks ∙ offers_only f.fires.w.asked.ask g f.t.offer o offer))

        by : ((f.fires.w.who == v.who) ≡ true) ⊎ (is_asker v.who (partner_of f.t h.waiting) ≡ true) → starts g f.fires.e.op ≡ true
        by (inl own) = alone (f.t.partner == 0) refl (same_as f.fires.w (f.t.place, f.fires.asks) own)
        by (inr other) = absurd (met (partner_of f.t h.waiting) refl other)

    -- and who is started in it was asked for
    pub asked_here : (g : ℕ) → starts g f.fires.e.op ≡ true → asks_to_start g f.fires.w.asked.ask ≡ true
    asked_here g is =
        go_asks f.fires.w.asked.ask f.t.offer g f.fires.told
        (subst (λ op. IsRow f.fires.w.asked.ask f.t.offer (done_by f.fires.w.who op) f.fires.told) (starts_go g f.fires.e.op is) f.fires.row)
