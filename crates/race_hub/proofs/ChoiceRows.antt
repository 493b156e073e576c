-- Who takes part in the event of a choice, and what each is told.
use Rattle.std.proofs.Common.{◌≡◌, ◌==◌, ℕ, ◌<◌, ◌+◌, ◌-◌, Bool, true, false, cond, List, Option, Some, None, refl, sym}
use Rattle.std.proofs.Common.{ap, ◌∙◌, subst, arith, slice_get, eqb-true, eq-eqb, true≢false}
use Rattle.std.proofs.lemmas.Option.{none-some, slice_get_within}
use Rattle.race_records.specs.declared.event.{Event.Event, Op.{Op, TheVariants.{Send, Recv, Meet}}}
use Rattle.race_model.{specs.Legal.{broken, rules}, proofs.ChannelOrder.rules_kept}
use Rattle.race_requests.specs.declared.{choice.Choice.Choice, request.{Ask.Ask, Waiter.Waiter}}
use Rattle.race_requests.specs.{Table.{offers_of, done_by}, Choices.{op_of, lone_event, meet_event, event_of, branches}}
use Rattle.race_requests.{specs.Choices.branches_at, proofs.ChoiceLemmas.{some_is, HasAnswer, sender_has, receiver_has}}
use Rattle.race_requests.proofs.ChoiceLemmas.{lone_told, meets_by, IsMeet, is_meet}
use Rattle.race_hub.specs.{Fires.IsPartnerRow, Firing.HasSomeRows}

-- the row of a Meet that its sender has, and that of its receiver
module _ (g r : ℕ) (apart : (r == g) ≡ false) (a b : Ask) (k q : ℕ) (op : Op)
    (is : IsMeet r (slice_get (offers_of a) k) (slice_get (offers_of b) q) op) where
  sender_told : HasAnswer a k (done_by g op)
  sender_told =
      let done : Send is.chan is.value ≡ done_by g op =
      sym (ap (done_by g) is.op_is ∙ ap (λ t. cond t (Recv is.chan is.value) (Send is.chan is.value)) apart) in
      subst (HasAnswer a k) done (sender_has a k is.chan is.value is.sends)

  receiver_told : HasAnswer b q (done_by r op)
  receiver_told =
      let done : Recv is.chan is.value ≡ done_by r op =
      sym (ap (done_by r) is.op_is ∙ ap (λ t. cond t (Recv is.chan is.value) (Send is.chan is.value)) (eq-eqb r r refl)) in
      subst (HasAnswer b q) done (receiver_has b q is.chan is.value is.receives)

-- who makes an event, and by which operation
made_by : (w : Waiter) (place2 : Option ℕ) (o : Option Op) (e : Event)
    → elim o [ None ↦ None | Some op ↦ Some (record { who = w.who; op = op; place = w.asked.place; place2 = place2 }) ] ≡ Some e
    → (o ≡ Some e.op) × (e.who ≡ w.who)
made_by w place2 None e is = absurd (none-some e is)
made_by w place2 (Some op) e is = (ap (λ (x : Event). Some x.op) (some_is is), ap (λ (x : Event). x.who) (sym (some_is is)))

-- rule 4: nobody receives from itself
apart_by : (caps : ℕ → ℕ) (past : List Event) (e : Event) (r c v : ℕ) → broken caps past e ≡ None → e.op ≡ Meet r c v → (r == e.who) ≡ false
apart_by caps past e r c v legal is =
    rules_kept (rules caps past (record { who = e.who; op = Meet r c v; place = e.place; place2 = e.place2 })) 2 (4, r == e.who)
    (ap (λ op. broken caps past (record { who = e.who; op = op; place = e.place; place2 = e.place2 })) (sym is) ∙ legal) refl

module _ (caps : ℕ → ℕ) (past : List Event) (ws : List Waiter) (t : Choice) (e : Event) (legal : broken caps past e ≡ None) where
  with_rows : (w : Waiter) (r : Option Waiter) (alone : Bool) → t.offer < branches w.asked.ask
      → slice_get ws t.place ≡ Some w → slice_get ws (t.partner - 1) ≡ r → (t.partner == 0) ≡ alone
      → cond alone (lone_event past w t.offer) (elim r [ None ↦ None | Some r ↦ meet_event w t.offer r (t.partner_offer - 1) ]) ≡ Some e
      → HasSomeRows ws t e
  with_rows w r true less at other alone made =
      let by = made_by w None (op_of past w.asked.ask t.offer) e made in
      let row = lone_told past w.who t.offer w.asked.ask e.op less by.0 in
      let none = eqb-true t.partner 0 alone in
      record {
        told = row.told;
        partner_told = None;
        rows = record {
          w = w;
          asks = at;
          row = row.row;
          partner_row = subst (λ b. IsPartnerRow (cond b None (slice_get ws (t.partner - 1))) (t.partner_offer - 1) e.op None) (sym alone) refl;
          place = slice_get_within ws t.place w at;
          partner = omega (arith, none);
          apart = λ q. omega (arith, none, q);
        };
      }
  with_rows w None false less at other alone made = absurd (none-some e made)
  with_rows w (Some r) false less at other alone made =
      let x = slice_get (offers_of w.asked.ask) t.offer in
      let y = slice_get (offers_of r.asked.ask) (t.partner_offer - 1) in
      let by = made_by w (Some r.asked.place) (meets_by r.who x y) e made in
      let met = is_meet r.who x y e.op by.0 in
      let unlike : (r.who == w.who) ≡ false =
      subst (λ g. (r.who == g) ≡ false) by.1 (apart_by caps past e r.who met.chan met.value legal met.op_is) in
      let within = slice_get_within ws (t.partner - 1) r other in
      let sends = sender_told w.who r.who unlike w.asked.ask r.asked.ask t.offer (t.partner_offer - 1) e.op met in
      let receives = receiver_told w.who r.who unlike w.asked.ask r.asked.ask t.offer (t.partner_offer - 1) e.op met in
      record {
        told = Some sends.answer;
        partner_told = Some receives.answer;
        rows = record {
          w = w;
          asks = at;
          row = sends.row;
          partner_row = subst (λ b. IsPartnerRow (cond b None (slice_get ws (t.partner - 1))) (t.partner_offer - 1) e.op
              (Some receives.answer)) (sym alone)
              (subst (λ o. IsPartnerRow o (t.partner_offer - 1) e.op (Some receives.answer)) (sym other)
              ((receives.answer, refl), receives.row));
          place = slice_get_within ws t.place w at;
          partner = omega (arith, within);
          apart = λ q. same_place w r at (other_at w r at other q) unlike;
        };
      }
    where
      other_at : (w r : Waiter) → slice_get ws t.place ≡ Some w → slice_get ws (t.partner - 1) ≡ Some r → t.partner ≡ t.place + 1
          → slice_get ws t.place ≡ Some r
      other_at w r at other q = ap (slice_get ws) (let e : t.place ≡ t.partner - 1 = omega (arith, q) in e) ∙ other

      same_place : (w r : Waiter) → slice_get ws t.place ≡ Some w → slice_get ws t.place ≡ Some r → (r.who == w.who) ≡ false → ⊥
      same_place w r at other unlike =
          let same : r ≡ w = some_is (sym other ∙ at) in
          let is : (r.who == w.who) ≡ true = eq-eqb r.who w.who (ap (λ (v : Waiter). v.who) same) in
          true≢false (sym is ∙ unlike)

  by_place : (w : Option Waiter) → slice_get ws t.place ≡ w → t.offer < elim w [ Some w ↦ branches w.asked.ask | None ↦ 0 ]
      → elim w [
        | None ↦ None
        | Some w ↦ cond (t.partner == 0) (lone_event past w t.offer) (elim (slice_get ws (t.partner - 1)) [
          | None ↦ None
          | Some r ↦ meet_event w t.offer r (t.partner_offer - 1)
        ])
      ] ≡ Some e → HasSomeRows ws t e
  by_place None at less made = absurd (none-some e made)
  by_place (Some w) at less made = with_rows w (slice_get ws (t.partner - 1)) (t.partner == 0) less at refl refl made

  -- who takes part in a legal event that a choice makes has its row
  pub rows_of : t.offer < branches_at ws t.place → event_of past ws t ≡ Some e → HasSomeRows ws t e
  rows_of less made = by_place (slice_get ws t.place) refl less made
