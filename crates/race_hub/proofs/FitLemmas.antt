-- The event of sound requests fits the declarations.
use Rattle.std.proofs.Common.{◌≡◌, ◌==◌, ℕ, ◌-◌, ◌&&◌, nat_lt, Bool, true, false, cond, List, length, All, IsTrue}
use Rattle.std.proofs.Common.{Option, Some, None, refl, sym, ap, subst, slice_get, map, IfSome}
use Rattle.std.{proofs.lemmas.Option.none-some, specs.List.list_all}
use Rattle.race_records.specs.declared.event.{Event.Event, Op.{Op, TheVariants.{Send, Recv, Meet, RecvClosed, Close}}}
use Rattle.race_records.specs.declared.event.Op.TheVariants.{Default, Unlock, RUnlock, TryLock, TryRLock, TryFail}
use Rattle.race_records.specs.declared.event.{Op.TheVariants.{OnceBegin, OnceDone, Fault}, Cause.TheVariants.SendClosed}
use Rattle.race_records.specs.declared.{event.Cause.TheVariants.{CloseClosed, UnlockFree, RUnlockFree}, kind.Kind.Kind}
use Rattle.race_records.specs.{declared.version.Version.Version, Declarations.{DeclsState, counts_of}, Operands.says}
use Rattle.race_records.specs.{Operands.{is_in, has_two_places, op_is_in_range}, Events.{has_op, lock_fits}}
use Rattle.race_records.specs.Events.{second_place_fits, fits}
use Rattle.race_model.specs.State.{is_closed, front, is_held, is_read_held, is_begun}
use Rattle.race_requests.specs.declared.{choice.Choice.Choice, request.{Ask.Ask, Offer.Offer, Waiter.Waiter}}
use Rattle.race_requests.specs.{Possible.{ask_is_in_range, offer_is_in_range}, Waiting.is_declared, Offers.case_of}
use Rattle.race_requests.specs.{Table.offers_of, Choices.{lone_op, offer_at, op_of, lone_event, meet_event, event_of}}
use Rattle.race_requests.{specs.Sound.{is_sound, has_ask, lock_suits}, proofs.ChoiceLemmas.{some_is, all_at, meets_by}}
use Rattle.race_requests.proofs.{ChoiceLemmas.is_meet, OfferLemmas.{offers_in_range, offer_in_range, cases_in_range}}
use Rattle.race_requests.proofs.OfferLemmas.{sent_in_range}
use Rattle.race_hub.proofs.TableLemmas.{both_true}

-- what a sound request says
pub record IsSound (decls : DeclsState) (w : Waiter) : Type 0 where
  pub who : nat_lt w.who (counts_of decls.declarations Kind.Goroutine) ≡ true
  pub range : ask_is_in_range (counts_of decls.declarations) w.asked.ask ≡ true
  pub known : has_ask decls.version w.asked.ask ≡ true
  pub suits : lock_suits decls w.asked.ask ≡ true
  pub place : nat_lt w.asked.place (length decls.places) ≡ true

pub sound_is : (decls : DeclsState) (w : Waiter) → IsTrue (is_sound decls w) → IsSound decls w
sound_is decls w is =
    let all =
    both_true (is_declared decls.declarations w)
    (has_ask decls.version w.asked.ask && (lock_suits decls w.asked.ask && nat_lt w.asked.place (length decls.places))) is in
    let declared = both_true (nat_lt w.who (counts_of decls.declarations Kind.Goroutine)) (ask_is_in_range (counts_of decls.declarations) w.asked.ask) all.0 in
    let known = both_true (has_ask decls.version w.asked.ask) (lock_suits decls w.asked.ask && nat_lt w.asked.place (length decls.places)) all.1 in
    let rest = both_true (lock_suits decls w.asked.ask) (nat_lt w.asked.place (length decls.places)) known.1 in
    record { who = declared.0; range = declared.1; known = known.0; suits = rest.0; place = rest.1 }

-- the operation fits, and has one place
record OpFits (decls : DeclsState) (op : Op) : Type 0 where
  range : op_is_in_range (counts_of decls.declarations) op ≡ true
  known : has_op decls.version op ≡ true
  lock : lock_fits decls.declarations op ≡ true
  one_place : has_two_places (says op).0 ≡ false

-- what came with the first version is in each
in_first : (version : Version) → is_in version Version.One ≡ true
in_first Version.One = refl
in_first Version.Two = refl

and_true : (b : Bool) → b ≡ true → (b && true) ≡ true
and_true true is = refl
and_true false is = is

module _ (decls : DeclsState) where
  by_test : (b : Bool) (this that : Op) → OpFits decls this → OpFits decls that → OpFits decls (cond b this that)
  by_test true this that p q = p
  by_test false this that p q = q

  by_front : (c : ℕ) (waits : Option ℕ) → nat_lt c (counts_of decls.declarations Kind.Chan) ≡ true
      → OpFits decls (elim waits [ Some v ↦ Recv c v | None ↦ RecvClosed c ])
  by_front c (Some v) is = record { range = and_true _ is; known = in_first decls.version; lock = refl; one_place = refl }
  by_front c None is = record { range = and_true _ is; known = in_first decls.version; lock = refl; one_place = refl }

  by_offer : (past : List Event) (o : Option Offer) (op : Op) → IfSome o (λ o. IsTrue (offer_is_in_range (counts_of decls.declarations Kind.Chan) o))
      → elim o [ Some o ↦ lone_op past o | None ↦ None ] ≡ Some op → OpFits decls op
  by_offer past None op is made = absurd (none-some op made)
  by_offer past (Some (Offer.Send None v)) op is made = absurd (none-some op made)
  by_offer past (Some (Offer.Send (Some c) v)) op is made =
      subst (OpFits decls) (some_is made) (by_test (is_closed c past) (Fault (SendClosed c)) (Send c v)
      (record { range = and_true _ is; known = in_first decls.version; lock = refl; one_place = refl })
      (record { range = and_true _ is; known = in_first decls.version; lock = refl; one_place = refl }))
  by_offer past (Some (Offer.Recv None)) op is made = absurd (none-some op made)
  by_offer past (Some (Offer.Recv (Some c))) op is made = subst (OpFits decls) (some_is made) (by_front c (front c past) is)

  by_select : (past : List Event) (offers : List Offer) (k : ℕ) (by_default : Bool) (op : Op)
      → list_all (offer_is_in_range (counts_of decls.declarations Kind.Chan)) offers ≡ true
      → cond by_default (Some (Default (map case_of offers))) (offer_at offers k (lone_op past)) ≡ Some op → OpFits decls op
  by_select past offers k true op is made =
      subst (OpFits decls) (some_is made)
      (record { range = and_true _ (cases_in_range (counts_of decls.declarations Kind.Chan) offers is); known = in_first decls.version; lock = refl; one_place = refl })
  by_select past offers k false op is made = by_offer past (slice_get offers k) op (offer_in_range (counts_of decls.declarations Kind.Chan) offers k is) made

  -- what a request in range does alone fits
  lone_fits : (past : List Event) (ask : Ask) (k : ℕ) (op : Op) → ask_is_in_range (counts_of decls.declarations) ask ≡ true
      → has_ask decls.version ask ≡ true → lock_suits decls ask ≡ true → op_of past ask k ≡ Some op → OpFits decls op
  lone_fits past Ask.Exit k op is known suits made =
      subst (OpFits decls) (some_is made)
      (record { range = refl; known = in_first decls.version; lock = refl; one_place = refl })
  lone_fits past (Ask.Send None v) k op is known suits made = absurd (none-some op made)
  lone_fits past (Ask.Send (Some c) v) k op is known suits made =
      subst (OpFits decls) (some_is made) (by_test (is_closed c past) (Fault (SendClosed c)) (Send c v)
      (record { range = and_true _ is; known = in_first decls.version; lock = refl; one_place = refl })
      (record { range = and_true _ is; known = in_first decls.version; lock = refl; one_place = refl }))
  lone_fits past (Ask.Recv None) k op is known suits made = absurd (none-some op made)
  lone_fits past (Ask.Recv (Some c)) k op is known suits made = subst (OpFits decls) (some_is made) (by_front c (front c past) is)
  lone_fits past (Ask.Close None) k op is known suits made =
      subst (OpFits decls) (some_is made)
      (record { range = refl; known = in_first decls.version; lock = refl; one_place = refl })
  lone_fits past (Ask.Close (Some c)) k op is known suits made =
      subst (OpFits decls) (some_is made) (by_test (is_closed c past) (Fault (CloseClosed c)) (Close c)
      (record { range = and_true _ is; known = in_first decls.version; lock = refl; one_place = refl })
      (record { range = and_true _ is; known = in_first decls.version; lock = refl; one_place = refl }))
  lone_fits past (Ask.Select offers has_default) k op is known suits made =
      by_select past offers k (has_default && (k == length offers)) op (offers_in_range (counts_of decls.declarations) offers has_default is) made
  lone_fits past (Ask.Unlock l) k op is known suits made =
      subst (OpFits decls) (some_is made) (by_test (is_held l past) (Unlock l) (Fault (UnlockFree l))
      (record { range = and_true _ is; known = in_first decls.version; lock = refl; one_place = refl })
      (record { range = and_true _ is; known = in_first decls.version; lock = refl; one_place = refl }))
  lone_fits past (Ask.RLock l) k op is known suits made =
      subst (OpFits decls) (some_is made)
      (record { range = and_true _ is; known = in_first decls.version; lock = suits; one_place = refl })
  lone_fits past (Ask.RUnlock l) k op is known suits made =
      subst (OpFits decls) (some_is made) (by_test (is_read_held l past) (RUnlock l) (Fault (RUnlockFree l))
      (record { range = and_true _ is; known = in_first decls.version; lock = suits; one_place = refl })
      (record { range = and_true _ is; known = in_first decls.version; lock = suits; one_place = refl }))
  lone_fits past (Ask.TryLock l) k op is known suits made =
      subst (OpFits decls) (some_is made) (by_test (k == 0) (TryLock l) (TryFail l)
      (record { range = and_true _ is; known = known; lock = refl; one_place = refl })
      (record { range = and_true _ is; known = known; lock = refl; one_place = refl }))
  lone_fits past (Ask.TryRLock l) k op is known suits made =
      subst (OpFits decls) (some_is made) (by_test (k == 0) (TryRLock l) (TryFail l)
      (record { range = and_true _ is; known = known; lock = suits; one_place = refl })
      (record { range = and_true _ is; known = known; lock = refl; one_place = refl }))
  lone_fits past (Ask.Do o) k op is known suits made =
      subst (OpFits decls) (some_is made) (by_test (is_begun o past) (OnceDone o) (OnceBegin o)
      (record { range = and_true _ is; known = in_first decls.version; lock = refl; one_place = refl })
      (record { range = and_true _ is; known = in_first decls.version; lock = refl; one_place = refl }))
  lone_fits past _ k op is known suits made =
      subst (OpFits decls) (some_is made)
      (record { range = and_true _ is; known = in_first decls.version; lock = refl; one_place = refl })

  all_hold : (a b c d e f : Bool) → a ≡ true → b ≡ true → c ≡ true → d ≡ true → e ≡ true → f ≡ true → ((a && b && c && d) && (e && f)) ≡ true
  all_hold a b c d e f p q r s t u = rw (p, q, r, s, t, u) refl

  -- an event whose parts are in range fits
  event_fits : (who place : ℕ) (place2 : Option ℕ) (op : Op) → nat_lt who (counts_of decls.declarations Kind.Goroutine) ≡ true
      → op_is_in_range (counts_of decls.declarations) op ≡ true → nat_lt place (length decls.places) ≡ true
      → second_place_fits (length decls.places) (has_two_places (says op).0) place2 ≡ true
      → has_op decls.version op ≡ true → lock_fits decls.declarations op ≡ true → IsTrue (fits decls (record { who = who; op = op; place = place; place2 = place2 }))
  unfolding fits
  event_fits who place place2 op p q r s t u = all_hold _ _ _ _ _ _ p q r s t u

  made_fits : (w : Waiter) (place2 : Option ℕ) (o : Option Op) (e : Event)
      → elim o [ None ↦ None | Some op ↦ Some (record { who = w.who; op = op; place = w.asked.place; place2 = place2 }) ] ≡ Some e
      → ((op : Op) → o ≡ Some op → IsTrue (fits decls (record { who = w.who; op = op; place = w.asked.place; place2 = place2 })))
      → IsTrue (fits decls e)
  made_fits w place2 None e made each = absurd (none-some e made)
  made_fits w place2 (Some op) e made each = subst (λ e. IsTrue (fits decls e)) (some_is made) (each op refl)

  alone_fits : (past : List Event) (w : Waiter) (k : ℕ) (e : Event) → IsTrue (is_sound decls w) → lone_event past w k ≡ Some e → IsTrue (fits decls e)
  alone_fits past w k e is made =
      let sound = sound_is decls w is in
      made_fits w None (op_of past w.asked.ask k) e made (λ op did.
      let f = lone_fits past w.asked.ask k op sound.range sound.known sound.suits did in
      event_fits w.who w.asked.place None op sound.who f.range sound.place
      (ap (λ two. second_place_fits (length decls.places) two None) f.one_place) f.known f.lock)

  meeting_fits : (w r : Waiter) (k q : ℕ) (e : Event) → IsTrue (is_sound decls w) → IsTrue (is_sound decls r) → meet_event w k r q ≡ Some e
      → IsTrue (fits decls e)
  meeting_fits w r k q e is also made =
      let sound = sound_is decls w is in
      let other = sound_is decls r also in
      let x = slice_get (offers_of w.asked.ask) k in
      let y = slice_get (offers_of r.asked.ask) q in
      made_fits w (Some r.asked.place) (meets_by r.who x y) e made (λ op did.
      let met = is_meet r.who x y op did in
      let chan = sent_in_range (counts_of decls.declarations) w.asked.ask k met.chan met.value sound.range met.sends in
      subst (λ op. IsTrue (fits decls (record { who = w.who; op = op; place = w.asked.place; place2 = Some r.asked.place }))) (sym met.op_is)
      (event_fits w.who w.asked.place (Some r.asked.place) (Meet r.who met.chan met.value) sound.who
      (two_hold _ _ other.who chan) sound.place other.place (in_first decls.version) refl))
    where
      two_hold : (a b : Bool) → a ≡ true → b ≡ true → (a && (b && true)) ≡ true
      two_hold a b p q = rw (p, q) refl

module _ (decls : DeclsState) (past : List Event) (ws : List Waiter) (t : Choice) (e : Event) (all : All (λ w. IsTrue (is_sound decls w)) ws) where
  by_partner : (w : Waiter) (r : Option Waiter) (alone : Bool) → IsTrue (is_sound decls w) → slice_get ws (t.partner - 1) ≡ r
      → cond alone (lone_event past w t.offer) (elim r [ None ↦ None | Some r ↦ meet_event w t.offer r (t.partner_offer - 1) ]) ≡ Some e
      → IsTrue (fits decls e)
  by_partner w r true sound other made = alone_fits decls past w t.offer e sound made
  by_partner w None false sound other made = absurd (none-some e made)
  by_partner w (Some r) false sound other made =
      meeting_fits decls w r t.offer (t.partner_offer - 1) e sound (all_at (λ w. IsTrue (is_sound decls w)) ws (t.partner - 1) r all other) made

  by_place : (w : Option Waiter) → slice_get ws t.place ≡ w
      → elim w [
        | None ↦ None
        | Some w ↦ cond (t.partner == 0) (lone_event past w t.offer) (elim (slice_get ws (t.partner - 1)) [
          | None ↦ None
          | Some r ↦ meet_event w t.offer r (t.partner_offer - 1)
        ])
      ] ≡ Some e → IsTrue (fits decls e)
  by_place None at made = absurd (none-some e made)
  by_place (Some w) at made =
      by_partner w (slice_get ws (t.partner - 1)) (t.partner == 0) (all_at (λ w. IsTrue (is_sound decls w)) ws t.place w all at) refl made

  -- what sound requests make fits
  pub choice_fits : event_of past ws t ≡ Some e → IsTrue (fits decls e)
  choice_fits made = by_place (slice_get ws t.place) refl made
