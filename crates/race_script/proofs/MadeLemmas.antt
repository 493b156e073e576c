-- What was done in a step of a log, by its ask and its answer.
use Rattle.std.proofs.Common.{◌≡◌, ℕ, ◌==◌, cond, Bool, true, false, List, Option, Some, None, slice_get, option_map}
use Rattle.std.{proofs.Common.{◌⊎◌, ◌+◌, inl, inr, refl, sym, ap, ◌∙◌}, specs.Option.option_and_then}
use Rattle.race_records.specs.declared.event.Cause.{Cause, TheVariants.{SendClosed, CloseClosed, CloseNil, UnlockFree}}
use Rattle.race_records.specs.declared.event.{Cause.TheVariants.RUnlockFree, Op.{Op, TheVariants.{Go, Exit, Read}}}
use Rattle.race_records.specs.declared.event.Op.TheVariants.{Write, Send, Recv, Meet, RecvClosed, Close, Lock}
use Rattle.race_records.specs.declared.event.Op.TheVariants.{Unlock, RLock, RUnlock, TryLock, TryRLock, TryFail}
use Rattle.race_records.specs.declared.event.Op.TheVariants.{OnceBegin, OnceEnd, OnceDone, Fault}
use Rattle.race_requests.specs.{declared.request.{Answer.Answer, Ask.Ask, Offer.Offer}, Table.{done_by, IsRow, chosen}}
use Rattle.race_requests.specs.Table.{told_if, told_sender, told_receiver, told_closer, told_trier, told_rtrier}
use Rattle.race_requests.{specs.Table.{told_plain, told_by}, proofs.RowLemmas.{IsByOffer, IsByDefault, by_either}}
use Rattle.race_requests.proofs.RowLemmas.{by_first, wanted, wanted_two}
use Rattle.race_script.specs.{Certificate.after_event, Course.{made_by_offer, made_in, FailsBy}}

-- it fails by the cause of its run
failed : (fault : Option Cause) (op : Op) (cause : Cause) → FailsBy fault op → op ≡ Fault cause → option_map Fault fault ≡ Some op
failed fault op cause fails is = ap (option_map Fault) (fails cause is) ∙ ap Some (sym is)

module _ (fault : Option Cause) where
  -- the operation is the one that is made of the ask and what was told
  abbrev IsMade : Ask → Option Answer → Op → Type 0
  IsMade ask told op = made_in ask told fault ≡ Some op

  as_told : (ask : Ask) (told answer : Option Answer) (op : Op) → told ≡ answer → IsMade ask answer op → IsMade ask told op
  as_told ask told answer op same made = ap (λ t. made_in ask t fault) same ∙ made

  sender_made : (c : Option ℕ) (v : ℕ) (op : Op) (told : Option Answer) → told_sender c v op ≡ Some told → FailsBy fault op → IsMade (Ask.Send c v) told op
  sender_made (Some c) v (Send d w) told row fails =
      let p = wanted_two d c w v (Some Answer.Unit) told row in
      as_told (Ask.Send (Some c) v) told (Some Answer.Unit) (Send d w) p.2 (λ i. Some (Send (sym p.0 i) (sym p.1 i)))
  sender_made (Some c) v (Fault (SendClosed d)) told row fails =
      as_told (Ask.Send (Some c) v) told None (Fault (SendClosed d)) (wanted d c None told row).1 (failed fault _ (SendClosed d) fails refl)
  sender_made _ v _ told row fails = absurd cc

  receiver_made : (c : Option ℕ) (op : Op) (told : Option Answer) → told_receiver c op ≡ Some told → IsMade (Ask.Recv c) told op
  receiver_made (Some c) (Recv d v) told row =
      let p = wanted d c (Some (Answer.Value v)) told row in
      as_told (Ask.Recv (Some c)) told (Some (Answer.Value v)) (Recv d v) p.1 (ap (λ e. Some (Recv e v)) (sym p.0))
  receiver_made (Some c) (RecvClosed d) told row =
      let p = wanted d c (Some Answer.Closed) told row in
      as_told (Ask.Recv (Some c)) told (Some Answer.Closed) (RecvClosed d) p.1 (ap (λ e. Some (RecvClosed e)) (sym p.0))
  receiver_made _ _ told row = absurd cc

  closer_made : (c : Option ℕ) (op : Op) (told : Option Answer) → told_closer c op ≡ Some told → FailsBy fault op → IsMade (Ask.Close c) told op
  closer_made (Some c) (Close d) told row fails =
      let p = wanted d c (Some Answer.Unit) told row in
      as_told (Ask.Close (Some c)) told (Some Answer.Unit) (Close d) p.1 (ap (λ e. Some (Close e)) (sym p.0))
  closer_made (Some c) (Fault (CloseClosed d)) told row fails =
      as_told (Ask.Close (Some c)) told None (Fault (CloseClosed d)) (wanted d c None told row).1 (failed fault _ (CloseClosed d) fails refl)
  closer_made None (Fault CloseNil) told row fails =
      let same : told ≡ None = cc in as_told (Ask.Close None) told None (Fault CloseNil) same (failed fault (Fault CloseNil) CloseNil fails refl)
  closer_made _ _ told row fails = absurd cc

  trier_made : (l k : ℕ) (op : Op) (told : Option Answer) → told_trier l k op ≡ Some told → IsMade (Ask.TryLock l) told op
  trier_made l k (TryLock m) told row =
      let p = wanted_two k 0 m l (Some (Answer.Tried true)) told row in
      as_told (Ask.TryLock l) told (Some (Answer.Tried true)) (TryLock m) p.2 (ap (λ n. Some (TryLock n)) (sym p.1))
  trier_made l k (TryFail m) told row =
      let p = wanted_two k 1 m l (Some (Answer.Tried false)) told row in
      as_told (Ask.TryLock l) told (Some (Answer.Tried false)) (TryFail m) p.2 (ap (λ n. Some (TryFail n)) (sym p.1))
  trier_made l k _ told row = absurd cc

  rtrier_made : (l k : ℕ) (op : Op) (told : Option Answer) → told_rtrier l k op ≡ Some told → IsMade (Ask.TryRLock l) told op
  rtrier_made l k (TryRLock m) told row =
      let p = wanted_two k 0 m l (Some (Answer.Tried true)) told row in
      as_told (Ask.TryRLock l) told (Some (Answer.Tried true)) (TryRLock m) p.2 (ap (λ n. Some (TryRLock n)) (sym p.1))
  rtrier_made l k (TryFail m) told row =
      let p = wanted_two k 1 m l (Some (Answer.Tried false)) told row in
      as_told (Ask.TryRLock l) told (Some (Answer.Tried false)) (TryFail m) p.2 (ap (λ n. Some (TryFail n)) (sym p.1))
  rtrier_made l k _ told row = absurd cc

  -- what is made of an offer that a select went on by
  offer_made : (offers : List Offer) (has_default : Bool) (k : ℕ) (o : Offer) (op : Op) (plain : Option Answer) → slice_get offers k ≡ Some o
      → told_plain o op ≡ Some plain → FailsBy fault op → IsMade (Ask.Select offers has_default) (option_map (chosen k) plain) op
  offer_made offers has_default k (Offer.Send (Some c) v) (Send d w) plain there row fails =
      let p = wanted_two d c w v (Some Answer.Unit) plain row in
      as_told (Ask.Select offers has_default) _ (Some (Answer.Chosen k None)) (Send d w) (ap (option_map (chosen k)) p.2)
      (ap (option_and_then (λ o. made_by_offer o None)) there ∙ (λ i. Some (Send (sym p.0 i) (sym p.1 i))))
  offer_made offers has_default k (Offer.Send (Some c) v) (Fault (SendClosed d)) plain there row fails =
      as_told (Ask.Select offers has_default) _ None (Fault (SendClosed d)) (ap (option_map (chosen k)) (wanted d c None plain row).1)
      (failed fault _ (SendClosed d) fails refl)
  offer_made offers has_default k (Offer.Recv (Some c)) (Recv d v) plain there row fails =
      let p = wanted d c (Some (Answer.Value v)) plain row in
      as_told (Ask.Select offers has_default) _ (Some (Answer.Chosen k (Some v))) (Recv d v) (ap (option_map (chosen k)) p.1)
      (ap (option_and_then (λ o. made_by_offer o (Some v))) there ∙ ap (λ e. Some (Recv e v)) (sym p.0))
  offer_made offers has_default k (Offer.Recv (Some c)) (RecvClosed d) plain there row fails =
      let p = wanted d c (Some Answer.Closed) plain row in
      as_told (Ask.Select offers has_default) _ (Some (Answer.Chosen k None)) (RecvClosed d) (ap (option_map (chosen k)) p.1)
      (ap (option_and_then (λ o. made_by_offer o None)) there ∙ ap (λ e. Some (RecvClosed e)) (sym p.0))
  offer_made offers has_default k (Offer.Send _ v) _ plain there row fails = absurd cc
  offer_made offers has_default k (Offer.Recv _) _ plain there row fails = absurd cc

  selector_made : (offers : List Offer) (has_default : Bool) (k : ℕ) (op : Op) (told : Option Answer)
      → IsByOffer offers has_default k op told ⊎ IsByDefault offers has_default k op told → FailsBy fault op
      → IsMade (Ask.Select offers has_default) told op
  selector_made offers has_default k op told (inl is) fails =
      as_told (Ask.Select offers has_default) told _ op is.alone.told_is
      (offer_made offers has_default k is.offer op is.alone.plain is.there is.alone.row fails)
  selector_made offers has_default k op told (inr is) fails =
      as_told (Ask.Select offers has_default) told (Some Answer.DefaultTaken) op is.told_is (ap Some (sym is.did))

  -- the operation with its one number, by which the row is found
  on_made : (ask : Ask) (op_on : ℕ → Op) (m n : ℕ) (answer told : Option Answer) → told_if (m == n) answer ≡ Some told → IsMade ask answer (op_on n)
      → IsMade ask told (op_on m)
  on_made ask op_on m n answer told row made =
      let p = wanted m n answer told row in as_told ask told answer (op_on m) p.1 (made ∙ ap (λ x. Some (op_on x)) (sym p.0))

  first_made : (ask : Ask) (op : Op) (told : Option Answer) → told_by ask op ≡ Some told → FailsBy fault op → IsMade ask told op
  first_made (Ask.Go h) (Go g) told row fails = on_made (Ask.Go h) Go g h (Some Answer.Unit) told row refl
  first_made Ask.Exit Exit told row fails = let same : told ≡ None = cc in as_told Ask.Exit told None Exit same refl
  first_made (Ask.Read x) (Read y v) told row fails = on_made (Ask.Read x) (λ z. Read z v) y x (Some (Answer.Value v)) told row refl
  first_made (Ask.Write x v) (Write y w) told row fails =
      let p = wanted_two y x w v (Some Answer.Unit) told row in
      as_told (Ask.Write x v) told (Some Answer.Unit) (Write y w) p.2 (λ i. Some (Write (sym p.0 i) (sym p.1 i)))
  first_made (Ask.Send c v) op told row fails = sender_made c v op told row fails
  first_made (Ask.Recv c) op told row fails = receiver_made c op told row
  first_made (Ask.Close c) op told row fails = closer_made c op told row fails
  first_made (Ask.Lock l) (Lock m) told row fails = on_made (Ask.Lock l) Lock m l (Some Answer.Unit) told row refl
  first_made (Ask.Unlock l) (Unlock m) told row fails = on_made (Ask.Unlock l) Unlock m l (Some Answer.Unit) told row refl
  first_made (Ask.Unlock l) (Fault (UnlockFree m)) told row fails =
      as_told (Ask.Unlock l) told None (Fault (UnlockFree m)) (wanted m l None told row).1 (failed fault _ (UnlockFree m) fails refl)
  first_made (Ask.RLock l) (RLock m) told row fails = on_made (Ask.RLock l) RLock m l (Some Answer.Unit) told row refl
  first_made (Ask.RUnlock l) (RUnlock m) told row fails = on_made (Ask.RUnlock l) RUnlock m l (Some Answer.Unit) told row refl
  first_made (Ask.RUnlock l) (Fault (RUnlockFree m)) told row fails =
      as_told (Ask.RUnlock l) told None (Fault (RUnlockFree m)) (wanted m l None told row).1 (failed fault _ (RUnlockFree m) fails refl)
  first_made (Ask.Do o) (OnceBegin p) told row fails = on_made (Ask.Do o) OnceBegin p o (Some Answer.Run) told row refl
  first_made (Ask.Do o) (OnceDone p) told row fails = on_made (Ask.Do o) OnceDone p o (Some Answer.AlreadyDone) told row refl
  first_made (Ask.EndDo o) (OnceEnd p) told row fails = on_made (Ask.EndDo o) OnceEnd p o (Some Answer.Unit) told row refl
  first_made _ _ told row fails = absurd cc

-- the operation of a row is the one that was done in a step with its ask and its answer
pub row_made : (ask : Ask) (k : ℕ) (op : Op) (told : Option Answer) (fault : Option Cause) → IsRow ask k op told → FailsBy fault op
    → made_in ask told fault ≡ Some op
row_made (Ask.Select offers has_default) k op told fault row fails =
    selector_made fault offers has_default k op told (by_either offers has_default k op told row) fails
row_made (Ask.TryLock l) k op told fault row fails = trier_made fault l k op told row
row_made (Ask.TryRLock l) k op told fault row fails = rtrier_made fault l k op told row
row_made ask k op told fault row fails = first_made fault ask op told (by_first k (told_by ask op) told row).1 fails

-- who did what it did did it by itself
pub done_again : (g : ℕ) (op : Op) → done_by g (done_by g op) ≡ done_by g op
done_again g (Meet r c v) = by (r == g)
  where
    by : (b : Bool) → done_by g (cond b (Recv c v) (Send c v)) ≡ cond b (Recv c v) (Send c v)
    by true = refl
    by false = refl
done_again g _ = refl

-- and it goes as far along a body
pub after_done : (asks : List Ask) (p g : ℕ) (op : Op) → after_event asks p (done_by g op) ≡ after_event asks p op
after_done asks p g (Meet r c v) = by (r == g)
  where
    by : (b : Bool) → after_event asks p (cond b (Recv c v) (Send c v)) ≡ p + 1
    by true = refl
    by false = refl
after_done asks p g _ = refl

-- and fails by the same
pub fails_done : (fault : Option Cause) (g : ℕ) (op : Op) → FailsBy fault op → FailsBy fault (done_by g op)
fails_done fault g (Meet r c v) fails cause is = by (r == g) is
  where
    by : (b : Bool) → cond b (Recv c v) (Send c v) ≡ Fault cause → fault ≡ Some cause
    by true is = absurd cc
    by false is = absurd cc
fails_done fault g _ fails cause is = fails cause is
