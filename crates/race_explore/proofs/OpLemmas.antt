-- What a request makes alone is the same after events that answer it the same.
use Rattle.std.proofs.Common.{ℕ, ◌≡◌, ◌==◌, ◌-◌, ◌<◌, ◌++◌, ◌&&◌, ◌||◌, Bool, true, false, cond, List, [], ◌∷◌, length, map, Option, Some, None}
use Rattle.std.proofs.Common.{refl, sym, ap, ◌∙◌, subst, arith, slice_get, append_assoc, suc, true≢false}
use Rattle.std.proofs.lemmas.Option.{same_Some}
use Rattle.race_records.specs.declared.event.{Event.Event, Cause.TheVariants.{SendClosed, CloseClosed, UnlockFree, RUnlockFree}, Op.Op}
use Rattle.race_records.specs.declared.event.Op.TheVariants.{Read, Send, Recv, RecvClosed, Close, Default, Unlock, RUnlock, OnceBegin, OnceDone, Fault}
use Rattle.race_model.specs.{Events.{is_fault}, State.{last_value, is_closed, front, is_held, is_read_held, is_begun}}
use Rattle.race_exchange.specs.{Independent.{thing_of, stays, is_default, are_independent}, Says.{SaysTheSame, AnswersTheSame}}
use Rattle.race_exchange.proofs.{Apart.{Apart, apart}, ExchangedSays.exchanged_says_the_same}
use Rattle.race_requests.specs.declared.request.{Ask.Ask, Offer.Offer}
use Rattle.race_requests.specs.{Choices.{lone_op, offer_at, op_of}, Offers.case_of}
use Rattle.race_hub.specs.Hub.{last_event, is_last, is_main_exit}
use Rattle.race_explore.proofs.AlikeLemmas.{SayTheSame, GoOnTheSame}

module _ (e : Event) (one other : List Event) (same : AnswersTheSame e one other) (no_fault : is_fault e.op ≡ false) where
  -- e's operation after some events
  abbrev IsMade : (List Event → Option Op) → Type 0
  IsMade make = (past : List Event) × (make past ≡ Some e.op)

  -- where a test would make it a fault, the test fails
  sent_on : (c v : ℕ) (closed : Bool) → Some (cond closed (Fault (SendClosed c)) (Send c v)) ≡ Some e.op → thing_of e.op ≡ thing_of (Close c)
  sent_on c v true is = absurd (true≢false (ap is_fault (same_Some (Fault (SendClosed c)) e.op is) ∙ no_fault))
  sent_on c v false is = ap thing_of (sym (same_Some (Send c v) e.op is))

  received_on : (c : ℕ) (first : Option ℕ) → Some (elim first [ Some v ↦ Recv c v | None ↦ RecvClosed c ]) ≡ Some e.op → thing_of e.op ≡ thing_of (Close c)
  received_on c (Some v) is = ap thing_of (sym (same_Some (Recv c v) e.op is))
  received_on c None is = ap thing_of (sym (same_Some (RecvClosed c) e.op is))

  closed_on : (c : ℕ) (closed : Bool) → Some (cond closed (Fault (CloseClosed c)) (Close c)) ≡ Some e.op → thing_of e.op ≡ thing_of (Close c)
  closed_on c true is = absurd (true≢false (ap is_fault (same_Some (Fault (CloseClosed c)) e.op is) ∙ no_fault))
  closed_on c false is = ap thing_of (sym (same_Some (Close c) e.op is))

  unlocked_on : (l : ℕ) (held : Bool) → Some (cond held (Unlock l) (Fault (UnlockFree l))) ≡ Some e.op → thing_of e.op ≡ thing_of (Unlock l)
  unlocked_on l true is = ap thing_of (sym (same_Some (Unlock l) e.op is))
  unlocked_on l false is = absurd (true≢false (ap is_fault (same_Some (Fault (UnlockFree l)) e.op is) ∙ no_fault))

  runlocked_on : (l : ℕ) (held : Bool) → Some (cond held (RUnlock l) (Fault (RUnlockFree l))) ≡ Some e.op → thing_of e.op ≡ thing_of (Unlock l)
  runlocked_on l true is = ap thing_of (sym (same_Some (RUnlock l) e.op is))
  runlocked_on l false is = absurd (true≢false (ap is_fault (same_Some (Fault (RUnlockFree l)) e.op is) ∙ no_fault))

  done_on : (o : ℕ) (begun : Bool) → Some (cond begun (OnceDone o) (OnceBegin o)) ≡ Some e.op → thing_of e.op ≡ thing_of (OnceDone o)
  done_on o true is = ap thing_of (sym (same_Some (OnceDone o) e.op is))
  done_on o false is = ap thing_of (sym (same_Some (OnceBegin o) e.op is))

  lone_same : (o : Offer) → IsMade (λ past. lone_op past o) → lone_op one o ≡ lone_op other o
  lone_same (Offer.Send None v) made = refl
  lone_same (Offer.Send (Some c) v) (past, is) =
      ap (λ b. Some (cond b (Fault (SendClosed c)) (Send c v))) (same.is_closed c (sent_on c v (is_closed c past) is))
  lone_same (Offer.Recv None) made = refl
  lone_same (Offer.Recv (Some c)) (past, is) =
      ap (λ (first : Option ℕ). Some (elim first [ Some v ↦ Recv c v | None ↦ RecvClosed c ])) (same.front c (received_on c (front c past) is))

  select_same : (offers : List Offer) (k : ℕ) (by_default : Bool)
      → IsMade (λ past. cond by_default (Some (Default (map case_of offers))) (offer_at offers k (lone_op past)))
      → cond by_default (Some (Default (map case_of offers))) (offer_at offers k (lone_op one))
      ≡ cond by_default (Some (Default (map case_of offers))) (offer_at offers k (lone_op other))
  select_same offers k true made = refl
  select_same offers k false made = by (slice_get offers k) made
    where
      by : (x : Option Offer) → IsMade (λ past. elim x [ Some o ↦ lone_op past o | None ↦ None ])
          → ◌≡◌ {A = Option Op} (elim x [ Some o ↦ lone_op one o | None ↦ None ]) (elim x [ Some o ↦ lone_op other o | None ↦ None ])
      by None made = refl
      by (Some o) made = lone_same o made

  pub op_same : (ask : Ask) (k : ℕ) → IsMade (λ past. op_of past ask k) → op_of one ask k ≡ op_of other ask k
  op_same (Ask.Read x) k (past, is) =
      ap (λ v. Some (Read x v)) (same.last_value x (ap thing_of (sym (same_Some (Read x (last_value x past)) e.op is))))
  op_same (Ask.Send c v) k made = lone_same (Offer.Send c v) made
  op_same (Ask.Recv c) k made = lone_same (Offer.Recv c) made
  op_same (Ask.Close None) k made = refl
  op_same (Ask.Close (Some c)) k (past, is) =
      ap (λ b. Some (cond b (Fault (CloseClosed c)) (Close c))) (same.is_closed c (closed_on c (is_closed c past) is))
  op_same (Ask.Select offers has_default) k made = select_same offers k (has_default && (k == length offers)) made
  op_same (Ask.Unlock l) k (past, is) = ap (λ b. Some (cond b (Unlock l) (Fault (UnlockFree l)))) (same.is_held l (unlocked_on l (is_held l past) is))
  op_same (Ask.RUnlock l) k (past, is) =
      ap (λ b. Some (cond b (RUnlock l) (Fault (RUnlockFree l)))) (same.is_read_held l (runlocked_on l (is_read_held l past) is))
  op_same (Ask.Do o) k (past, is) = ap (λ b. Some (cond b (OnceDone o) (OnceBegin o))) (same.is_begun o (done_on o (is_begun o past) is))
  op_same _ k made = refl

module _ (one other : List Event) (says : SaysTheSame one other) where
  lone_says : (o : Offer) → lone_op one o ≡ lone_op other o
  lone_says (Offer.Send None v) = refl
  lone_says (Offer.Send (Some c) v) = ap (λ b. Some (cond b (Fault (SendClosed c)) (Send c v))) (says.is_closed c)
  lone_says (Offer.Recv None) = refl
  lone_says (Offer.Recv (Some c)) = ap (λ (first : Option ℕ). Some (elim first [ Some v ↦ Recv c v | None ↦ RecvClosed c ])) (says.front c)

  select_says : (offers : List Offer) (k : ℕ) → offer_at offers k (lone_op one) ≡ offer_at offers k (lone_op other)
  select_says offers k = by (slice_get offers k)
    where
      by : (x : Option Offer) → ◌≡◌ {A = Option Op} (elim x [ Some o ↦ lone_op one o | None ↦ None ]) (elim x [ Some o ↦ lone_op other o | None ↦ None ])
      by None = refl
      by (Some o) = lone_says o

  pub op_says : (ask : Ask) (k : ℕ) → op_of one ask k ≡ op_of other ask k
  op_says (Ask.Read x) k = ap (λ v. Some (Read x v)) (says.last_value x)
  op_says (Ask.Send c v) k = lone_says (Offer.Send c v)
  op_says (Ask.Recv c) k = lone_says (Offer.Recv c)
  op_says (Ask.Close None) k = refl
  op_says (Ask.Close (Some c)) k = ap (λ b. Some (cond b (Fault (CloseClosed c)) (Close c))) (says.is_closed c)
  op_says (Ask.Select offers has_default) k =
      ap (λ o. cond (has_default && (k == length offers)) (Some (Default (map case_of offers))) o) (select_says offers k)
  op_says (Ask.Unlock l) k = ap (λ b. Some (cond b (Unlock l) (Fault (UnlockFree l)))) (says.is_held l)
  op_says (Ask.RUnlock l) k = ap (λ b. Some (cond b (RUnlock l) (Fault (RUnlockFree l)))) (says.is_read_held l)
  op_says (Ask.Do o) k = ap (λ b. Some (cond b (OnceDone o) (OnceBegin o))) (says.is_begun o)
  op_says _ k = refl

-- The last event.

last_behind : (xs : List Event) (y : Event) (ys : List Event) → last_event (xs ++ y ∷ ys) ≡ last_event (y ∷ ys)
last_behind [] y ys = refl
last_behind (x ∷ xs) y ys =
    ap (slice_get (x ∷ (xs ++ y ∷ ys))) (let e : suc (length (xs ++ y ∷ ys)) - 1 ≡ suc (length (xs ++ y ∷ ys) - 1) = (let some = one_at_least xs in omega (arith, some)) in e)
    ∙ last_behind xs y ys
  where
    one_at_least : (zs : List Event) → 0 < length (zs ++ y ∷ ys)
    one_at_least [] = omega arith
    one_at_least (z ∷ zs) = omega arith

-- what stands behind the two and one event more is the last of both lists
pub last_exchanged : (before : List Event) (a b next : Event) (after : List Event)
    → last_event (before ++ a ∷ b ∷ next ∷ after) ≡ last_event (before ++ b ∷ a ∷ next ∷ after)
last_exchanged before a b next after =
    last_behind before a (b ∷ next ∷ after) ∙ last_behind (a ∷ b ∷ []) next after
    ∙ sym (last_behind before b (a ∷ next ∷ after) ∙ last_behind (b ∷ a ∷ []) next after)

is_last_exchanged : (p : Event → Bool) (before : List Event) (a b : Event) (rest : List Event) → p a ≡ false → p b ≡ false
    → is_last p (before ++ a ∷ b ∷ rest) ≡ is_last p (before ++ b ∷ a ∷ rest)
is_last_exchanged p before a b [] a_fails b_fails =
    ap (λ (o : Option Event). elim o [ None ↦ false | Some e ↦ p e ]) (last_behind before a (b ∷ [])) ∙ b_fails
    ∙ sym (ap (λ (o : Option Event). elim o [ None ↦ false | Some e ↦ p e ]) (last_behind before b (a ∷ [])) ∙ a_fails)
is_last_exchanged p before a b (next ∷ after) a_fails b_fails =
    ap (λ (o : Option Event). elim o [ None ↦ false | Some e ↦ p e ]) (last_exchanged before a b next after)

-- an event that moves is neither main's exit nor a fault
pub no_end : (e : Event) → stays e ≡ false → (is_main_exit e ≡ false) × (is_fault e.op ≡ false) × (is_default e.op ≡ false)
no_end e moves = by (is_default e.op) (is_fault e.op) (is_main_exit e) moves
  where
    by : (d f m : Bool) → (d || (f || m)) ≡ false → (m ≡ false) × (f ≡ false) × (d ≡ false)
    by true f m is = absurd (true≢false is)
    by false true m is = absurd (true≢false is)
    by false false m is = (is, refl, refl)

-- the last event is this one
pub last_is : (p : Event → Bool) (past : List Event) (e : Event) → is_last p (past ++ e ∷ []) ≡ p e
last_is p past e = ap (λ (o : Option Event). elim o [ None ↦ false | Some e ↦ p e ]) (last_behind past e [])

-- lists in which two independent events have changed places go on the same
pub exchanged_go_on : (before : List Event) (a b : Event) → are_independent a b ≡ true
    → GoOnTheSame ((before ++ a ∷ []) ++ b ∷ []) ((before ++ b ∷ []) ++ a ∷ [])
exchanged_go_on before a b is rest =
    subst (λ es. SayTheSame es (((before ++ b ∷ []) ++ a ∷ []) ++ rest)) (sym (joined a b))
    (subst (λ es. SayTheSame (before ++ a ∷ b ∷ rest) es) (sym (joined b a)) say)
  where
    joined : (a b : Event) → ((before ++ a ∷ []) ++ b ∷ []) ++ rest ≡ before ++ a ∷ b ∷ rest
    joined a b = append_assoc (before ++ a ∷ []) (b ∷ []) rest ∙ append_assoc before (a ∷ []) (b ∷ rest)

    both : Apart a b
    both = apart a b is

    say : SayTheSame (before ++ a ∷ b ∷ rest) (before ++ b ∷ a ∷ rest)
    say =
        let says = exchanged_says_the_same before a b rest is in
        let a_end = no_end a both.a_moves in
        let b_end = no_end b both.b_moves in
        record {
          broken = says.broken;
          does = op_says (before ++ a ∷ b ∷ rest) (before ++ b ∷ a ∷ rest) says;
          started = says.started;
          innermost = says.innermost;
          length = says.length;
          main_exit = is_last_exchanged is_main_exit before a b rest a_end.0 b_end.0;
          fault = is_last_exchanged (λ e. is_fault e.op) before a b rest a_end.1 b_end.1;
        }
