-- What a listed choice is: what each who takes part in its event is told.
use Rattle.std.proofs.Common.{◌≡◌, ◌==◌, ℕ, zero, suc, ◌<◌, ◌≤◌, ◌+◌, ◌%◌, ◌++◌, ◌&&◌, Bool, true, false, cond, List}
use Rattle.std.proofs.Common.{[], ◌∷◌, map, filter, flat_map, length, option_map, All, Option, Some, None, IfSome}
use Rattle.std.proofs.Common.{is_none}
use Rattle.std.proofs.Common.{refl, sym, ap, ◌∙◌, subst, arith, slice_get, eqb-true, eq-eqb}
use Rattle.std.proofs.lemmas.{Bool.Decides.nat_tests, Option.{none-some, slice_get_within, get_or_from_slice_get}}
use Rattle.std.{proofs.lemmas.List.Elements.filter_passes, specs.List.range_with_len}
use Rattle.race_records.specs.declared.event.{Event.Event, Op.{Op, TheVariants.{Send, Recv, Meet, RecvClosed, Close}}}
use Rattle.race_records.specs.declared.event.Op.TheVariants.{Default, Unlock, RUnlock, TryLock, TryRLock, TryFail}
use Rattle.race_records.specs.declared.event.{Op.TheVariants.{OnceBegin, OnceDone, Fault}, Cause.TheVariants.SendClosed}
use Rattle.race_records.specs.declared.event.Cause.TheVariants.{CloseClosed, UnlockFree, RUnlockFree}
use Rattle.race_model.specs.{State.{is_closed, front, is_held, is_read_held, is_begun, last_value}, Legal.broken}
use Rattle.race_model.proofs.Indexes.{at_below}
use Rattle.race_requests.specs.declared.{choice.Choice.Choice, request.{Answer.Answer, Ask.Ask, Offer.Offer}}
use Rattle.race_requests.specs.{declared.request.Waiter.Waiter, Offers.{chan_of, case_of}, Table.{offers_of, done_by}}
use Rattle.race_requests.specs.{Table.{told_sender, told_receiver, chosen, told_plain, IsRow}, Choices.choice}
use Rattle.race_requests.specs.Choices.{lone_op, offer_at, op_of, meet_op, event_of, is_legal_next, is_choice, branches}
use Rattle.race_requests.specs.Choices.{below, with_partner, of_branch, tuples, branches_at, tuples_of, choices}
use Rattle.race_requests.proofs.RowLemmas.{told_same, told_both, told_same_two, at_offer, at_default}

pub some_is : {X : Type 0} {x y : X} → Some x ≡ Some y → x ≡ y
some_is is = cc

-- what is shown of a value, where there is one
if_some : {X : Type 0} {P : X → Type 0} (o : Option X) → ((x : X) → o ≡ Some x → P x) → IfSome o P
if_some (Some x) is = is x refl
if_some None is = tt

-- what holds of each element holds of the one at an index
pub all_at : {X : Type 0} (P : X → Type 0) (xs : List X) (i : ℕ) (x : X) → All P xs → slice_get xs i ≡ Some x → P x
all_at P xs i x all is = subst P (get_or_from_slice_get xs i x x is) (all i x (slice_get_within xs i x is))

-- the same by recursion, to be made piece by piece
abbrev Each : {X : Type 0} → (X → Type 0) → List X → Type 0
Each P [] = Unit {0}
Each P (x ∷ xs) = P x × Each P xs

each_append : {X : Type 0} (P : X → Type 0) (xs ys : List X) → Each P xs → Each P ys → Each P (xs ++ ys)
each_append P [] ys this that = that
each_append P (x ∷ xs) ys this that = (this.0, each_append P xs ys this.1 that)

each_at : {X : Type 0} (P : X → Type 0) (xs : List X) (i : ℕ) (x : X) → Each P xs → slice_get xs i ≡ Some x → P x
each_at P [] i x each is = absurd (none-some x is)
each_at P (y ∷ ys) zero x each is = subst P (some_is is) each.0
each_at P (y ∷ ys) (suc i) x each is = each_at P ys i x each.1 is

each_if : {X : Type 0} (P : X → Type 0) (x : X) (xs : List X) (b : Bool) → P x → Each P xs → Each P (cond b (x ∷ xs) xs)
each_if P x xs true one each = (one, each)
each_if P x xs false one each = each

each_filter : {X : Type 0} (P : X → Type 0) (p : X → Bool) (xs : List X) → Each P xs → Each P (filter p xs)
each_filter P p [] each = tt
each_filter P p (x ∷ xs) each = each_if P x (filter p xs) (p x) each.0 (each_filter P p xs each.1)

each_map : {X : Type 0} (P : X → Type 0) (f : ℕ → X) (xs : List ℕ) → ((i : ℕ) → P (f i)) → Each P (map f xs)
each_map P f [] each = tt
each_map P f (x ∷ xs) each = (each x, each_map P f xs each)

each_flat_map : {X : Type 0} (Q : ℕ → Type 0) (P : X → Type 0) (f : ℕ → List X) (xs : List ℕ) → Each Q xs → ((i : ℕ) → Q i → Each P (f i))
    → Each P (flat_map f xs)
each_flat_map Q P f [] all each = tt
each_flat_map Q P f (x ∷ xs) all each = each_append P (f x) (flat_map f xs) (each x all.0) (each_flat_map Q P f xs all.1 each)

each_below : (n a m : ℕ) → a + n ≤ m → Each (λ i. i < m) (range_with_len a n)
each_below zero a m le = tt
each_below (suc n) a m le = (omega (arith, le), each_below n (a + 1) m (omega (arith, le)))

each_of : {X : Type 0} (xs : List X) → Each (λ _. Unit {0}) xs
each_of [] = tt
each_of (x ∷ xs) = (tt, each_of xs)

-- each tuple has one of the branches
branches_of_tuples : (n : ℕ) (branches : ℕ → ℕ) → Each (λ t. t.offer < branches t.place) (tuples n branches)
branches_of_tuples n branches =
    each_flat_map (λ _. Unit {0}) (λ t. t.offer < branches t.place) (λ w. flat_map (of_branch n branches w) (below (branches w))) (below n) (each_of (below n))
    (λ w _. each_flat_map (λ k. k < branches w) (λ t. t.offer < branches t.place) (of_branch n branches w) (below (branches w))
    (each_below (branches w) 0 (branches w) (omega arith))
    (λ k less. (
      less,
      each_flat_map (λ _. Unit {0}) (λ t. t.offer < branches t.place) (with_partner branches w k) (below n) (each_of (below n))
          (λ r _. each_map (λ t. t.offer < branches t.place) (λ q. choice w k (r + 1) (q + 1)) (below (branches r)) (λ _. less)),
    )))

-- some answer stands in the row
pub record HasTold (ask : Ask) (k g : ℕ) (op : Op) : Type 0 where
  pub told : Option Answer
  pub row : IsRow ask k (done_by g op) told

-- so it does of an offer that is asked alone, and of a select by that offer
record HasOffered (o : Offer) (op : Op) : Type 0 where
  told : Option Answer
  row : told_plain o op ≡ Some told

chosen_told : (offers : List Offer) (has_default : Bool) (k g : ℕ) (o : Offer) (op : Op) → slice_get offers k ≡ Some o → HasOffered o (done_by g op)
    → HasTold (Ask.Select offers has_default) k g op
chosen_told offers has_default k g o op there has =
    record { told = option_map (chosen k) has.told; row = at_offer offers has_default k o (done_by g op) has.told there has.row }

offered_alone : (past : List Event) (g : ℕ) (o : Offer) (op : Op) → lone_op past o ≡ Some op → HasOffered o (done_by g op)
offered_alone past g (Offer.Send None v) op is = absurd (none-some op is)
offered_alone past g (Offer.Send (Some c) v) op is = subst (λ op. HasOffered (Offer.Send (Some c) v) (done_by g op)) (some_is is) (by (is_closed c past))
  where
    by : (closed : Bool) → HasOffered (Offer.Send (Some c) v) (done_by g (cond closed (Fault (SendClosed c)) (Send c v)))
    by true = record { told = None; row = told_same c None }
    by false = record { told = Some Answer.Unit; row = told_same_two c v (Some Answer.Unit) }
offered_alone past g (Offer.Recv None) op is = absurd (none-some op is)
offered_alone past g (Offer.Recv (Some c)) op is = subst (λ op. HasOffered (Offer.Recv (Some c)) (done_by g op)) (some_is is) (by (front c past))
  where
    by : (waits : Option ℕ) → HasOffered (Offer.Recv (Some c)) (done_by g (elim waits [ Some v ↦ Recv c v | None ↦ RecvClosed c ]))
    by (Some v) = record { told = Some (Answer.Value v); row = told_same c (Some (Answer.Value v)) }
    by None = record { told = Some Answer.Closed; row = told_same c (Some Answer.Closed) }

-- a select by its offer k, or by its default where it has one
select_told : (past : List Event) (g k : ℕ) (offers : List Offer) (has_default by_default : Bool) (op : Op)
    → (has_default && (k == length offers)) ≡ by_default
    → cond by_default (Some (Default (map case_of offers))) (offer_at offers k (lone_op past)) ≡ Some op → HasTold (Ask.Select offers has_default) k g op
select_told past g k offers has_default true op test is =
    subst (HasTold (Ask.Select offers has_default) k g) (some_is is) (record { told = Some Answer.DefaultTaken; row = at_default offers has_default k test })
select_told past g k offers has_default false op test is = by (slice_get offers k) refl is
  where
    by : (o : Option Offer) → slice_get offers k ≡ o → elim o [ Some o ↦ lone_op past o | None ↦ None ] ≡ Some op
        → HasTold (Ask.Select offers has_default) k g op
    by None there is = absurd (none-some op is)
    by (Some o) there is = chosen_told offers has_default k g o op there (offered_alone past g o op is)

-- of two branches the one that isn't the first
second_branch : (k : ℕ) → (k == 0) ≡ false → k < 2 → k ≡ 1
second_branch k later less = grind (arith, nat_tests)

module _ (past : List Event) (g k : ℕ) where
  tried_told : (l : ℕ) (first : Bool) → (k == 0) ≡ first → k < 2 → HasTold (Ask.TryLock l) k g (cond first (TryLock l) (TryFail l))
  tried_told l true first less =
      record { told = Some (Answer.Tried true); row = told_both (k == 0) (l == l) (Some (Answer.Tried true)) first (eq-eqb l l refl) }
  tried_told l false first less =
      record {
        told = Some (Answer.Tried false);
        row = told_both (k == 1) (l == l) (Some (Answer.Tried false)) (ap (λ n. n == 1) (second_branch k first less)) (eq-eqb l l refl);
      }

  rtried_told : (l : ℕ) (first : Bool) → (k == 0) ≡ first → k < 2 → HasTold (Ask.TryRLock l) k g (cond first (TryRLock l) (TryFail l))
  rtried_told l true first less =
      record { told = Some (Answer.Tried true); row = told_both (k == 0) (l == l) (Some (Answer.Tried true)) first (eq-eqb l l refl) }
  rtried_told l false first less =
      record {
        told = Some (Answer.Tried false);
        row = told_both (k == 1) (l == l) (Some (Answer.Tried false)) (ap (λ n. n == 1) (second_branch k first less)) (eq-eqb l l refl);
      }

-- what a request without another branch does alone has a row
module _ (past : List Event) (g : ℕ) where
  sent_told : (c v : ℕ) (closed : Bool) → HasTold (Ask.Send (Some c) v) 0 g (cond closed (Fault (SendClosed c)) (Send c v))
  sent_told c v true = record { told = None; row = told_same c None }
  sent_told c v false = record { told = Some Answer.Unit; row = told_same_two c v (Some Answer.Unit) }

  received_told : (c : ℕ) (waits : Option ℕ) → HasTold (Ask.Recv (Some c)) 0 g (elim waits [ Some v ↦ Recv c v | None ↦ RecvClosed c ])
  received_told c (Some v) = record { told = Some (Answer.Value v); row = told_same c (Some (Answer.Value v)) }
  received_told c None = record { told = Some Answer.Closed; row = told_same c (Some Answer.Closed) }

  closed_told : (c : ℕ) (closed : Bool) → HasTold (Ask.Close (Some c)) 0 g (cond closed (Fault (CloseClosed c)) (Close c))
  closed_told c true = record { told = None; row = told_same c None }
  closed_told c false = record { told = Some Answer.Unit; row = told_same c (Some Answer.Unit) }

  unlocked_told : (l : ℕ) (held : Bool) → HasTold (Ask.Unlock l) 0 g (cond held (Unlock l) (Fault (UnlockFree l)))
  unlocked_told l true = record { told = Some Answer.Unit; row = told_same l (Some Answer.Unit) }
  unlocked_told l false = record { told = None; row = told_same l None }

  runlocked_told : (l : ℕ) (held : Bool) → HasTold (Ask.RUnlock l) 0 g (cond held (RUnlock l) (Fault (RUnlockFree l)))
  runlocked_told l true = record { told = Some Answer.Unit; row = told_same l (Some Answer.Unit) }
  runlocked_told l false = record { told = None; row = told_same l None }

  did_told : (o : ℕ) (begun : Bool) → HasTold (Ask.Do o) 0 g (cond begun (OnceDone o) (OnceBegin o))
  did_told o true = record { told = Some Answer.AlreadyDone; row = told_same o (Some Answer.AlreadyDone) }
  did_told o false = record { told = Some Answer.Run; row = told_same o (Some Answer.Run) }

  first_told : (ask : Ask) → IfSome (op_of past ask 0) (HasTold ask 0 g)
  first_told (Ask.Go h) = record { told = Some Answer.Unit; row = told_same h (Some Answer.Unit) }
  first_told Ask.Exit = record { told = None; row = refl }
  first_told (Ask.Read x) = let value = Some (Answer.Value (last_value x past)) in record { told = value; row = told_same x value }
  first_told (Ask.Write x v) = record { told = Some Answer.Unit; row = told_same_two x v (Some Answer.Unit) }
  first_told (Ask.Send None v) = tt
  first_told (Ask.Send (Some c) v) = sent_told c v (is_closed c past)
  first_told (Ask.Recv None) = tt
  first_told (Ask.Recv (Some c)) = received_told c (front c past)
  first_told (Ask.Close None) = record { told = None; row = refl }
  first_told (Ask.Close (Some c)) = closed_told c (is_closed c past)
  first_told (Ask.Select offers has_default) =
      if_some (op_of past (Ask.Select offers has_default) 0) (λ op. select_told past g 0 offers has_default (has_default && (0 == length offers)) op refl)
  first_told (Ask.Lock l) = record { told = Some Answer.Unit; row = told_same l (Some Answer.Unit) }
  first_told (Ask.RLock l) = record { told = Some Answer.Unit; row = told_same l (Some Answer.Unit) }
  first_told (Ask.Unlock l) = unlocked_told l (is_held l past)
  first_told (Ask.RUnlock l) = runlocked_told l (is_read_held l past)
  first_told (Ask.TryLock l) = tried_told past g 0 l true refl (omega arith)
  first_told (Ask.TryRLock l) = rtried_told past g 0 l true refl (omega arith)
  first_told (Ask.Do o) = did_told o (is_begun o past)
  first_told (Ask.EndDo o) = record { told = Some Answer.Unit; row = told_same o (Some Answer.Unit) }

  branch_told : (ask : Ask) (k : ℕ) → k < branches ask → IfSome (op_of past ask k) (HasTold ask k g)
  branch_told ask zero less = first_told ask
  branch_told (Ask.Select offers has_default) k less =
      if_some (op_of past (Ask.Select offers has_default) k) (λ op. select_told past g k offers has_default (has_default && (k == length offers)) op refl)
  branch_told (Ask.TryLock l) k less = tried_told past g k l (k == 0) refl less
  branch_told (Ask.TryRLock l) k less = rtried_told past g k l (k == 0) refl less
  branch_told _ (suc k) less = absurd (omega arith)

  -- what a request does alone has a row
  pub lone_told : (k : ℕ) (ask : Ask) (op : Op) → k < branches ask → op_of past ask k ≡ Some op → HasTold ask k g op
  lone_told k ask op less is = subst (λ o. IfSome o (HasTold ask k g)) is (branch_told ask k less)

-- the operation of two offers, where there are both
abbrev pub meets_by : ℕ → Option Offer → Option Offer → Option Op
meets_by r x y = elim x [ Some a ↦ elim y [ Some b ↦ meet_op r a b | None ↦ None ] | None ↦ None ]

-- a Meet sends by the one offer and receives by the other
pub record IsMeet (r : ℕ) (x y : Option Offer) (op : Op) : Type 0 where
  pub chan : ℕ
  pub value : ℕ
  pub sends : x ≡ Some (Offer.Send (Some chan) value)
  pub receives : y ≡ Some (Offer.Recv (Some chan))
  pub op_is : op ≡ Meet r chan value

met_on : (r c d v : ℕ) (op : Op) (same : Bool) → (c == d) ≡ same → cond same (Some (Meet r c v)) None ≡ Some op
    → IsMeet r (Some (Offer.Send (Some c) v)) (Some (Offer.Recv (Some d))) op
met_on r c d v op false test is = absurd (none-some op is)
met_on r c d v op true test is =
    record { chan = c; value = v; sends = refl; receives = ap (λ e. Some (Offer.Recv (Some e))) (sym (eqb-true c d test)); op_is = sym (some_is is) }

met_by : (r : ℕ) (a b : Offer) (op : Op) → meet_op r a b ≡ Some op → IsMeet r (Some a) (Some b) op
met_by r (Offer.Send (Some c) v) (Offer.Recv (Some d)) op is = met_on r c d v op (c == d) refl is
met_by r _ _ op is = absurd (none-some op is)

pub is_meet : (r : ℕ) (x y : Option Offer) (op : Op) → meets_by r x y ≡ Some op → IsMeet r x y op
is_meet r (Some a) (Some b) op is = met_by r a b op is
is_meet r (Some a) None op is = absurd (none-some op is)
is_meet r None y op is = absurd (none-some op is)

-- who offers to send is told by its row that it did
pub record HasAnswer (ask : Ask) (k : ℕ) (op : Op) : Type 0 where
  pub answer : Answer
  pub row : IsRow ask k op (Some answer)

pub sender_has : (ask : Ask) (k c v : ℕ) → slice_get (offers_of ask) k ≡ Some (Offer.Send (Some c) v) → HasAnswer ask k (Send c v)
sender_has (Ask.Select offers has_default) k c v is =
    record {
      answer = Answer.Chosen k None;
      row = at_offer offers has_default k (Offer.Send (Some c) v) (Send c v) (Some Answer.Unit) is (told_same_two c v (Some Answer.Unit));
    }
sender_has (Ask.Send d u) zero c v is =
    let same : (d ≡ Some c) × (u ≡ v) = (ap chan_of (some_is is), ap value_of (some_is is)) in
    record { answer = Answer.Unit; row = (λ i. told_sender (same.0 i) (same.1 i) (Send c v)) ∙ told_same_two c v (Some Answer.Unit) }
  where
    value_of : Offer → ℕ
    value_of (Offer.Send c v) = v
    value_of (Offer.Recv c) = 0
sender_has (Ask.Recv d) zero c v is = absurd cc
sender_has _ k c v is = absurd (none-some _ is)

-- so is who offers to receive
pub receiver_has : (ask : Ask) (k c v : ℕ) → slice_get (offers_of ask) k ≡ Some (Offer.Recv (Some c)) → HasAnswer ask k (Recv c v)
receiver_has (Ask.Select offers has_default) k c v is =
    record {
      answer = Answer.Chosen k (Some v);
      row = at_offer offers has_default k (Offer.Recv (Some c)) (Recv c v) (Some (Answer.Value v)) is (told_same c (Some (Answer.Value v)));
    }
receiver_has (Ask.Recv d) zero c v is =
    record {
      answer = Answer.Value v;
      row = ap (λ e. told_receiver e (Recv c v)) (ap chan_of (some_is is)) ∙ told_same c (Some (Answer.Value v));
    }
receiver_has (Ask.Send d u) zero c v is = absurd cc
receiver_has _ k c v is = absurd (none-some _ is)

-- a possible tuple makes an event, which is legal
pub record IsPossible (caps : ℕ → ℕ) (past : List Event) (ws : List Waiter) (t : Choice) : Type 0 where
  pub e : Event
  pub makes : event_of past ws t ≡ Some e
  pub legal : broken caps past e ≡ None
  pub branch : t.offer < branches_at ws t.place

possible_by : (caps : ℕ → ℕ) (past : List Event) (ws : List Waiter) (t : Choice) (made : Option Event) → event_of past ws t ≡ made
    → is_legal_next caps past made ≡ true → t.offer < branches_at ws t.place → IsPossible caps past ws t
possible_by caps past ws t None is legal branch = absurd cc
possible_by caps past ws t (Some e) is legal branch = record { e = e; makes = is; legal = none_is (broken caps past e) legal; branch = branch }
  where
    none_is : (o : Option ℕ) → is_none o ≡ true → o ≡ None
    none_is None is = refl
    none_is (Some n) is = absurd cc

-- so does each choice that is listed
pub listed_is_possible : (caps : ℕ → ℕ) (past : List Event) (ws : List Waiter) (i : ℕ) (t : Choice) → slice_get (choices caps past ws) i ≡ Some t
    → IsPossible caps past ws t
listed_is_possible caps past ws i t is =
    possible_by caps past ws t (event_of past ws t) refl
    (first _ _ (all_at (λ t. is_choice caps past ws t ≡ true) (choices caps past ws) i t (filter_passes (is_choice caps past ws) (tuples_of ws)) is))
    (each_at (λ t. t.offer < branches_at ws t.place) (choices caps past ws) i t
    (each_filter (λ t. t.offer < branches_at ws t.place) (is_choice caps past ws) (tuples_of ws) (branches_of_tuples (length ws) (branches_at ws))) is)
  where
    first : (a b : Bool) → (a && b) ≡ true → a ≡ true
    first true b is = refl
    first false b is = absurd cc

-- from an empty list alone nothing is picked
pub none_picked : {X : Type 0} (xs : List X) (pick : ℕ) → None ≡ slice_get xs (pick % length xs) → xs ≡ []
none_picked [] pick is = refl
none_picked (x ∷ xs) pick is =
    let there = at_below (x ∷ xs) (pick % length (x ∷ xs)) (let less : pick % length (x ∷ xs) < length (x ∷ xs) = omega arith in less) in
    absurd (none-some there.0 (is ∙ there.1))
