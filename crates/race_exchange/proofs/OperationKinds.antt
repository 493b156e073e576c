-- Which thing an operation of a kind is on, and who takes part in it.
use Rattle.std.proofs.Common.{◌≡◌, ◌⊎◌, ℕ, if◌then◌else◌, ◌==◌, ◌&&◌, not, Bool, true, false, Some, None, refl, ap, inl, inr}
use Rattle.std.proofs.{Common.{eqb-true, List}, lemmas.Bool.{or_parts, false_from_ne_true}}
use Rattle.race_records.specs.declared.event.{Event.Event, Op.{Op, TheVariants.{Go, Write, Send, Recv}}}
use Rattle.race_records.specs.declared.event.Op.TheVariants.{Close, Lock, Unlock, RLock, RUnlock, TryLock, TryRLock}
use Rattle.race_records.specs.declared.event.Op.TheVariants.{OnceBegin, OnceEnd}
use Rattle.race_model.specs.Events.{partner, gives, takes_part, starts, writes, sends, receives, closes, locks, unlocks, rlocks}
use Rattle.race_model.specs.{Events.{runlocks, once_begins, once_ends}, State.{written, sent, is_ended, unended_once}}
use Rattle.race_exchange.specs.Independent.{Thing, OfVariable, OfChannel, OfLock, OfOnce, thing_of, collide}
use Rattle.race_exchange.proofs.Apart.{is_read, both_read}

-- the operation is on this thing, and is no read
abbrev pub Changes : Op → Thing → Type 0
Changes o t = (thing_of o ≡ Some t) × (is_read o ≡ false)

on : (name : ℕ → Thing) (m n : ℕ) → (m == n) ≡ true → Some (name m) ≡ Some (name n)
on name m n is = ap (λ n. Some (name n)) (eqb-true m n is)

pub writes_on : (x : ℕ) (o : Op) → writes x o ≡ true → Changes o (OfVariable x)
writes_on x (Write y v) is = (on OfVariable y x is, refl)
writes_on x _ is = cc

pub closes_on : (c : ℕ) (o : Op) → closes c o ≡ true → Changes o (OfChannel c)
closes_on c (Close d) is = (on OfChannel d c is, refl)
closes_on c _ is = cc

pub sends_on : (c : ℕ) (o : Op) → sends c o ≡ true → Changes o (OfChannel c)
sends_on c (Send d v) is = (on OfChannel d c is, refl)
sends_on c _ is = cc

pub receives_on : (c : ℕ) (o : Op) → receives c o ≡ true → Changes o (OfChannel c)
receives_on c (Recv d v) is = (on OfChannel d c is, refl)
receives_on c _ is = cc

pub locks_on : (l : ℕ) (o : Op) → locks l o ≡ true → Changes o (OfLock l)
locks_on l (Lock m) is = (on OfLock m l is, refl)
locks_on l (TryLock m) is = (on OfLock m l is, refl)
locks_on l _ is = cc

pub unlocks_on : (l : ℕ) (o : Op) → unlocks l o ≡ true → Changes o (OfLock l)
unlocks_on l (Unlock m) is = (on OfLock m l is, refl)
unlocks_on l _ is = cc

pub rlocks_on : (l : ℕ) (o : Op) → rlocks l o ≡ true → Changes o (OfLock l)
rlocks_on l (RLock m) is = (on OfLock m l is, refl)
rlocks_on l (TryRLock m) is = (on OfLock m l is, refl)
rlocks_on l _ is = cc

pub runlocks_on : (l : ℕ) (o : Op) → runlocks l o ≡ true → Changes o (OfLock l)
runlocks_on l (RUnlock m) is = (on OfLock m l is, refl)
runlocks_on l _ is = cc

pub begins_on : (o : ℕ) (op : Op) → once_begins o op ≡ true → Changes op (OfOnce o)
begins_on o (OnceBegin p) is = (on OfOnce p o is, refl)
begins_on o _ is = cc

pub ends_on : (o : ℕ) (op : Op) → once_ends o op ≡ true → Changes op (OfOnce o)
ends_on o (OnceEnd p) is = (on OfOnce p o is, refl)
ends_on o _ is = cc

-- what doesn't collide with an operation on a thing is of no kind that changes the thing
pub unchanged : (o p : Op) (t : Thing) (kind : Bool) → collide o p ≡ false → thing_of p ≡ Some t → (kind ≡ true → Changes o t) → kind ≡ false
unchanged o p t kind free on_p changes = false_from_ne_true kind (λ is. both_read o p t free (changes is).0 on_p (changes is).1)

-- of two operations that don't collide one at most is of a kind that changes a thing
pub one_at_most : (o p : Op) (t : Thing) (kind : Op → Bool) → collide o p ≡ false → ((q : Op) → kind q ≡ true → Changes q t)
    → (kind o ≡ false) ⊎ (kind p ≡ false)
one_at_most o p t kind free changes = by (kind p) refl
  where
    by : (b : Bool) → kind p ≡ b → (kind o ≡ false) ⊎ (kind p ≡ false)
    by false is = inr is
    by true is = inl (unchanged o p t (kind o) free (changes p is).0 (changes o))

-- what doesn't write x gives x no value, and what doesn't send on c gives c none
pub written_none : (x : ℕ) (o : Op) → writes x o ≡ false → written x o ≡ None
written_none x (Write y v) is = ap (λ b. if b then Some v else None) is
written_none x _ is = refl

pub sent_none : (c : ℕ) (o : Op) → sends c o ≡ false → sent c o ≡ None
sent_none c (Send d v) is = ap (λ b. if b then Some v else None) is
sent_none c _ is = refl

-- who is another goroutine begins no once of g
pub unended_none : (g : ℕ) (past : List Event) (who : ℕ) (o : Op) → (who == g) ≡ false → unended_once g past who o ≡ None
unended_none g past who (OnceBegin p) is = ap (λ b. if b && not (is_ended p past) then Some p else None) is
unended_none g past who _ is = refl

-- an event in which g takes no part is another's, and doesn't start g
pub not_by : (g : ℕ) (e : Event) → takes_part g e ≡ false → (e.who == g) ≡ false
not_by g e is = (or_parts (e.who == g) (gives (partner e.op) g) is).0

starts_gives : (g : ℕ) (o : Op) → gives (partner o) g ≡ false → starts g o ≡ false
starts_gives g (Go h) is = is
starts_gives g _ is = refl

pub not_started : (g : ℕ) (e : Event) → takes_part g e ≡ false → starts g e.op ≡ false
not_started g e is = starts_gives g e.op (or_parts (e.who == g) (gives (partner e.op) g) is).1
