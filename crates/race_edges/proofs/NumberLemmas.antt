-- The numbers of two events tell whether one is a source of the other.
use Rattle.std.proofs.Common.{◌≡◌, ◌∙◌, ℕ, ◌+◌, ◌<◌, ◌==◌, ◌&&◌, ◌||◌, Bool, true, List, take, slice_get, Some, None}
use Rattle.std.proofs.{Common.{IsTrue, sym, ap, arith, eqb-true}, lemmas.{Bool.Decides.nat_tests, List.take-take}}
use Rattle.std.{proofs.lemmas.Option.slice_get_within, specs.List.slice_index_or}
use Rattle.race_records.specs.declared.event.{Event.Event, Op.{Op, TheVariants.{Send, Recv, Unlock, RUnlock}}}
use Rattle.race_records.specs.{declared.kind.Kind.Kind, Operands.op_is_in_range}
use Rattle.race_model.specs.{Events.{At, sends, receives, locks, unlocks, runlocks, count}, Synchronized.is_source}
use Rattle.race_edges.specs.{Numbers.{counts, AreNumbers}, Synchronized.{source_at, is_before_lock, is_last_unlock}}
use Rattle.race_edges.proofs.SynchronizedLemmas.{source_at_is}

-- the channel of a send is in range
pub chan_in_range : (kinds : Kind → ℕ) (c v : ℕ) → IsTrue (op_is_in_range kinds (Send c v)) → c < kinds Kind.Chan
chan_in_range kinds c v is = grind (arith, nat_tests)

-- a receive has its number among the receives from its channel
receive_counts : (c : ℕ) (o : Op) → receives c o ≡ true → counts o ≡ receives c
receive_counts c (Recv d v) is = ap receives (eqb-true d c is)
receive_counts c _ is = cc

-- an unlock has its number among the unlocks of its lock
unlock_counts : (l : ℕ) (o : Op) → unlocks l o ≡ true → counts o ≡ unlocks l
unlock_counts l (Unlock m) is = ap unlocks (eqb-true m l is)
unlock_counts l _ is = cc

-- a runlock has its number among the locks of its lock
runlock_counts : (l : ℕ) (o : Op) → runlocks l o ≡ true → counts o ≡ locks l
runlock_counts l (RUnlock m) is = ap locks (eqb-true m l is)
runlock_counts l _ is = cc

-- the number of the event at an index
number_is : (events : List Event) (numbers : List ℕ) → AreNumbers events numbers → (i : ℕ) (e : Event) → At events i e
    → slice_index_or numbers i 0 ≡ count (counts e.op) (take i events)
number_is events numbers are i e at = are.each i (slice_get_within events i e at)
    ∙ ap (λ o. elim o [ Some e ↦ count (counts e.op) (take i events) | None ↦ 0 ]) at

-- a test says the same of the same numbers, where it comes to them
agree : (u r : Bool) (n m k l : ℕ) → (r ≡ true → n ≡ k) → m ≡ l → (u || (r && (n == m))) ≡ (u || (r && (k == l)))
agree u r n m k l first second = grind (arith, nat_tests)

agree_next : (u : Bool) (n m k l : ℕ) → (u ≡ true → n ≡ k) → m ≡ l → (u && (n + 1 == m)) ≡ (u && (k + 1 == l))
agree_next u n m k l first second = grind (arith, nat_tests)

module _ (caps : ℕ → ℕ) {events : List Event} {numbers : List ℕ} (are : AreNumbers events numbers) (from to : ℕ) (earlier : from < to)
    {s e : Event} (ats : slice_get events from ≡ Some s) (ate : slice_get events to ≡ Some e) where
  -- the front up to an earlier event is that of the front
  front : take from (take to events) ≡ take from events
  front = take-take from to events (omega (arith, earlier))

  here : (o : Op) → e.op ≡ o → source_at caps events from to ≡ is_source caps (take to events) from s.op o
  here o is = source_at_is caps events from to s e ats ate ∙ ap (is_source caps (take to events) from s.op) is

  -- the kth receive before the send numbered k plus the capacity
  pub told_send : (c v : ℕ) → e.op ≡ Send c v → receives c s.op ≡ true
      → (slice_index_or numbers from 0 + caps c == slice_index_or numbers to 0) ≡ source_at caps events from to
  told_send c v is received =
      (λ i. first i + caps c == second i) ∙ (λ i. sym received i
      && (count (receives c) (take from (take to events)) + caps c == count (sends c) (take to events))) ∙ sym (here (Send c v) is)
    where
      first : slice_index_or numbers from 0 ≡ count (receives c) (take from (take to events))
      first = number_is events numbers are from s ats ∙ (λ i. count (receive_counts c s.op received i) (sym front i))

      second : slice_index_or numbers to 0 ≡ count (sends c) (take to events)
      second = number_is events numbers are to e ate ∙ ap (λ o. count (counts o) (take to events)) is

  -- the two numbers, among those of one kind
  first_is : (kind : Op → Bool) → counts s.op ≡ kind → slice_index_or numbers from 0 ≡ count kind (take from (take to events))
  first_is kind is = number_is events numbers are from s ats ∙ (λ i. count (is i) (sym front i))

  second_is : (kind : Op → Bool) (o : Op) → e.op ≡ o → counts o ≡ kind → slice_index_or numbers to 0 ≡ count kind (take to events)
  second_is kind o is numbered = number_is events numbers are to e ate ∙ ap (λ o. count (counts o) (take to events)) is
      ∙ ap (λ kind. count kind (take to events)) numbered

  -- each unlock before a lock, and each runlock behind which there is no lock
  pub told_lock : (l : ℕ) (o : Op) → e.op ≡ o → counts o ≡ locks l
      → is_source caps (take to events) from s.op o ≡ is_before_lock l s.op (count (locks l) (take from (take to events))) (count (locks l) (take to events))
      → is_before_lock l s.op (slice_index_or numbers from 0) (slice_index_or numbers to 0) ≡ source_at caps events from to
  told_lock l o is numbered tests =
      agree (unlocks l s.op) (runlocks l s.op) _ _ _ _ (λ read. first_is (locks l) (runlock_counts l s.op read)) (second_is (locks l) o is numbered)
      ∙ sym tests ∙ sym (here o is)

  -- the last unlock before a read lock
  pub told_read_lock : (l : ℕ) (o : Op) → e.op ≡ o → counts o ≡ unlocks l
      → is_source caps (take to events) from s.op o ≡ is_last_unlock l s.op (count (unlocks l) (take from (take to events))) (count (unlocks l) (take to events))
      → is_last_unlock l s.op (slice_index_or numbers from 0) (slice_index_or numbers to 0) ≡ source_at caps events from to
  told_read_lock l o is numbered tests =
      agree_next (unlocks l s.op) _ _ _ _ (λ unlock. first_is (unlocks l) (unlock_counts l s.op unlock)) (second_is (unlocks l) o is numbered)
      ∙ sym tests ∙ sym (here o is)
