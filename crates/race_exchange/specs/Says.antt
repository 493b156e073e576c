-- Lists of events that say the same of the run, or the same of what an event asks. (Our own)
use Rattle.std.specs.Prelude.{ℕ, ◌≡◌, true, List, Some, length}
use Rattle.race_records.specs.declared.event.Event.{Event}
use Rattle.race_model.specs.Events.{takes_part, has_exited, count, sends, receives}
use Rattle.race_model.specs.State.{over, started, runs, last_value, is_closed, buffered, front, is_held, is_read_held}
use Rattle.race_model.specs.{State.{is_begun, is_ended, innermost}, Legal.broken}
use Rattle.race_exchange.specs.Independent.{OfVariable, OfChannel, OfLock, OfOnce, thing_of}

-- both say the same of each variable, channel, lock, once and goroutine, and of the run, and an event breaks the same rule after both
pub record SaysTheSame (one other : List Event) : Type 0 where
  pub last_value : (x : ℕ) → last_value x one ≡ last_value x other
  pub is_closed : (c : ℕ) → is_closed c one ≡ is_closed c other
  pub sends : (c : ℕ) → count (sends c) one ≡ count (sends c) other
  pub receives : (c : ℕ) → count (receives c) one ≡ count (receives c) other
  pub front : (c : ℕ) → front c one ≡ front c other
  pub buffered : (c : ℕ) → buffered c one ≡ buffered c other
  pub is_held : (l : ℕ) → is_held l one ≡ is_held l other
  pub is_read_held : (l : ℕ) → is_read_held l one ≡ is_read_held l other
  pub is_begun : (o : ℕ) → is_begun o one ≡ is_begun o other
  pub is_ended : (o : ℕ) → is_ended o one ≡ is_ended o other
  pub innermost : (g : ℕ) → innermost g one ≡ innermost g other
  pub started : (h : ℕ) → started h one ≡ started h other
  pub has_exited : (g : ℕ) → has_exited g one ≡ has_exited g other
  pub runs : (g : ℕ) → runs g one ≡ runs g other
  pub over : over one ≡ over other
  pub length : length one ≡ length other
  pub broken : (caps : ℕ → ℕ) (e : Event) → broken caps one e ≡ broken caps other e

-- both say the same of the thing that e is on, of the goroutines that take part in e, and of the run's end
pub record AnswersTheSame (e : Event) (one other : List Event) : Type 0 where
  pub last_value : (x : ℕ) → thing_of e.op ≡ Some (OfVariable x) → last_value x one ≡ last_value x other
  pub is_closed : (c : ℕ) → thing_of e.op ≡ Some (OfChannel c) → is_closed c one ≡ is_closed c other
  pub sends : (c : ℕ) → thing_of e.op ≡ Some (OfChannel c) → count (sends c) one ≡ count (sends c) other
  pub receives : (c : ℕ) → thing_of e.op ≡ Some (OfChannel c) → count (receives c) one ≡ count (receives c) other
  pub front : (c : ℕ) → thing_of e.op ≡ Some (OfChannel c) → front c one ≡ front c other
  pub buffered : (c : ℕ) → thing_of e.op ≡ Some (OfChannel c) → buffered c one ≡ buffered c other
  pub is_held : (l : ℕ) → thing_of e.op ≡ Some (OfLock l) → is_held l one ≡ is_held l other
  pub is_read_held : (l : ℕ) → thing_of e.op ≡ Some (OfLock l) → is_read_held l one ≡ is_read_held l other
  pub is_begun : (o : ℕ) → thing_of e.op ≡ Some (OfOnce o) → is_begun o one ≡ is_begun o other
  pub is_ended : (o : ℕ) → thing_of e.op ≡ Some (OfOnce o) → is_ended o one ≡ is_ended o other
  pub innermost : (g : ℕ) → takes_part g e ≡ true → innermost g one ≡ innermost g other
  pub started : (g : ℕ) → takes_part g e ≡ true → started g one ≡ started g other
  pub has_exited : (g : ℕ) → takes_part g e ≡ true → has_exited g one ≡ has_exited g other
  pub runs : (g : ℕ) → takes_part g e ≡ true → runs g one ≡ runs g other
  pub over : over one ≡ over other
