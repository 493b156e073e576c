-- Which rules an event breaks after the events before it, and which lists of events are legal. (The Go Programming
-- Language Specification, "Program execution", "Go statements", "Send statements", "Receive operator", "Close", "Select
-- statements", "Channel types", "Run-time panics", "Handling panics"; package sync)
use Rattle.std.specs.Prelude.{ℕ, if◌then◌else◌, ◌≡◌, ◌==◌, ◌||◌, ◌&&◌, not, nat_lt, Bool, true, false, List, [], ◌∷◌}
use Rattle.std.specs.{Prelude.{Option, Some, None, is_some, take}, List.list_any}
use Rattle.race_records.specs.declared.event.{Event.Event, Cause.{Cause, TheVariants.{SendClosed, CloseClosed}}}
use Rattle.race_records.specs.declared.event.{Cause.TheVariants.{CloseNil, UnlockFree, RUnlockFree}, Op.Op}
use Rattle.race_records.specs.declared.event.Op.TheVariants.{Go, Exit, Read, Write, Send, Recv, Meet, RecvClosed, Close}
use Rattle.race_records.specs.declared.event.Op.TheVariants.{Default, Lock, Unlock, RLock, RUnlock, TryLock, TryRLock}
use Rattle.race_records.specs.declared.event.Op.TheVariants.{TryFail, OnceBegin, OnceEnd, OnceDone, Fault}
use Rattle.race_records.specs.declared.cases.{Case.Case, Dir.Dir}
use Rattle.race_model.specs.{Events.{At, gives, sends, receives, count}, State.{over, started, runs, last_value}}
use Rattle.race_model.specs.State.{is_closed, buffered, front, is_held, is_read_held, is_begun, is_ended, innermost}

-- Each rule has a number of its own for good. caps gives the capacity of each channel.

-- a case on channel c could go on at once: a send where it would fail, or where the buffer has room, a receive where the channel
-- is closed, or where the buffer has a value; on an open unbuffered channel none could
abbrev pub can_proceed : (ℕ → ℕ) → List Event → ℕ → Dir → Bool
can_proceed caps past c Dir.Send = is_closed c past || (nat_lt 0 (caps c) && nat_lt (buffered c past) (caps c))
can_proceed caps past c Dir.Recv = is_closed c past || (nat_lt 0 (caps c) && nat_lt 0 (buffered c past))

-- a case on nil is never ready
abbrev pub is_ready : (ℕ → ℕ) → List Event → Case → Bool
is_ready caps past case = elim case.chan [ None ↦ false | Some c ↦ can_proceed caps past c case.dir ]

-- the cause of a fault holds: a send on a closed channel, a close of one, or of nil, an unlock of what isn't locked, or from
-- reading of what isn't locked for reading
abbrev pub cause_holds : List Event → Cause → Bool
cause_holds past (SendClosed c) = is_closed c past
cause_holds past (CloseClosed c) = is_closed c past
cause_holds past CloseNil = true
cause_holds past (UnlockFree l) = not (is_held l past)
cause_holds past (RUnlockFree l) = not (is_read_held l past)

-- the rules on what goroutine g does after the events past, in rising order: the number, and whether the rule is broken
abbrev pub op_rules : (ℕ → ℕ) → List Event → ℕ → Op → List (ℕ × Bool)
-- 3: it starts main, or a goroutine that was started before
op_rules caps past g (Go h) = (3, h == 0 || started h past) ∷ []
-- 20: it is still in the function of a once
op_rules caps past g Exit = (20, is_some (innermost g past)) ∷ []
-- 21: it reads another value than the last one written, or than 0 where none was
op_rules caps past g (Read x v) = (21, not (last_value x past == v)) ∷ []
op_rules caps past g (Write x v) = []
-- 5: the channel is unbuffered; 6: it is closed; 7: its buffer is full
op_rules caps past g (Send c v) = (5, caps c == 0) ∷ (6, is_closed c past) ∷ (7, buffered c past == caps c) ∷ []
-- 8: nothing is in its buffer; 9: the value is another than the one that was sent
op_rules caps past g (Recv c v) =
    (5, caps c == 0) ∷ (8, count (sends c) past == count (receives c) past) ∷ (9, not (gives (front c past) v)) ∷ []
-- 4: the sender receives from itself; 5: the channel is buffered
op_rules caps past g (Meet r c v) = (4, r == g) ∷ (5, nat_lt 0 (caps c)) ∷ (6, is_closed c past) ∷ []
-- 10: the channel is open; 11: something is left in its buffer
op_rules caps past g (RecvClosed c) =
    (10, not (is_closed c past)) ∷ (11, nat_lt (count (receives c) past) (count (sends c) past)) ∷ []
-- 12: it was closed before
op_rules caps past g (Close c) = (12, is_closed c past) ∷ []
-- 22: a case of the select could go on
op_rules caps past g (Default cases) = (22, list_any (is_ready caps past) cases) ∷ []
-- 13: the lock is locked; 14: it is locked for reading
op_rules caps past g (Lock l) = (13, is_held l past) ∷ (14, is_read_held l past) ∷ []
-- 15: the lock isn't locked
op_rules caps past g (Unlock l) = (15, not (is_held l past)) ∷ []
-- 13: the lock is locked; another reader is no hindrance
op_rules caps past g (RLock l) = (13, is_held l past) ∷ []
-- 16: the lock isn't locked for reading
op_rules caps past g (RUnlock l) = (16, not (is_read_held l past)) ∷ []
-- 13 and 14: a TryLock that succeeded is as a Lock
op_rules caps past g (TryLock l) = (13, is_held l past) ∷ (14, is_read_held l past) ∷ []
-- 13: a TryRLock that succeeded is as an RLock
op_rules caps past g (TryRLock l) = (13, is_held l past) ∷ []
-- none: a try may fail "even when the mutex l is unlocked" (The Go Memory Model, "Locks")
op_rules caps past g (TryFail l) = []
-- 17: the function of the once has begun before
op_rules caps past g (OnceBegin o) = (17, is_begun o past) ∷ []
-- 18: the function in which the goroutine runs is that of no once, or of another one
op_rules caps past g (OnceEnd o) = (18, not (gives (innermost g past) o)) ∷ []
-- 19: the function of the once hasn't ended
op_rules caps past g (OnceDone o) = (19, not (is_ended o past)) ∷ []
-- 23: the cause of the fault doesn't hold
op_rules caps past g (Fault cause) = (23, not (cause_holds past cause)) ∷ []

-- the receiver runs, where there is one
abbrev pub receiver_runs : List Event → Op → Bool
receiver_runs past (Meet r c v) = runs r past
receiver_runs past _ = true

-- the goroutine of the event runs, and the receiver of a Meet; nothing is asked of the one that a Go starts
abbrev pub actors_run : List Event → Event → Bool
actors_run past e = runs e.who past && receiver_runs past e.op

-- all rules in rising order; 1 says that the run is over, 2 that who acts doesn't run
abbrev pub rules : (ℕ → ℕ) → List Event → Event → List (ℕ × Bool)
rules caps past e = (1, over past) ∷ (2, not (actors_run past e)) ∷ op_rules caps past e.who e.op

-- the first broken rule of the list, and so the least, since rules stand in rising order
abbrev pub least_broken : List (ℕ × Bool) → Option ℕ
least_broken [] = None
least_broken (r ∷ rs) = if r.1 then Some r.0 else least_broken rs

-- the least rule that e breaks after the events past
abbrev pub broken : (ℕ → ℕ) → List Event → Event → Option ℕ
broken caps past e = least_broken (rules caps past e)

-- no event breaks a rule
abbrev pub IsLegal : (ℕ → ℕ) → List Event → Type 0
IsLegal caps events = (i : ℕ) (e : Event) → At events i e → broken caps (take i events) e ≡ None

-- the event at index i is the first that breaks a rule, and n is the least rule that it breaks
abbrev pub IsIllegalAt : (ℕ → ℕ) → List Event → ℕ → ℕ → Type 0
IsIllegalAt caps events i n =
    (e : Event) × At events i e × (broken caps (take i events) e ≡ Some n) × IsLegal caps (take i events)
