-- The rules, read off what a replay keeps.
use Rattle.std.specs.Prelude.{ℕ, ◌==◌, ◌||◌, ◌&&◌, not, nat_lt, Bool, true, false, List, [], ◌∷◌, length, slice_get}
use Rattle.std.specs.{Prelude.{Option, Some, None, is_some}, List.list_any}
use Rattle.race_records.specs.declared.{cases.{Case.Case, Dir.Dir}, event.Cause.{Cause, TheVariants.SendClosed}}
use Rattle.race_records.specs.declared.event.Cause.TheVariants.{CloseClosed, CloseNil, UnlockFree, RUnlockFree}
use Rattle.race_records.specs.declared.event.{Event.Event, Op.{Op, TheVariants.{Go, Exit, Read, Write, Send, Recv}}}
use Rattle.race_records.specs.declared.event.Op.TheVariants.{Meet, RecvClosed, Close, Default, Lock, Unlock, RLock}
use Rattle.race_records.specs.declared.event.Op.TheVariants.{RUnlock, TryLock, TryRLock, TryFail, OnceBegin, OnceEnd}
use Rattle.race_records.specs.declared.event.Op.TheVariants.{OnceDone, Fault}
use Rattle.race_model.specs.{Events.gives, Legal.least_broken}
use Rattle.race_legal.specs.ReplayState.{GoroutinesState, ChannelsState, LocksState, ReplayState, started_in, runs_in}
use Rattle.race_legal.specs.ReplayState.{innermost_in, value_in, capacity_in, closed_in, queue_in, held_in}
use Rattle.race_legal.specs.ReplayState.{read_held_in, begun_in, ended_in}

-- the rules on a send
abbrev pub send_rules : ChannelsState → ℕ → List (ℕ × Bool)
send_rules t c = (5, capacity_in t c == 0) ∷ (6, closed_in t c) ∷ (7, length (queue_in t c) == capacity_in t c) ∷ []

-- the rules on a receive of the value
abbrev pub recv_rules : ChannelsState → ℕ → ℕ → List (ℕ × Bool)
recv_rules t c v = (5, capacity_in t c == 0) ∷ (8, length (queue_in t c) == 0) ∷ (9, not (gives (slice_get (queue_in t c) 0) v)) ∷ []

-- the rules on the channel of a meeting
abbrev pub meet_rules : ChannelsState → ℕ → List (ℕ × Bool)
meet_rules t c = (5, nat_lt 0 (capacity_in t c)) ∷ (6, closed_in t c) ∷ []

-- the rules on a receive that finds the channel closed
abbrev pub recv_closed_rules : ChannelsState → ℕ → List (ℕ × Bool)
recv_closed_rules t c = (10, not (closed_in t c)) ∷ (11, nat_lt 0 (length (queue_in t c))) ∷ []

-- a case on the channel could go on at once
abbrev pub can_proceed_in : ChannelsState → ℕ → Dir → Bool
can_proceed_in t c Dir.Send = closed_in t c || (nat_lt 0 (capacity_in t c) && nat_lt (length (queue_in t c)) (capacity_in t c))
can_proceed_in t c Dir.Recv = closed_in t c || (nat_lt 0 (capacity_in t c) && nat_lt 0 (length (queue_in t c)))

-- a case on nil never can
abbrev pub is_ready_in : ChannelsState → Case → Bool
is_ready_in t case = elim case.chan [ None ↦ false | Some c ↦ can_proceed_in t c case.dir ]

-- the rules on a lock for writing
abbrev pub lock_rules : LocksState → ℕ → List (ℕ × Bool)
lock_rules t l = (13, held_in t l) ∷ (14, read_held_in t l) ∷ []

-- the cause of a fault holds
abbrev pub cause_holds_in : ReplayState → Cause → Bool
cause_holds_in k (SendClosed c) = closed_in k.channels c
cause_holds_in k (CloseClosed c) = closed_in k.channels c
cause_holds_in k CloseNil = true
cause_holds_in k (UnlockFree l) = not (held_in k.locks l)
cause_holds_in k (RUnlockFree l) = not (read_held_in k.locks l)

-- the rules on what the goroutine does
abbrev pub op_rules_in : ReplayState → ℕ → Op → List (ℕ × Bool)
op_rules_in k who (Go h) = (3, h == 0 || started_in k.goroutines h) ∷ []
op_rules_in k who Exit = (20, is_some (innermost_in k.goroutines who)) ∷ []
op_rules_in k who (Read x v) = (21, not (value_in k x == v)) ∷ []
op_rules_in k who (Write x v) = []
op_rules_in k who (Send c v) = send_rules k.channels c
op_rules_in k who (Recv c v) = recv_rules k.channels c v
op_rules_in k who (Meet r c v) = (4, r == who) ∷ meet_rules k.channels c
op_rules_in k who (RecvClosed c) = recv_closed_rules k.channels c
op_rules_in k who (Close c) = (12, closed_in k.channels c) ∷ []
op_rules_in k who (Default cases) = (22, list_any (is_ready_in k.channels) cases) ∷ []
op_rules_in k who (Lock l) = lock_rules k.locks l
op_rules_in k who (Unlock l) = (15, not (held_in k.locks l)) ∷ []
op_rules_in k who (RLock l) = (13, held_in k.locks l) ∷ []
op_rules_in k who (RUnlock l) = (16, not (read_held_in k.locks l)) ∷ []
op_rules_in k who (TryLock l) = lock_rules k.locks l
op_rules_in k who (TryRLock l) = (13, held_in k.locks l) ∷ []
op_rules_in k who (TryFail l) = []
op_rules_in k who (OnceBegin o) = (17, begun_in k.onces o) ∷ []
op_rules_in k who (OnceEnd o) = (18, not (gives (innermost_in k.goroutines who) o)) ∷ []
op_rules_in k who (OnceDone o) = (19, not (ended_in k.onces o)) ∷ []
op_rules_in k who (Fault cause) = (23, not (cause_holds_in k cause)) ∷ []

-- the receiver runs, where there is one
abbrev pub receiver_runs_in : GoroutinesState → Op → Bool
receiver_runs_in t (Meet r c v) = runs_in t r
receiver_runs_in t _ = true

-- the goroutine runs, and the receiver
abbrev pub actors_run_in : GoroutinesState → ℕ → Op → Bool
actors_run_in t who o = runs_in t who && receiver_runs_in t o

-- all rules
abbrev pub rules_in : ReplayState → Event → List (ℕ × Bool)
rules_in k e = (1, k.over) ∷ (2, not (actors_run_in k.goroutines e.who e.op)) ∷ op_rules_in k e.who e.op

-- the least broken rule
abbrev pub broken_in : ReplayState → Event → Option ℕ
broken_in k e = least_broken (rules_in k e)
