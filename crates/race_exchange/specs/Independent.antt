-- Which two events may change places where they are neighbours. (Our own; compare The Go Memory Model, "Memory Model": synchronizing operations)
use Rattle.std.specs.Prelude.{◌==◌, ◌||◌, ◌&&◌, not, nat_lt, Bool, true, false, Option, Some, None}
use Rattle.std.specs.Option.{option_map_or}
use Rattle.race_records.specs.declared.event.{Event.Event, Op.{Op, TheVariants.{Go, Exit, Read, Write, Send, Recv}}}
use Rattle.race_records.specs.declared.event.Op.TheVariants.{Meet, RecvClosed, Close, Default, Lock, Unlock, RLock, RUnlock}
use Rattle.race_records.specs.declared.event.Op.TheVariants.{TryLock, TryRLock, TryFail, OnceBegin, OnceEnd, OnceDone, Fault}
use Rattle.race_model.specs.Events.{partner, takes_part, is_exit, is_fault}
pub use Rattle.race_exchange.specs.declared.independent.Thing.{Thing, TheVariants.{OfVariable, OfChannel, OfLock, OfOnce}}

-- the thing that the operation is on, if it is on one
abbrev pub thing_of : Op → Option Thing
thing_of (Go h) = None
thing_of Exit = None
thing_of (Read x v) = Some (OfVariable x)
thing_of (Write x v) = Some (OfVariable x)
thing_of (Send c v) = Some (OfChannel c)
thing_of (Recv c v) = Some (OfChannel c)
thing_of (Meet r c v) = Some (OfChannel c)
thing_of (RecvClosed c) = Some (OfChannel c)
thing_of (Close c) = Some (OfChannel c)
thing_of (Default cases) = None
thing_of (Lock l) = Some (OfLock l)
thing_of (Unlock l) = Some (OfLock l)
thing_of (RLock l) = Some (OfLock l)
thing_of (RUnlock l) = Some (OfLock l)
thing_of (TryLock l) = Some (OfLock l)
thing_of (TryRLock l) = Some (OfLock l)
thing_of (TryFail l) = Some (OfLock l)
thing_of (OnceBegin o) = Some (OfOnce o)
thing_of (OnceEnd o) = Some (OfOnce o)
thing_of (OnceDone o) = Some (OfOnce o)
thing_of (Fault cause) = None

-- both are one thing
abbrev pub same_thing : Thing → Thing → Bool
same_thing (OfVariable x) (OfVariable y) = x == y
same_thing (OfChannel c) (OfChannel d) = c == d
same_thing (OfLock l) (OfLock m) = l == m
same_thing (OfOnce o) (OfOnce p) = o == p
same_thing _ _ = false

-- both are a thing, and one thing
abbrev pub both_on_one : Option Thing → Option Thing → Bool
both_on_one (Some s) (Some t) = same_thing s t
both_on_one _ _ = false

-- both operations are on one thing, and aren't both reads
abbrev pub collide : Op → Op → Bool
collide (Read x v) (Read y w) = false
collide o p = both_on_one (thing_of o) (thing_of p)

-- a goroutine takes part in both events
abbrev pub share_goroutine : Event → Event → Bool
share_goroutine a b = takes_part a.who b || option_map_or (λ g. takes_part g b) (partner a.op) false

-- a default, which is taken where nobody waits on the other side
abbrev pub is_default : Op → Bool
is_default (Default cases) = true
is_default _ = false

-- the event stays where it is: a default; a fault and main's exit, which end the run
abbrev pub stays : Event → Bool
stays e = is_default e.op || (is_fault e.op || (is_exit e.op && (e.who == 0)))

-- the events are independent: neither stays, no goroutine takes part in both, and they don't collide
abbrev pub are_independent : Event → Event → Bool
are_independent a b = (not (stays a) && not (stays b)) && (not (share_goroutine a b) && not (collide a.op b.op))

-- they are, and the first is of a goroutine of a greater number
abbrev pub are_turned : Event → Event → Bool
are_turned a b = are_independent a b && nat_lt b.who a.who
