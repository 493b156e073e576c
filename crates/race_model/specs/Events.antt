-- Who takes part in an event, what it does, and how many events of a kind there are. (The Go Memory Model, "Memory Model": memory operation)
use Rattle.std.specs.Prelude.{ℕ, ◌≡◌, ◌==◌, ◌||◌, ◌&&◌, nat_lt, Bool, true, false, IsTrue, List, [], ◌∷◌, Option, Some}
use Rattle.std.specs.Prelude.{None, count_by, map, take, slice_get}
use Rattle.race_records.specs.declared.event.{Event.Event, Op.{Op, TheVariants.{Go, Exit, Read, Write, Send, Recv}}}
use Rattle.race_records.specs.declared.event.Op.TheVariants.{Meet, Close, Lock, Unlock, RLock, RUnlock, TryLock}
use Rattle.race_records.specs.declared.event.Op.TheVariants.{TryRLock, OnceBegin, OnceEnd, Fault}

-- e is the event at index i of the list; indexes count from 0
abbrev pub At : List Event → ℕ → Event → Type 0
At events i e = slice_get events i ≡ Some e

-- who does what, in order: the events without their places
abbrev pub operations : List Event → List (ℕ × Op)
operations events = map (λ e. (e.who, e.op)) events

-- the second participant: the goroutine that a Go starts, or the receiver of a Meet
abbrev pub partner : Op → Option ℕ
partner (Go h) = Some h
partner (Meet r c v) = Some r
partner _ = None

-- there is a number, and it is n
abbrev pub gives : Option ℕ → ℕ → Bool
gives None n = false
gives (Some m) n = m == n

-- g takes part in the event: it is the goroutine of the event, or the second participant
abbrev pub takes_part : ℕ → Event → Bool
takes_part g e = (e.who == g) || gives (partner e.op) g

-- g takes part in the event at index i
abbrev pub TakesPart : List Event → ℕ → ℕ → Type 0
TakesPart events i g = (e : Event) × At events i e × IsTrue (takes_part g e)

-- Kinds of operations, most of them on one object.

-- a Go that starts h
abbrev pub starts : ℕ → Op → Bool
starts h (Go k) = k == h
starts h _ = false

-- an Exit
abbrev pub is_exit : Op → Bool
is_exit Exit = true
is_exit _ = false

-- a Fault, of whatever cause
abbrev pub is_fault : Op → Bool
is_fault (Fault cause) = true
is_fault _ = false

-- a Read of x
abbrev pub reads : ℕ → Op → Bool
reads x (Read y v) = y == x
reads x _ = false

-- a Write of x
abbrev pub writes : ℕ → Op → Bool
writes x (Write y v) = y == x
writes x _ = false

-- a Read or a Write of x
abbrev pub accesses : ℕ → Op → Bool
accesses x o = reads x o || writes x o

-- a Read or a Write of any variable
abbrev pub is_access : Op → Bool
is_access (Read x v) = true
is_access (Write x v) = true
is_access _ = false

-- a Send on c, of whatever value; a Meet is none
abbrev pub sends : ℕ → Op → Bool
sends c (Send d v) = d == c
sends c _ = false

-- a Recv from c, of whatever value; a Meet is none, and neither is a RecvClosed
abbrev pub receives : ℕ → Op → Bool
receives c (Recv d v) = d == c
receives c _ = false

-- a Close of c
abbrev pub closes : ℕ → Op → Bool
closes c (Close d) = d == c
closes c _ = false

-- a Lock of l, or a TryLock that succeeded ("Locks": "is equivalent to a call to l.Lock"); an RLock is none, and neither is a failed try
abbrev pub locks : ℕ → Op → Bool
locks l (Lock m) = m == l
locks l (TryLock m) = m == l
locks l _ = false

-- an Unlock of l; an RUnlock is none
abbrev pub unlocks : ℕ → Op → Bool
unlocks l (Unlock m) = m == l
unlocks l _ = false

-- an RLock of l, or a TryRLock that succeeded
abbrev pub rlocks : ℕ → Op → Bool
rlocks l (RLock m) = m == l
rlocks l (TryRLock m) = m == l
rlocks l _ = false

-- an RUnlock of l
abbrev pub runlocks : ℕ → Op → Bool
runlocks l (RUnlock m) = m == l
runlocks l _ = false

-- an OnceBegin of o
abbrev pub once_begins : ℕ → Op → Bool
once_begins o (OnceBegin p) = p == o
once_begins o _ = false

-- an OnceEnd of o
abbrev pub once_ends : ℕ → Op → Bool
once_ends o (OnceEnd p) = p == o
once_ends o _ = false

-- how many events of a kind the list has
abbrev pub count : (Op → Bool) → List Event → ℕ
count kind events = count_by (λ e. kind e.op) events

-- the list has an event of the kind
abbrev pub has : (Op → Bool) → List Event → Bool
has kind events = nat_lt 0 (count kind events)

-- o is of the kind, and k events of the kind stand before index i. Where o stands at i it is number k of its kind, counted from 0
abbrev pub IsKth : (Op → Bool) → ℕ → List Event → ℕ → Op → Type 0
IsKth kind k events i o = IsTrue (kind o) × (count kind (take i events) ≡ k)

-- the list has an Exit of g
abbrev pub has_exited : ℕ → List Event → Bool
has_exited g events = nat_lt 0 (count_by (λ e. (e.who == g) && is_exit e.op) events)

-- what f gives at the last element at which it gives something
abbrev pub last_of : {X A : Type 0} → (X → Option A) → List X → Option A
last_of f [] = None
last_of f (x ∷ xs) = elim (last_of f xs) [ Some a ↦ Some a | None ↦ f x ]
