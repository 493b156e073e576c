-- The laws of the definitions. Each is the contract of a function in src/laws.rt that does nothing. (The Go Memory
-- Model, "Memory Model": DRF-SC; "Channel communication", "Locks", "Once")
use Rattle.std.specs.Prelude.{ℕ, ◌≡◌, ◌<◌, ◌↔◌, ◌+◌, IsTrue, List, take}
use Rattle.race_records.specs.declared.event.{Event.Event, Op.TheVariants.{RecvClosed, OnceDone}}
use Rattle.race_model.specs.Events.{At, operations, sends, receives, closes, locks, unlocks, rlocks, once_ends, count}
use Rattle.race_model.specs.{Events.IsKth, Legal.IsLegal, Order.HappensBefore, Race.{IsDataRaceFree, IsRace, IsReportedRace}}
use Rattle.race_model.specs.Predict.{CouldHaveRun, EndsWithRace}
use Rattle.race_model.specs.{Reorder.{IsReordering, own_order, EachReadFindsTheSame}, Verdict.{Verdict, IsVerdict}}

-- what happens before stands before in the list
abbrev pub HappensBeforeGoesUp : List Event → Type 0
HappensBeforeGoesUp events = (caps : ℕ → ℕ) (i j : ℕ) → HappensBefore caps events i j → i < j

-- where i happens before j and j before k, i happens before k
abbrev pub HappensBeforeIsTransitive : List Event → Type 0
HappensBeforeIsTransitive events =
    (caps : ℕ → ℕ) (i j k : ℕ) → HappensBefore caps events i j → HappensBefore caps events j k
    → HappensBefore caps events i k

-- the trace's own order is a reordering
abbrev pub OwnOrderIsReordering : List Event → Type 0
OwnOrderIsReordering events = (caps : ℕ → ℕ) → IsReordering caps events (own_order events)

-- without a data race, every reordering lets every read find the write that it finds in the trace's own order
abbrev pub ReorderingsFindTheSame : List Event → Type 0
ReorderingsFindTheSame events = (caps : ℕ → ℕ) → IsDataRaceFree caps events → EachReadFindsTheSame caps events

-- a variable has at most one reported race
abbrev pub HasOneReportedRace : List Event → Type 0
HasOneReportedRace events =
    (caps : ℕ → ℕ) (x i j k m : ℕ) → IsReportedRace caps events x i j → IsReportedRace caps events x k m
    → (i ≡ k) × (j ≡ m)

-- a list of events has at most one verdict
abbrev pub HasOneVerdict : List Event → Type 0
HasOneVerdict events = (caps : ℕ → ℕ) (v w : Verdict) → IsVerdict caps events v → IsVerdict caps events w → v ≡ w

-- a verdict is on who does what: lists that differ in places alone have the same ones
abbrev pub VerdictIsOnOperations : List Event → Type 0
VerdictIsOnOperations events =
    (others : List Event) → operations events ≡ operations others → (caps : ℕ → ℕ) (v : Verdict)
    → IsVerdict caps events v → IsVerdict caps others v

-- Edges are looked for among earlier events alone. In a legal list that loses none: what leads to an event stands before it.

-- the kth Send on a channel stands before the kth Recv from it
abbrev pub SendStandsBeforeItsReceive : List Event → Type 0
SendStandsBeforeItsReceive events =
    (caps : ℕ → ℕ) → IsLegal caps events → (c k i j : ℕ) (s r : Event) → At events i s → At events j r
    → IsKth (sends c) k events i s.op → IsKth (receives c) k events j r.op → i < j

-- the kth Recv from a channel stands before the Send numbered k plus the capacity
abbrev pub ReceiveStandsBeforeTheSendItMakesRoomFor : List Event → Type 0
ReceiveStandsBeforeTheSendItMakesRoomFor events =
    (caps : ℕ → ℕ) → IsLegal caps events → (c k i j : ℕ) (r s : Event) → At events i r → At events j s
    → IsKth (receives c) k events i r.op → IsKth (sends c) (k + caps c) events j s.op → i < j

-- a Close of a channel stands before each RecvClosed of it
abbrev pub CloseStandsBeforeWhatFindsIt : List Event → Type 0
CloseStandsBeforeWhatFindsIt events =
    (caps : ℕ → ℕ) → IsLegal caps events → (c i j : ℕ) (s r : Event) → At events i s → At events j r
    → IsTrue (closes c s.op) → r.op ≡ RecvClosed c → i < j

-- the standard numbers the calls of Lock and of Unlock: the Unlocks with a lower number than a Lock's are those that stand before it
abbrev pub UnlocksOfALowerNumberStandBeforeALock : List Event → Type 0
UnlocksOfALowerNumberStandBeforeALock events =
    (caps : ℕ → ℕ) → IsLegal caps events → (l n m i j : ℕ) (u k : Event) → At events i u → At events j k
    → IsKth (unlocks l) n events i u.op → IsKth (locks l) m events j k.op → n < m ↔ i < j

-- as many Locks as Unlocks of a lock stand before an RLock. So where that is n, the next Lock is the one of number n, counted from 0
abbrev pub AsManyLocksAsUnlocksStandBeforeAnRLock : List Event → Type 0
AsManyLocksAsUnlocksStandBeforeAnRLock events =
    (caps : ℕ → ℕ) → IsLegal caps events → (l i : ℕ) (e : Event) → At events i e → IsTrue (rlocks l e.op)
    → count (locks l) (take i events) ≡ count (unlocks l) (take i events)

-- an OnceEnd of a once stands before each OnceDone of it
abbrev pub OnceEndStandsBeforeEachOnceDone : List Event → Type 0
OnceEndStandsBeforeEachOnceDone events =
    (caps : ℕ → ℕ) → IsLegal caps events → (o i j : ℕ) (s r : Event) → At events i s → At events j r
    → IsTrue (once_ends o s.op) → r.op ≡ OnceDone o → i < j

-- who ends with the two accesses has a race there: no edge leaves an access, and nothing stands between neighbours
abbrev pub EndsInARace : List Event → Type 0
EndsInARace events = (caps : ℕ → ℕ) (x : ℕ) (ends : EndsWithRace events x) → IsRace caps events x ends.before (ends.before + 1)

-- each front of a legal list, and so the list itself, is a run that its goroutines could have had
abbrev pub EachFrontCouldHaveRun : List Event → Type 0
EachFrontCouldHaveRun events = (caps : ℕ → ℕ) (n : ℕ) → IsLegal caps events → CouldHaveRun caps events (take n events)
