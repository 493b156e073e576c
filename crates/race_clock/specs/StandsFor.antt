-- What a stamper says of the events that it took. (The Go Memory Model, "Memory Model": happens before)
use Rattle.std.specs.Prelude.{ℕ, ◌≡◌, ◌<◌, ◌+◌, ◌-◌, Bool, IsTrue, Some, None, List, [], ◌∷◌, ◌++◌, length, take}
use Rattle.std.specs.List.{slice_index_or}
use Rattle.race_records.specs.declared.{event.{Event.Event, Op.Op}, kind.Kind.Kind, trace.TheConstants.MAX_EVENTS}
use Rattle.race_records.specs.Declarations.{Declaration, count_of, counts_of, capacity_of}
use Rattle.race_model.specs.Events.{is_access, count, IsKth, sends, receives, closes, locks, unlocks, runlocks}
use Rattle.race_model.specs.{Events.once_ends, Legal.broken, Order.{Begin, Reaches, IsLastUnlock}}
use Rattle.race_model.specs.{Known.SeenBy, Clocks.{participations, CountsBegins, CountsSeen, SeenFrom, CountsFrom}}
use Rattle.race_legal.specs.ReplayState.{IsInRange}
use Rattle.race_clock.specs.{ClockState.knows, ClocksState.{ChannelState, LockState, ClocksState, clock_of, parts_of}}
use Rattle.race_clock.specs.{ClocksState.{channel_of, lock_of, end_of}, StamperState.StamperState}

-- the clocks of the events of a kind, from number `first` of them on to the last
pub record IsQueue (caps : ℕ → ℕ) (past : List Event) (kind : Op → Bool) (first : ℕ) (queue : List (List ℕ)) : Type 0 where
  pub all : first + length queue ≡ count kind past
  pub each : (j : ℕ) → j < length queue → CountsFrom caps past (IsKth kind (first + j) past) (knows (slice_index_or queue j []))

-- the clocks of channel c
pub record StandsForChannel (caps : ℕ → ℕ) (past : List Event) (c : ℕ) (ch : ChannelState) : Type 0 where
  pub room : ch.capacity ≡ caps c
  -- the sends that no receive has met
  pub sent : IsQueue caps past (sends c) (count (receives c) past) ch.sent
  -- the receives whose room no send has taken
  pub freed : IsQueue caps past (receives c) (count (sends c) past - caps c) ch.freed
  pub closed : CountsFrom caps past (λ k s. IsTrue (closes c s)) (knows ch.closed)

-- g has seen all that the unlocks of l had seen by their begins, these included
abbrev pub HasSeenUnlocks : (ℕ → ℕ) → List Event → ℕ → ℕ → Type 0
HasSeenUnlocks caps past l g = (i h : ℕ) → SeenFrom caps past (λ k s. IsTrue (unlocks l s)) i h → SeenBy caps past i h g

-- the clocks of lock l
pub record StandsForLock (caps : ℕ → ℕ) (past : List Event) (l : ℕ) (k : LockState) : Type 0 where
  pub all_unlocks : CountsFrom caps past (λ i s. IsTrue (unlocks l s)) (knows k.unlocks)
  pub last_unlock : CountsFrom caps past (λ i s. IsLastUnlock past i s l) (knows k.last)
  -- the runlocks behind which no Lock stands
  pub new_runlocks : CountsFrom caps past (λ i s. IsTrue (runlocks l s) × (count (locks l) (take i past) ≡ count (locks l) past)) (knows k.runlocks)
  -- who has locked it since the last unlock has seen them all
  pub seen : (g : ℕ) → k.locker ≡ Some g → HasSeenUnlocks caps past l g

-- each clock counts the begins that it is to count
pub record ClocksStandFor (caps : ℕ → ℕ) (k : ClocksState) (past : List Event) : Type 0 where
  -- a goroutine's clock has its own count written out
  pub wide : (g : ℕ) → g < length k.slots → g < length (clock_of k g)
  pub all_parts : (g : ℕ) → g < length k.slots → parts_of k g ≡ participations g past
  pub all_clocks : (g : ℕ) → g < length k.slots → CountsSeen caps past g (knows (clock_of k g))
  pub all_channels : (c : ℕ) → c < length k.channels → StandsForChannel caps past c (channel_of k.channels c)
  pub all_locks : (l : ℕ) → l < length k.locks → StandsForLock caps past l (lock_of k.locks l)
  pub all_ends : (o : ℕ) → o < length k.ends → CountsFrom caps past (λ i s. IsTrue (once_ends o s)) (knows (end_of k.ends o))

-- under the declarations, the stamper stands for a list of events
pub record StandsFor (declarations : List Declaration) (k : StamperState) (past : List Event) : Type 0 where
  pub len : length past ≡ k.len
  -- there are clocks for all that is declared
  pub all_goroutines : length k.clocks.slots ≡ count_of Kind.Goroutine declarations
  pub all_chans : length k.clocks.channels ≡ count_of Kind.Chan declarations
  pub all_locks : length k.clocks.locks ≡ count_of Kind.Lock declarations
  pub all_onces : length k.clocks.ends ≡ count_of Kind.Once declarations
  pub clocks : ClocksStandFor (capacity_of declarations) k.clocks past

-- it holds of each list for which the stamper stands
abbrev pub ForEachPast : StamperState → (List Declaration → List Event → Type 0) → Type 0
ForEachPast k Holds = (declarations : List Declaration) (past : List Event) → StandsFor declarations k past → Holds declarations past

-- behind the events past e breaks no rule
abbrev pub IsAllowed : List Declaration → List Event → Event → Type 0
IsAllowed declarations past e = broken (capacity_of declarations) past e ≡ None

-- e may come next: it is in range of the declarations, breaks no rule behind a list for which the stamper stands, and the list isn't full
pub record IsNext (k : StamperState) (e : Event) : Type 0 where
  pub declarations : List Declaration
  pub past : List Event
  pub stands : StandsFor declarations k past
  pub in_range : IsInRange (counts_of declarations) e
  pub allowed : IsAllowed declarations past e
  pub room : length past < MAX_EVENTS

-- whichever list it stood for, behind which e breaks no rule, it stands for that list with e behind it
abbrev pub GoesOn : StamperState → StamperState → Event → Type 0
GoesOn old new e = ForEachPast old (λ declarations past. IsAllowed declarations past e → StandsFor declarations new (past ++ e ∷ []))

-- g's clock counts exactly the begins that reach g's begin in e, which came behind the events past
abbrev pub CountsReaching : (ℕ → ℕ) → List Event → Event → ℕ → List ℕ → Type 0
CountsReaching caps past e g clock =
    CountsBegins (past ++ e ∷ []) (knows clock) (λ i h. Reaches caps (past ++ e ∷ []) (Begin i h) (Begin (length past) g))

-- behind an access so does the clock of its goroutine
abbrev pub CountsAtAccess : StamperState → StamperState → Event → Type 0
CountsAtAccess old new e =
    IsTrue (is_access e.op) → ForEachPast old (λ declarations past. CountsReaching (capacity_of declarations) past e e.who (clock_of new.clocks e.who))
