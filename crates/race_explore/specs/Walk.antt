-- What it means that every run of a program was looked at. (Our own; compare The Go Memory Model, "Memory Model", requirement 1: each goroutine's
-- execution)
use Rattle.std.specs.Prelude.{ℕ, ◌≡◌, ◌⊎◌, ◌<◌, ◌≤◌, ◌+◌, ◌&&◌, nat_le, Bool, true, false, List, [], ◌∷◌, ◌++◌, All, length, map, take, slice_get, Some, IsSome}
use Rattle.race_records.specs.declared.trace.TheConstants.{MAX_EVENTS}
use Rattle.race_verdict.specs.Traces.{HasVerdict}
use Rattle.race_hub.specs.{Finish.IsRecorded, Hub.HubState, Opening.IsOpening, Recording.RecordingState}
use Rattle.race_record.specs.{declared.noting.Fork.Fork, Noting.IsNoting, Recorded.IsRecordingOf}
use Rattle.race_record.specs.Serial.{IsSerial, IsTurnedAway, TakesTurn}
use Rattle.race_script.specs.{Certificate.IsCertified, Program.ProgramState, Run.{ScriptState, Asks}}
use Rattle.race_explore.specs.{Lists.{next_picks, HasPicks, IsLeft, Later}, Ways.{Way, choice_count, IsNumbered, HasStopped}}
use Rattle.race_explore.specs.{declared.orders.Orders.Orders, Orders.{IsWanted, IsSkipped, IsSameRun}}
use Rattle.race_explore.specs.{Ends.AreBadEnds, Told.AreRacy}
pub use Rattle.race_explore.specs.Looked.{trace_of, Looked, Skipped, looked_of, is_racy_verdict, is_clean_verdict, is_main_end, is_deadlock_end}
pub use Rattle.race_explore.specs.Looked.{is_fault_end, is_clean_run, Counts, AreAccesses, IsCounted, HasSameCounts, IsBounded}
use Rattle.race_explore.specs.declared.{walk.TheConstants.MAX_RUNS, explored.Explored.Explored}

-- a script for each goroutine, of which nothing was asked
abbrev pub scripts_of : ProgramState → List ScriptState
scripts_of program = map (λ body. record { whole = body; position = 0 }) program.bodies

-- both limits are in their own
abbrev pub are_explore_limits : ℕ → ℕ → Bool
are_explore_limits limit most = (nat_le 1 limit && nat_le limit MAX_EVENTS) && (nat_le 1 most && nat_le most MAX_RUNS)

module _ (program : ProgramState) (limit : ℕ) where
  -- the hub of the program before its first event, which may make so many events
  abbrev pub Opens : HubState ScriptState → Type 0
  Opens hub = IsOpening program.decls limit (scripts_of program) hub

  -- the run of the program by these picks, as it is recorded on one thread
  pub record IsRunBy (picks : List ℕ) (r : RecordingState) : Type 0 where
    pub hub : HubState ScriptState
    pub opens : Opens hub
    pub serial : IsSerial Asks picks hub r

  -- so it is, and these are its events; it has what each recording has, and follows the program
  pub record IsNotedRun (picks : List ℕ) (forks : List Fork) (r : RecordingState) : Type 0 where
    pub hub : HubState ScriptState
    pub opens : Opens hub
    pub noting : IsNoting Asks picks hub forks r
    pub serial : IsSerial Asks picks hub r
    pub recording : IsRecordingOf hub r
    pub certified : IsCertified program r

  -- of the run by these picks there is no recording, or what was recorded isn't a run of the program
  pub record IsRefused (picks : List ℕ) : Type 0 where
    pub hub : HubState ScriptState
    pub opens : Opens hub
    pub refused : IsTurnedAway Asks picks hub ⊎ ((r : RecordingState) × IsSerial Asks picks hub r × (IsCertified program r → ⊥))

-- a way of the program's hub, by the numbers of choices, and one to its end
abbrev pub ComesTo : HubState ScriptState → List Fork → HubState ScriptState → Type 0
ComesTo hub forks h = Way (TakesTurn Asks) IsNumbered choice_count hub forks h

abbrev pub RunsFrom : HubState ScriptState → List Fork → HubState ScriptState → Type 0
RunsFrom hub forks h = ComesTo hub forks h × HasStopped h

-- the run that ends there was seen
abbrev pub IsSeen : HubState ScriptState → List Looked → Type 0
IsSeen h seen = (k : ℕ) × (looked : Looked) × (slice_get seen k ≡ Some looked) × IsRecorded h looked.run

-- the run that ends there was seen, or is skipped
abbrev pub IsSettled : Orders → HubState ScriptState → List Looked → Type 0
IsSettled orders h seen = IsSeen h seen ⊎ ((n : ℕ) × IsSkipped orders h.events n)

module _ (program : ProgramState) (limit : ℕ) where
  -- it is the run of the program by its picks, and the verdict is right
  pub record IsLooked (looked : Looked) : Type 0 where
    pub run : IsRunBy program limit looked.picks looked.run
    pub certified : IsCertified program looked.run
    pub verdict : HasVerdict (trace_of looked.run) looked.verdict

  -- every run was looked at: whatever run a list of picks leads to is among those that were seen
  abbrev pub EachRun : List Looked → Type 0
  EachRun seen = (picks : List ℕ) (r : RecordingState) → IsRunBy program limit picks r
      → (k : ℕ) × (looked : Looked) × (slice_get seen k ≡ Some looked) × (looked.run ≡ r)

  -- or each was up to the order of independent events
  abbrev pub EachOrder : List Looked → Type 0
  EachOrder seen = (picks : List ℕ) (r : RecordingState) → IsRunBy program limit picks r
      → (k : ℕ) × (looked : Looked) × (slice_get seen k ≡ Some looked) × IsSameRun r looked.run

  -- all that was wanted
  abbrev pub EachWanted : Orders → List Looked → Type 0
  EachWanted Orders.All seen = EachRun seen
  EachWanted Orders.One seen = EachOrder seen

  -- from the program's hub to its end the run by these picks takes these choices
  pub record TakesChoices (taken : List ℕ) (run : RecordingState) (forks : List Fork) : Type 0 where
    pub hub : HubState ScriptState
    pub last : HubState ScriptState
    pub opens : Opens program limit hub
    pub runs : RunsFrom hub forks last
    pub recorded : IsRecorded last run
    pub picks : HasPicks taken forks

  -- it comes earlier than one that takes these choices
  abbrev pub IsEarlier : List Fork → Looked → Type 0
  IsEarlier forks looked = (own : List Fork) × TakesChoices looked.picks looked.run own × Later own forks

  -- no run was looked at twice: of two the second comes later
  abbrev pub NoneTwice : List Looked → Type 0
  NoneTwice seen = (i k : ℕ) (a b : Looked) → i < k → slice_get seen i ≡ Some a → slice_get seen k ≡ Some b
      → (forks : List Fork) × TakesChoices b.picks b.run forks × IsEarlier forks a

  -- the last run that was looked at left a choice of a greater number at some event, so the walk isn't at its end
  pub record LeavesMore (seen : List Looked) : Type 0 where
    pub before : List Looked
    pub last : Looked
    pub last_is : seen ≡ before ++ last ∷ []
    pub forks : List Fork
    pub takes : TakesChoices last.picks last.run forks
    pub more : IsSome (next_picks forks)

  -- or a run that was skipped left one at one of the events by which it was
  pub record SkipsMore (orders : Orders) : Type 0 where
    pub skipped : Skipped
    pub forks : List Fork
    pub takes : TakesChoices skipped.picks skipped.run forks
    pub n : ℕ
    pub turned : IsSkipped orders skipped.run.events n
    pub more : IsSome (next_picks (take n forks))

  -- it is the run of the program by its picks, and is skipped
  abbrev pub IsSkippedRun : Orders → Skipped → Type 0
  IsSkippedRun orders s = IsRunBy program limit s.picks s.run × ((n : ℕ) × IsSkipped orders s.run.events n)

  -- the runs that weren't looked at are skipped, and so many runs were made in all
  pub record AreSkipped {A : Type 0} (orders : Orders) (seen : List Looked) (e : Explored A) : Type 0 where
    pub skipped : List Skipped
    pub made : e.made ≡ length seen + length skipped
    pub each : All (IsSkippedRun orders) skipped

  -- what the runs come to: these were looked at, and counted; all that are wanted, or of more as many as were to be made
  pub record IsExplored {A : Type 0} (most : ℕ) (orders : Orders) (e : Explored A) : Type 0 where
    pub seen : List Looked
    pub looked : All IsLooked seen
    pub counts : Counts seen e
    pub racy : AreRacy seen e.racy.items
    pub bad : AreBadEnds seen e.bad.items
    pub none_twice : NoneTwice seen
    pub wanted : All (λ looked. IsWanted orders looked.run.events) seen
    pub skipped : AreSkipped orders seen e
    pub whole : e.whole ≡ true → EachWanted orders seen
    pub stopped : e.whole ≡ false → (e.made ≡ most) × (LeavesMore seen ⊎ SkipsMore orders)

  -- the walk has come so far: each run is settled, or is left to the picks, which are none, or come next after some choices of the program's hub;
  -- the run by these picks comes later than each that was seen
  pub record IsWalked {A : Type 0} (orders : Orders) (picks : List ℕ) (e : Explored A) : Type 0 where
    pub seen : List Looked
    pub looked : All IsLooked seen
    pub counts : Counts seen e
    pub racy : AreRacy seen e.racy.items
    pub bad : AreBadEnds seen e.bad.items
    pub none_twice : NoneTwice seen
    pub wanted : All (λ looked. IsWanted orders looked.run.events) seen
    pub skipped : AreSkipped orders seen e
    pub left : (hub h : HubState ScriptState) (forks : List Fork) → Opens program limit hub → RunsFrom hub forks h → IsSettled orders h seen ⊎ IsLeft picks forks
    pub follows : (hub : HubState ScriptState) → Opens program limit hub
        → (picks ≡ []) ⊎ ((forks : List Fork) × (h : HubState ScriptState) × ComesTo hub forks h × (next_picks forks ≡ Some picks))
    pub earlier : (hub h : HubState ScriptState) (forks : List Fork) → Opens program limit hub → RunsFrom hub forks h → HasPicks picks forks
        → All (IsEarlier forks) seen
    pub few : All (λ pick. pick ≤ e.made) picks
    pub more : 0 < e.made → LeavesMore seen ⊎ SkipsMore orders

  -- and has come to its end
  pub record IsWalkedOut {A : Type 0} (orders : Orders) (e : Explored A) : Type 0 where
    pub seen : List Looked
    pub looked : All IsLooked seen
    pub counts : Counts seen e
    pub racy : AreRacy seen e.racy.items
    pub bad : AreBadEnds seen e.bad.items
    pub none_twice : NoneTwice seen
    pub wanted : All (λ looked. IsWanted orders looked.run.events) seen
    pub skipped : AreSkipped orders seen e
    pub each : EachWanted orders seen
