-- What is noted of a run on one thread: of each event its pick, and whether there was a choice of the next number, too. (Our own)
use Rattle.std.specs.Prelude.{ℕ, ◌≡◌, ◌+◌, ◌<◌, ◌^◌, ◌++◌, All, nat_lt, List, [], ◌∷◌, length, IsSome}
use Rattle.race_hub.specs.{Hub.{HubState, choices_of, end_of}, Fires.IsFired, Recording.RecordingState, Finish.IsRecorded}
use Rattle.race_requests.specs.declared.request.{Answer.Answer, Request.Request}
use Rattle.race_record.specs.{declared.noting.Fork.Fork, Serial.{pick_of, TakesTurn}}

-- a number comes after each pick
abbrev pub HaveNext : List ℕ → Type 0
HaveNext picks = All (λ pick. pick + 1 < 2 ^ 64) picks

-- the event by this pick that comes next in that state
abbrev pub fork_at : {R : Type 0} → HubState R → ℕ → Fork
fork_at h pick = record { pick = pick; more = nat_lt (pick + 1) (length (choices_of h)) }

module _ {R : Type 0} (asks : R → Answer → Request → R → Type 0) (picks : List ℕ) (start : HubState R) where
  -- the hub comes to this state, as on one thread, and these are the events of its way there
  pub data Notes : List Fork → HubState R → Type 0 where
    no_event : Notes [] start
    turn : (forks : List Fork) (old new : HubState R) → Notes forks old → TakesTurn asks old new → Notes forks new
    event : (forks : List Fork) (old new : HubState R) → Notes forks old → old.ready ≡ []
        → IsFired (pick_of picks (length forks)) old new → Notes (forks ++ fork_at old (pick_of picks (length forks)) ∷ []) new

  -- it comes to its end, and no job is out
  pub record IsNotedOut (forks : List Fork) (h : HubState R) : Type 0 where
    pub notes : Notes forks h
    pub ended : IsSome (end_of h)
    pub back : h.out ≡ []

  -- what is recorded is that end
  abbrev pub IsNoting : List Fork → RecordingState → Type 0
  IsNoting forks r = (h : HubState R) × Notes forks h × IsRecorded h r
