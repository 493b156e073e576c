-- What a recording on one thread makes of a hub, by its picks. (Our own)
use Rattle.std.specs.Prelude.{ℕ, ◌≡◌, ◌-◌, List, [], length, slice_get, Option, Some, None, IsSome, unwrap_or}
use Rattle.race_hub.specs.{declared.recording.Mismatch.Mismatch, Job.{JobState, asking}, Hub.{HubState, end_of}}
use Rattle.race_hub.specs.{Fires.IsFired, Submits.{Takes, Submits}, Recording.RecordingState}
use Rattle.race_hub.specs.Finish.{IsRecorded, IsMismatch}
use Rattle.race_requests.specs.declared.request.{Answer.Answer, Request.Request}

-- the pick of this number, 0 behind the last
abbrev pub pick_of : List ℕ → ℕ → ℕ
pick_of picks number = unwrap_or (slice_get picks number) 0

module _ {R : Type 0} (asks : R → Answer → Request → R → Type 0) where
  -- the job behind its turn: what it asked stays asked, else its routine goes on with the last answer up to its next request
  abbrev pub IsTurned : Option Request → JobState R → JobState R → Type 0
  IsTurned (Some asked) old new = new ≡ old
  IsTurned None old new = (asked : Request) × (routine : R) × asks old.routine old.answer asked routine × (new ≡ asking old routine asked)

  -- who has been ready longest takes its turn, and its request waits
  pub record TakesTurn (old new : HubState R) : Type 0 where
    -- the job that is taken, and behind its turn; the hub while it is out
    pub job : JobState R
    pub turned : JobState R
    pub between : HubState R
    pub running : end_of old ≡ None
    pub takes : Takes old job between
    pub turns : IsTurned job.asked job turned
    pub submits : Submits between turned new

  module _ (picks : List ℕ) (start : HubState R) where
    -- the hub comes to this state: whoever is ready takes a turn, and where nobody is the choice of the next pick happens
    pub data Comes : HubState R → Type 0 where
      begins : Comes start
      turns : (old new : HubState R) → Comes old → TakesTurn old new → Comes new
      fires : (old new : HubState R) → Comes old → old.ready ≡ []
          → IsFired (pick_of picks (length old.events - length start.events)) old new → Comes new

    -- it comes to its end, and no job is out
    pub record IsRunOut (h : HubState R) : Type 0 where
      pub comes : Comes h
      pub ended : IsSome (end_of h)
      pub back : h.out ≡ []

    -- what is recorded is that end
    abbrev pub IsSerial : RecordingState → Type 0
    IsSerial r = (h : HubState R) × Comes h × IsRecorded h r

    -- at that end there is a log that isn't its goroutine's part of the trace
    abbrev pub IsTurnedAway : Type 0
    IsTurnedAway = (h : HubState R) × Comes h × (g : ℕ) × IsMismatch h (Mismatch.Log g)
