-- What a job that is put back does to the hub. (Our own; compare The Go Programming Language Specification, "Go statements";
-- package sync)
use Rattle.std.specs.Prelude.{ℕ, ◌≡◌, ◌==◌, ◌&&◌, not, if◌then◌else◌, Bool, false, List, [], ◌∷◌, ◌++◌, remove, Some}
use Rattle.std.specs.{Prelude.{None, is_none, is_some, slice_get, slice_set}, List.{list_any, position_or_len}}
use Rattle.race_requests.specs.{declared.request.{Request.Request, Waiter.Waiter}, Sound.is_bad_among}
use Rattle.race_hub.specs.{Job.JobState, Hub.{HubState, end_of}}

-- it is bad in the hub
abbrev pub is_bad : {R : Type 0} → HubState R → Waiter → Bool
is_bad h w = is_bad_among h.decls h.events h.waiting w

-- the job is one that was taken from the hub and has asked since
abbrev pub is_back : {R : Type 0} → HubState R → JobState R → Bool
is_back h job = is_some job.asked && list_any (λ o. o == job.who) h.out

-- it isn't
abbrev pub is_stray : {R : Type 0} → HubState R → JobState R → Bool
is_stray h job = not (is_back h job)

-- the hub hasn't ended, and the job's request is bad
abbrev pub ends_hub : {R : Type 0} → HubState R → JobState R → Bool
ends_hub h job = elim job.asked [ None ↦ false | Some asked ↦ is_none (end_of h) && is_bad h (record { who = job.who; asked = asked }) ]

-- the numbers without the first that is g
abbrev pub without_first : ℕ → List ℕ → List ℕ
without_first g numbers = remove numbers (position_or_len (λ o. o == g) numbers)

-- the first that was ready is out, with its routine and its log, and the rest stays
pub record Takes {R : Type 0} (old : HubState R) (job : JobState R) (new : HubState R) : Type 0 where
  pub ready : old.ready ≡ (job.who, job.answer) ∷ new.ready
  pub routine : slice_get old.routines job.who ≡ Some (Some job.routine)
  pub log : slice_get old.logs job.who ≡ Some job.log
  pub asked : job.asked ≡ None
  pub out : new.out ≡ old.out ++ job.who ∷ []
  pub routines : new.routines ≡ slice_set old.routines job.who None
  pub logs : new.logs ≡ slice_set old.logs job.who []
  pub same : (new.decls ≡ old.decls) × (new.events ≡ old.events) × (new.limit ≡ old.limit) × (new.waiting ≡ old.waiting) × (new.bad ≡ old.bad)

-- the job waits behind the others with what it asked, its routine and its log are in their places, and it isn't out
pub record Submits {R : Type 0} (old : HubState R) (job : JobState R) (new : HubState R) : Type 0 where
  pub asked : Request
  pub asks : job.asked ≡ Some asked
  pub waiting : new.waiting ≡ old.waiting ++ record { who = job.who; asked = asked } ∷ []
  pub out : new.out ≡ without_first job.who old.out
  pub routines : new.routines ≡ slice_set old.routines job.who (Some job.routine)
  pub logs : new.logs ≡ slice_set old.logs job.who job.log
  -- where the hub hasn't ended and the request is bad, it ends the hub
  pub bad : new.bad ≡ (if ends_hub old job then Some job.who else old.bad)
  pub same : (new.decls ≡ old.decls) × (new.events ≡ old.events) × (new.limit ≡ old.limit) × (new.ready ≡ old.ready)
