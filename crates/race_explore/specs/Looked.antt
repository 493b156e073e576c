-- The runs that were looked at, and how many there are of each kind. (Our own)
use Rattle.std.specs.Prelude.{ℕ, ◌≡◌, ◌≤◌, ◌<◌, ◌+◌, ◌&&◌, cond, Bool, true, false, List, length, count_by}
use Rattle.race_records.specs.{declared.event.Event.Event, Events.TraceState}
use Rattle.race_model.specs.{Race.IsAccessOf, Verdict.{Race, Verdict, Clean, Races}}
use Rattle.race_verdict.specs.{declared.verdict.Verdict.{Verdict as Found}, Verdicts.verdict_of}
use Rattle.race_hub.specs.{declared.ending.End.End, Recording.RecordingState}
use Rattle.race_explore.specs.declared.{walk.TheConstants.MAX_RUNS, explored.Explored.Explored}

-- the recording's trace
abbrev pub trace_of : RecordingState → TraceState
trace_of r = record { decls = r.decls; events = r.events; spare = 0 }

-- a run that was looked at: its picks, what was recorded, and the verdict on its trace
pub record Looked : Type 0 where
  pub picks : List ℕ
  pub run : RecordingState
  pub verdict : Verdict

-- a run that was made, and wasn't looked at
pub record Skipped : Type 0 where
  pub picks : List ℕ
  pub run : RecordingState

-- so it was recorded, with this verdict
abbrev pub looked_of : {A : Type 0} → List ℕ → RecordingState → Found A → Looked
looked_of picks r verdict = record { picks = picks; run = r; verdict = verdict_of verdict }

-- both accesses of the race are accesses of these events
abbrev pub AreAccesses : List Event → Race → Type 0
AreAccesses events race = IsAccessOf events race.var race.first × IsAccessOf events race.var race.second

-- there is a race
abbrev pub is_racy_verdict : Verdict → Bool
is_racy_verdict (Races races) = true
is_racy_verdict _ = false

-- there is none
abbrev pub is_clean_verdict : Verdict → Bool
is_clean_verdict Clean = true
is_clean_verdict _ = false

abbrev pub is_main_end : End → Bool
is_main_end End.Main = true
is_main_end _ = false

abbrev pub is_deadlock_end : End → Bool
is_deadlock_end End.Deadlock = true
is_deadlock_end _ = false

abbrev pub is_fault_end : End → Bool
is_fault_end End.Fault = true
is_fault_end _ = false

-- no race, and main returned
abbrev pub is_clean_run : Verdict → End → Bool
is_clean_run verdict end = is_clean_verdict verdict && is_main_end end

-- how many runs there are, and of each kind
pub record Counts {A : Type 0} (seen : List Looked) (e : Explored A) : Type 0 where
  pub runs : e.runs ≡ length seen
  pub clean : e.clean ≡ count_by (λ looked. is_clean_run looked.verdict looked.run.end) seen
  pub races : e.races ≡ count_by (λ looked. is_racy_verdict looked.verdict) seen
  pub deadlocks : e.deadlocks ≡ count_by (λ looked. is_deadlock_end looked.run.end) seen
  pub faults : e.faults ≡ count_by (λ looked. is_fault_end looked.run.end) seen

-- one run more was counted, which ended so and has this verdict
pub record IsCounted {A : Type 0} (end : End) (verdict : Verdict) (old new : Explored A) : Type 0 where
  pub runs : new.runs ≡ old.runs + 1
  pub made : new.made ≡ old.made + 1
  pub clean : new.clean ≡ old.clean + cond (is_clean_run verdict end) 1 0
  pub races : new.races ≡ old.races + cond (is_racy_verdict verdict) 1 0
  pub deadlocks : new.deadlocks ≡ old.deadlocks + cond (is_deadlock_end end) 1 0
  pub faults : new.faults ≡ old.faults + cond (is_fault_end end) 1 0
  pub whole : new.whole ≡ old.whole

-- one run more was made, and skipped
abbrev pub one_skipped : {A : Type 0} → Explored A → Explored A
one_skipped e = record e { made = e.made + 1 }

-- no run more was
pub record HasSameCounts {A : Type 0} (old new : Explored A) : Type 0 where
  pub runs : new.runs ≡ old.runs
  pub made : new.made ≡ old.made
  pub clean : new.clean ≡ old.clean
  pub races : new.races ≡ old.races
  pub deadlocks : new.deadlocks ≡ old.deadlocks
  pub faults : new.faults ≡ old.faults
  pub whole : new.whole ≡ old.whole

-- there is room for one more
pub record IsBounded {A : Type 0} (e : Explored A) : Type 0 where
  pub runs : e.runs < MAX_RUNS
  pub made : e.made < MAX_RUNS
  pub clean : e.clean ≤ e.runs
  pub races : e.races ≤ e.runs
  pub deadlocks : e.deadlocks ≤ e.runs
  pub faults : e.faults ≤ e.runs
