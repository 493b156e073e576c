-- Choices of runs, three runs that were looked at, and what is told of them: src/examples.rt proves it.
use Rattle.std.specs.Prelude.{ℕ, ◌≡◌, ◌+◌, true, false, List, [], ◌∷◌, codes, None}
use Rattle.race_records.specs.{declared.{kind.Object.Object, version.Version.Version}}
use Rattle.race_records.specs.declared.event.{Event.Event, Op.TheVariants.Exit}
use Rattle.race_model.specs.Verdict.{Verdict, Clean, Races}
use Rattle.race_verdict.specs.{declared.report.ReportedRace.ReportedRace, Examples.{does, write_and_read, note}}
use Rattle.race_requests.specs.declared.request.{Ask.Ask, Waiter.Waiter}
use Rattle.race_hub.specs.{declared.ending.End.End, Recording.RecordingState}
use Rattle.race_record.specs.declared.noting.Fork.{Fork}
use Rattle.race_explore.specs.declared.{explored.{Explored.Explored, RacyVariable.RacyVariable}, stuck.{BadEnd.BadEnd, Standing.Standing}}
use Rattle.race_explore.specs.{Looked.Looked, Told.CountsOne}

-- an event by the choice of this number, where there is one of the next number
abbrev pub more : ℕ → Fork
more pick = record { pick = pick; more = true }

-- or where there is none
abbrev pub last : ℕ → Fork
last pick = record { pick = pick; more = false }

-- a goroutine stands at a place, where it waits to receive from nil
abbrev pub at : ℕ → ℕ → Standing
at who place = record { who = who; place = place }

abbrev pub waits : ℕ → ℕ → Waiter
waits who place = record { who = who; asked = record { ask = Ask.Recv None; place = place } }

-- a run of main and w, of which w asked first, with these events and this end
abbrev pub ended : List Event → End → RecordingState
ended events end = record {
  decls = record { version = Version.One; declarations = record { name = codes "w"; object = Object.Goroutine } ∷ []; places = [] };
  events = events;
  logs = [];
  waiting = waits 1 4 ∷ waits 0 3 ∷ [];
  end = end;
}

-- w wrote what main then read
abbrev pub race : ReportedRace
race = record { var = 0; first = note 1 1 true 1; second = note 2 0 false 2 }

abbrev pub races : Verdict
races = Races (record { var = 0; first = 1; second = 2 } ∷ [])

-- main alone returned; w and main raced, and main returned; they raced, and there was a deadlock
abbrev pub first_run : Looked
first_run = record { picks = 0 ∷ []; run = ended (does 0 Exit 0 ∷ []) End.Main; verdict = Clean }

abbrev pub second_run : Looked
second_run = record { picks = 1 ∷ []; run = ended write_and_read End.Main; verdict = races }

abbrev pub third_run : Looked
third_run = record { picks = 2 ∷ []; run = ended write_and_read End.Deadlock; verdict = races }

abbrev pub three : List Looked
three = first_run ∷ second_run ∷ third_run ∷ []

-- it says that so many are clean, have a race, and end in a deadlock, of three
abbrev pub Says : Explored (Unit {0}) → ℕ → ℕ → ℕ → Type 0
Says e clean races deadlocks =
    (e.runs ≡ 3) × (e.clean ≡ clean) × (e.races ≡ races) × (e.deadlocks ≡ deadlocks) × (e.faults ≡ 0)

-- it tells of the race in so many runs, and the first of them is by this pick
abbrev pub Tells : RacyVariable (Unit {0}) → ℕ → ℕ → Type 0
Tells v runs pick = (v.race ≡ race) × (v.runs ≡ runs) × (v.picks.items ≡ pick ∷ [])

-- it reports one run, the third, that ended so
abbrev pub Reports : BadEnd (Unit {0}) → End → List Standing → Type 0
Reports b end standing = (b.end ≡ end) × (b.standing.items ≡ standing) × (b.runs ≡ 1) × (b.picks.items ≡ 2 ∷ [])

-- numbers with their counts: this one counts one more
abbrev pub CountsNumber : ℕ → List (ℕ × ℕ) → List (ℕ × ℕ) → Type 0
CountsNumber n old new = CountsOne {E = ℕ × ℕ} (λ (p : ℕ × ℕ). p.0 ≡ n) (λ (p : ℕ × ℕ). (p.0, p.1 + 1)) (λ (p : ℕ × ℕ). p ≡ (n, 1)) old new
