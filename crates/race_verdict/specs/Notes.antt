-- What is noted of a verdict, so that it can be printed without its events.
use Rattle.std.specs.Prelude.{◌≡◌, ⊤, All, IsTrue, List, length, map}
use Rattle.race_records.specs.declared.event.Event.{Event}
use Rattle.race_model.specs.Events.{At, count, is_access}
use Rattle.race_legal.specs.Rules.{number_of}
use Rattle.race_verdict.specs.declared.report.{ReportedAccess.ReportedAccess, ReportedRace.ReportedRace, Report.Report}
use Rattle.race_verdict.specs.Accesses.{is_write}
use Rattle.race_model.specs.Verdict as model

-- event n.at of the list is an access by goroutine n.who at place n.place, a write just where n.write
pub record IsNoteOf (events : List Event) (n : ReportedAccess) : Type 0 where
  pub event : Event
  pub stands : At events n.at event
  pub access : IsTrue (is_access event.op)
  pub write : is_write event.op ≡ n.write
  pub who : event.who ≡ n.who
  pub place : event.place ≡ n.place

-- both accesses of the race are noted of the list
abbrev pub IsNotedRaceOf : List Event → ReportedRace → Type 0
IsNotedRaceOf events r = IsNoteOf events r.first × IsNoteOf events r.second

-- the race as the model has it
abbrev pub race_noted : ReportedRace → model.Race
race_noted r = record { var = r.var; first = r.first.at; second = r.second.at }

-- what the verdict says
abbrev pub verdict_noted : {A : Type 0} → Report A → model.Verdict
verdict_noted (Report.Illegal illegal) = model.Illegal illegal.at (number_of illegal.rule)
verdict_noted (Report.Clean events accesses) = model.Clean
verdict_noted (Report.Races races) = model.Races (map race_noted races.items)

-- and what is noted with it is of the list: how many events and accesses it has, or both accesses of each race
abbrev pub IsNotedOf : {A : Type 0} → List Event → Report A → Type 0
IsNotedOf listed (Report.Illegal illegal) = ⊤
IsNotedOf listed (Report.Clean events accesses) = (events ≡ length listed) × (accesses ≡ count is_access listed)
IsNotedOf listed (Report.Races races) = All (IsNotedRaceOf listed) races.items
