-- Which reply is right where all runs of a program are looked at, what is printed of it, and its status.
use Rattle.std.specs.Prelude.{ℕ, ◌≡◌, ◌==◌, ◌-◌, ◌++◌, ◌||◌, not, nat_lt, if◌then◌else◌, Bool, true, false, List, [], ◌∷◌, codes, decimal, Option, Some}
use Rattle.std.specs.List.{concat, flat_map, list_any}
use Rattle.race_records.specs.{declared.{source.Source.Source, sink.Sink.Sink}, Declarations.DeclsState, Devices.unread}
use Rattle.race_text.specs.Text.{goroutine_name, var_name, place_text}
use Rattle.race_verdict.specs.{declared.report.ReportedAccess.ReportedAccess, Traces.{IsClean, IsRacy}}
use Rattle.race_hub.specs.{declared.ending.End.End, Recording.RecordingState}
use Rattle.race_script.specs.{Fault.{text_fault, program_causes}, Program.ProgramState, Text.IsTextOf}
use Rattle.race_explore.specs.declared.{explored.{Explored.Explored, RacyVariable.RacyVariable}, stuck.{BadEnd.BadEnd, Standing.Standing}}
use Rattle.race_explore.specs.Walk.{IsExplored, IsRefused, IsRunBy, trace_of}
use Rattle.race_report.specs.Report.{newline}
use Rattle.race_tool.specs.declared.{explore.{ExploreOptions.ExploreOptions, ExploredProgram.ExploredProgram}, reply.Reply.Reply}
use Rattle.race_tool.specs.{Outcome.{Answers, ReadsWhere}, Reply.{reply_text, reply_status}, Run.IsProgramWhere}
use Rattle.race_explore.specs.Walk as walk
use Rattle.race_tool.specs.declared.status.TheConstants as status

-- both options are in their limits
abbrev pub are_explore_limits : ExploreOptions → Bool
are_explore_limits o = walk.are_explore_limits o.limit o.runs

-- the items one behind the other: the first behind this mark, each other one behind the second mark
abbrev pub listed : {X : Type 0} → (List ℕ → X → List ℕ) → List ℕ → List ℕ → List X → List ℕ
listed text mark next [] = []
listed text mark next (x ∷ xs) = text mark x ++ listed text next next xs

-- of what, and in how many of all runs
abbrev pub how_often : List ℕ → List ℕ → ℕ → ℕ → List ℕ
how_often what whose runs all = concat (what ∷ whose ∷ codes " in " ∷ decimal runs ∷ codes " of " ∷ decimal all ∷ codes " runs" ∷ [])

-- behind these words a goroutine at its place
abbrev pub place_of : DeclsState → List ℕ → ℕ → ℕ → List ℕ
place_of decls words who place = concat (words ∷ goroutine_name decls.declarations who ∷ codes " at " ∷ place_text decls.places place ∷ [])

abbrev pub standing_text : DeclsState → List ℕ → Standing → List ℕ
standing_text decls mark s = place_of decls mark s.who s.place

-- who stands where at an end
abbrev pub all_standing : DeclsState → List Standing → List ℕ
all_standing decls standing = listed (standing_text decls) (codes ": ") (codes ", ") standing

abbrev pub access_words : Bool → List ℕ
access_words write = if write then codes "write by " else codes "read by "

abbrev pub access_text : DeclsState → List ℕ → ReportedAccess → List ℕ
access_text decls mark a = mark ++ place_of decls (access_words a.write) a.who a.place

abbrev pub pick_text : List ℕ → ℕ → List ℕ
pick_text mark pick = concat (mark ∷ decimal pick ∷ [])

-- the picks of a run, at the end of a line; without one each is 0
abbrev pub picks_text : List ℕ → List ℕ
picks_text [] = codes "; with --picks 0\n"
picks_text (p ∷ picks) = listed pick_text (codes "; with --picks ") (codes ",") (p ∷ picks) ++ newline

-- the line of a variable with a race
abbrev pub racy_line : {A : Type 0} → DeclsState → ℕ → RacyVariable A → List ℕ
racy_line decls all v =
    how_often (codes "race on ") (var_name decls.declarations v.race.var) v.runs all
    ++ (access_text decls (codes ": ") v.race.first ++ (access_text decls (codes ", ") v.race.second ++ picks_text v.picks.items))

abbrev pub end_words : End → List ℕ
end_words End.Main = codes "end"
end_words End.Fault = codes "fault"
end_words End.Deadlock = codes "deadlock"
end_words End.Limit = codes "limit"
end_words (End.Bad g) = codes "bad request"

-- the line of runs that ended in the same way
abbrev pub bad_line : {A : Type 0} → DeclsState → ℕ → BadEnd A → List ℕ
bad_line decls all b =
    how_often (end_words b.end) [] b.runs all ++ (all_standing decls b.standing.items ++ picks_text b.picks.items)

-- there are more runs
abbrev pub stopped_line : Bool → ℕ → List ℕ
stopped_line whole made = if whole then [] else concat (codes "stopped after " ∷ decimal made ∷ codes " runs\n" ∷ [])

-- how many of the runs that were made were skipped, if any
abbrev pub skipped_line : ℕ → List ℕ
skipped_line skipped =
    if skipped == 0 then []
    else concat (codes "skipped: " ∷ decimal skipped ∷ codes " runs that differ from others only in the order of independent steps\n" ∷ [])

-- how many runs were judged, and of each kind
abbrev pub counts_line : {A : Type 0} → Explored A → List ℕ
counts_line e =
    concat (codes "runs: " ∷ decimal e.runs ∷ codes ", clean: " ∷ decimal e.clean ∷ codes ", races: " ∷ decimal e.races
    ∷ codes ", deadlocks: " ∷ decimal e.deadlocks ∷ codes ", faults: " ∷ decimal e.faults ∷ newline ∷ [])

-- whether there are more runs, how many were skipped, and how many were judged
abbrev pub totals_text : {A : Type 0} → Explored A → List ℕ
totals_text e = stopped_line e.whole e.made ++ (skipped_line (e.made - e.runs) ++ counts_line e)

-- what the runs come to, by the program's declarations
abbrev pub runs_text : {A : Type 0} → DeclsState → Explored A → List ℕ
runs_text decls e = flat_map (racy_line decls e.runs) e.racy.items ++ (flat_map (bad_line decls e.runs) e.bad.items ++ totals_text e)

abbrev pub explored_text : {A : Type 0} → ExploredProgram A → List ℕ
explored_text found = runs_text found.program.decls found.explored

abbrev pub is_limit_end : End → Bool
is_limit_end End.Limit = true
is_limit_end _ = false

-- some run has reached the limit
abbrev pub reaches_limit : {A : Type 0} → List (BadEnd A) → Bool
reaches_limit ends = list_any (λ b. is_limit_end b.end) ends

-- the status: there are races, or else how runs end, or else whether all runs were looked at
abbrev pub status_of_explored : {A : Type 0} → Explored A → ℕ
status_of_explored e =
    if nat_lt 0 e.races then status.RACES
    else (if nat_lt 0 e.faults then status.FAILED
    else (if nat_lt 0 e.deadlocks then status.DEADLOCK
    else (if not e.whole || reaches_limit e.bad.items then status.LIMIT
    else (if nat_lt e.clean e.runs then status.BAD_REQUEST else status.CLEAN))))

-- the reply is right for the bytes
abbrev pub IsExploring : {A : Type 0} → ExploreOptions → List ℕ → Reply (ExploredProgram A) → Type 0
IsExploring o bytes (Reply.Faulty fault) = text_fault bytes ≡ Some fault
IsExploring o bytes (Reply.Found found) =
    IsTextOf found.program bytes × IsExplored found.program o.limit o.runs o.orders found.explored
IsExploring o bytes _ = ⊥

-- the bytes are the text of a program of which a run can't be recorded
abbrev pub IsUnexplored : ℕ → List ℕ → Type 0
IsUnexplored limit = IsProgramWhere (λ program. (picks : List ℕ) × IsRefused program limit picks)

-- each run of the program, by any picks, has no race, and main returned in it
abbrev pub EachRunIsClean : ℕ → ProgramState → Type 0
EachRunIsClean limit program = (picks : List ℕ) (r : RecordingState) → IsRunBy program limit picks r → IsClean (trace_of r) × (r.end ≡ End.Main)

-- of some run of the program, by some picks, this holds
pub record HasRunWhere (limit : ℕ) (Holds : RecordingState → Type 0) (program : ProgramState) : Type 0 where
  pub picks : List ℕ
  pub run : RecordingState
  pub by_picks : IsRunBy program limit picks run
  pub holds : Holds run

-- all runs of a program were looked at, or one order of each, or as many as were wanted. With CLEAN no run at all has a race, and main returns in each; with RACES
-- one has a race; with FAILED and DEADLOCK one ends so
pub record Explores (A : Type 0) {R W : Type 0} (o : ExploreOptions) (remaining : R → Option (List ℕ)) (contents : W → Option (List ℕ))
    (source source_now : Source R) (sink sink_now : Sink W) (answer : ℕ) : Type 0 where
  pub answers : Answers program_causes (IsExploring {A = A} o) (reply_text explored_text)
      (reply_status (λ found. status_of_explored found.explored)) (IsUnexplored o.limit) remaining contents source source_now sink sink_now answer
  pub clean : answer ≡ status.CLEAN
      → ReadsWhere (IsProgramWhere (EachRunIsClean o.limit)) (unread remaining source) (unread remaining source_now)
  pub races : answer ≡ status.RACES
      → ReadsWhere (IsProgramWhere (HasRunWhere o.limit (λ r. IsRacy (trace_of r)))) (unread remaining source) (unread remaining source_now)
  pub failed : answer ≡ status.FAILED
      → ReadsWhere (IsProgramWhere (HasRunWhere o.limit (λ r. r.end ≡ End.Fault))) (unread remaining source) (unread remaining source_now)
  pub deadlock : answer ≡ status.DEADLOCK
      → ReadsWhere (IsProgramWhere (HasRunWhere o.limit (λ r. r.end ≡ End.Deadlock))) (unread remaining source) (unread remaining source_now)
