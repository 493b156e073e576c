-- What can be printed of a trace by name.
use Rattle.std.specs.Prelude.{◌<◌, All, length, ⊤}
use Rattle.race_records.specs.{declared.kind.Kind.Kind, Declarations.{DeclsState, count_of}, Events.TraceState}
use Rattle.race_model.specs.Verdict.{Race}
use Rattle.race_verdict.specs.declared.report.{ReportedAccess.ReportedAccess, ReportedRace.ReportedRace, Report.Report}
use Rattle.race_verdict.specs.{declared.verdict.Verdict.Verdict, Races.race_of}
use Rattle.race_edges.specs.declared.edge_list.Edge.{Edge}

-- the numbers of the race are the trace's
pub record IsOf (trace : TraceState) (race : Race) : Type 0 where
  pub var : race.var < count_of Kind.Var trace.decls.declarations
  pub first : race.first < length trace.events
  pub second : race.second < length trace.events

-- so are those of each race of the verdict
abbrev pub RacesAreOf : {A : Type 0} → TraceState → Verdict A → Type 0
RacesAreOf trace (Verdict.Races races) = All (λ r. IsOf trace (race_of r)) races
RacesAreOf trace _ = ⊤

-- the goroutine and the place of the access are declared
pub record IsNoteNamed (decls : DeclsState) (n : ReportedAccess) : Type 0 where
  pub who : n.who < count_of Kind.Goroutine decls.declarations
  pub place : n.place < length decls.places

-- so are those of both accesses of the race, and its variable
pub record IsRaceNamed (decls : DeclsState) (r : ReportedRace) : Type 0 where
  pub var : r.var < count_of Kind.Var decls.declarations
  pub first : IsNoteNamed decls r.first
  pub second : IsNoteNamed decls r.second

-- and those of each race of the verdict
abbrev pub AreNamed : {A : Type 0} → DeclsState → Report A → Type 0
AreNamed decls (Report.Races races) = All (IsRaceNamed decls) races.items
AreNamed decls _ = ⊤

-- the goroutines of the edge are the trace's
pub record IsEdgeOf (trace : TraceState) (edge : Edge) : Type 0 where
  pub from_who : edge.from_who < count_of Kind.Goroutine trace.decls.declarations
  pub to_who : edge.to_who < count_of Kind.Goroutine trace.decls.declarations
