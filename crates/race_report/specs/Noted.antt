-- The report of a verdict that is noted, from the notes and the declarations.
use Rattle.std.specs.{Prelude.{ℕ, if◌then◌else◌, Bool, List, ◌++◌, length, codes}, List.flat_map}
use Rattle.race_records.specs.Declarations.{DeclsState}
use Rattle.race_text.specs.Text.{goroutine_name, var_name, place_text}
use Rattle.race_verdict.specs.declared.report.{ReportedAccess.ReportedAccess, ReportedRace.ReportedRace, Report.Report}
use Rattle.race_legal.specs.Rules.{number_of}
use Rattle.race_report.specs.Report.{access_told, clean_text, illegal_line, race_told, races_line}

-- a write, or else a read, in a word
abbrev pub noted_word : Bool → List ℕ
noted_word write = (if write then codes "write" else codes "read")

abbrev pub access_noted : DeclsState → ReportedAccess → List (List ℕ)
access_noted decls n = access_told (noted_word n.write) (goroutine_name decls.declarations n.who) (place_text decls.places n.place) n.at

abbrev pub race_noted_line : DeclsState → ReportedRace → List ℕ
race_noted_line decls r = race_told (var_name decls.declarations r.var) (access_noted decls r.first) (access_noted decls r.second)

-- a line for each race, and their count
abbrev pub races_noted_text : DeclsState → List ReportedRace → List ℕ
races_noted_text decls races = flat_map (race_noted_line decls) races ++ races_line (length races)

-- the report of a verdict, from what is noted with it and the declarations
abbrev pub report_noted : {A : Type 0} → DeclsState → Report A → List ℕ
report_noted decls (Report.Illegal illegal) = illegal_line illegal.at (number_of illegal.rule)
report_noted decls (Report.Clean events accesses) = clean_text events accesses
report_noted decls (Report.Races races) = races_noted_text decls races.items
