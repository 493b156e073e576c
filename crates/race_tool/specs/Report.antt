-- What an engine prints beside the reports of race_report.
use Rattle.std.specs.{Prelude.{ℕ, List, [], ◌∷◌, codes}, List.concat}
use Rattle.race_records.specs.Declarations.{Declaration}
use Rattle.race_hub.specs.declared.ending.End.{End}
use Rattle.race_text.specs.Text.{goroutine_name}
use Rattle.race_report.specs.Report.{counted_line, newline}

-- there are more events than are judged
abbrev pub too_long_line : ℕ → List ℕ
too_long_line events = counted_line (codes "too long: ") events (codes " events")

-- how a run ended, in a word
abbrev pub end_word : End → List ℕ
end_word End.Main = codes "main"
end_word End.Fault = codes "fault"
end_word End.Deadlock = codes "deadlock"
end_word End.Limit = codes "limit"
end_word (End.Bad g) = codes "bad "

-- whose request was bad, if that ended it
abbrev pub end_name : List Declaration → End → List ℕ
end_name ds (End.Bad g) = goroutine_name ds g
end_name ds _ = []

-- how a run ended
unfoldable pub end_line : List Declaration → End → List ℕ
end_line ds end = concat (codes "end: " ∷ end_word end ∷ end_name ds end ∷ newline ∷ [])

-- the variable has no race, or the name is that of none
unfoldable pub no_race_line : List ℕ
no_race_line = concat (codes "no such race" ∷ newline ∷ [])
