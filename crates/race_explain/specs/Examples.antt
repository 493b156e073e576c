-- Small texts and a trace, and what is shown of them: src/examples.rt proves it.
use Rattle.std.specs.Prelude.{ℕ, List, [], ◌∷◌, codes}
use Rattle.race_records.specs.declared.{kind.Object.Object, version.Version.Version}
use Rattle.race_records.specs.Events.{TraceState}
use Rattle.race_text.specs.declared.cause.{TextCause.TextCause, TextFault.TextFault}
use Rattle.race_verdict.specs.{declared.races.Race.Race, Examples.write_and_read}

-- two lines
abbrev pub two_lines : List ℕ
two_lines = codes "gotrace 1\nvar x\n"

-- a tab between two letters
abbrev pub with_tab : List ℕ
with_tab = 118 ∷ 9 ∷ 114 ∷ []

-- a line has too few words or too many
abbrev pub wrong_count : ℕ → TextFault
wrong_count line = record { line = line; cause = TextCause.WrongCount }

-- main starts w, which writes the variable that main then reads; its text has the header, a line for w, one for x, and one for each event
abbrev pub trace : TraceState
trace = record {
  decls = record {
    version = Version.One;
    declarations = record { name = codes "w"; object = Object.Goroutine } ∷ record { name = codes "x"; object = Object.Var } ∷ [];
    places = codes "p" ∷ codes "q" ∷ codes "r" ∷ [];
  };
  events = write_and_read;
  spare = 0;
}

-- its race
abbrev pub race : Race
race = record { var = 0; first = 1; second = 2 }
