-- How the program ends: with which status, and what was read and written.
use Rattle.std.specs.Prelude.{◌≡◌, ◌⊎◌, ◌==◌, ℕ, IsTrue, if◌then◌else◌, List, Option, Some, None, codes}
use Rattle.std.specs.declared.alloc.Global.{Global}
use Rattle.std.specs.{Option.option_map, String.string_bytes, declared.{io.{ErrorKind.{ErrorKind as IoErrorKind}}}}
use Rattle.clap.specs.declared.error.kind.ErrorKind.{ErrorKind}
use Rattle.race_records.specs.declared.{source.Source.Source, sink.Sink.Sink}
use Rattle.race_command.specs.{declared.command.Request.Request, Request.is_in_limits}
use Rattle.race_tool.specs.{Draw.Draws, Edges.Lists, Explain.Explains, Explore.Explores, Finding.Checks, Options.picks_asked, Predict.{Certifies, Predicts}}
use Rattle.race_tool.specs.{Race.Judges, Run.Runs, Witness.Shows}
use Rattle.std.specs.declared.io.ErrorKind.TheVariants as io
use Rattle.clap.specs.declared.error.kind.ErrorKind.TheVariants as kind
use Rattle.race_tool.specs.declared.status.TheConstants as status

-- what was asked for is done: what its engine promises of options in their limits holds
abbrev pub Does : {R W : Type 0} → Request → (R → Option (List ℕ)) → (W → Option (List ℕ)) → Source R → Source R → Sink W → Sink W → ℕ → Type 0
Does (Request.Check options) remaining contents source source_now sink sink_now answer =
    Checks options.plain remaining contents source source_now sink sink_now answer
Does Request.Explain remaining contents source source_now sink sink_now answer = Explains Global remaining contents source source_now sink sink_now answer
Does Request.Edges remaining contents source source_now sink sink_now answer = Lists Global remaining contents source source_now sink sink_now answer
Does (Request.Run options) remaining contents source source_now sink sink_now answer =
    Runs options.limit (picks_asked options) remaining contents source source_now sink sink_now answer
Does (Request.Race run check) remaining contents source source_now sink sink_now answer =
    Judges Global run.limit (picks_asked run) check.plain remaining contents source source_now sink sink_now answer
Does (Request.Explore options) remaining contents source source_now sink sink_now answer =
    Explores Global options remaining contents source source_now sink sink_now answer
Does (Request.Witness name) remaining contents source source_now sink sink_now answer =
    Shows Global (string_bytes name) remaining contents source source_now sink sink_now answer
Does (Request.Draw name svg) remaining contents source source_now sink sink_now answer =
    Draws Global (option_map string_bytes name) svg remaining contents source source_now sink sink_now answer
Does (Request.Predict options) remaining contents source source_now sink sink_now answer =
    Predicts Global options.most remaining contents source source_now sink sink_now answer
Does (Request.Certify name turned) remaining contents source source_now sink sink_now answer =
    Certifies Global (string_bytes name) remaining contents source source_now sink sink_now answer

-- the status where the words ask for no work: help or the version was printed or couldn't be, memory was refused, or else they are at fault
abbrev pub IsAnswerTo : ErrorKind → ℕ → Type 0
IsAnswerTo kind.OutOfMemory answer = answer ≡ status.REFUSED
IsAnswerTo kind.DisplayHelp answer = (answer ≡ status.CLEAN) ⊎ (answer ≡ status.DEVICE)
IsAnswerTo kind.DisplayVersion answer = (answer ≡ status.CLEAN) ⊎ (answer ≡ status.DEVICE)
IsAnswerTo _ answer = answer ≡ status.USAGE

-- the words ask for no work, and nothing was read or written
pub record Declines {R W : Type 0} (kind : ErrorKind) (source source_now : Source R) (sink sink_now : Sink W) (answer : ℕ) : Type 0 where
  pub answered : IsAnswerTo kind answer
  pub unread : source_now ≡ source
  pub unwritten : sink_now ≡ sink

-- how the program ends where there are words: one request is done, each of whose options is in its limits, or none is; which words ask for
-- which is clap's
abbrev pub Ends : {R W : Type 0} → (R → Option (List ℕ)) → (W → Option (List ℕ)) → Source R → Source R → Sink W → Sink W → ℕ → Type 0
Ends remaining contents source source_now sink sink_now answer =
    ((request : Request) × IsTrue (is_in_limits request) × Does request remaining contents source source_now sink sink_now answer)
    ⊎ ((kind : ErrorKind) × Declines kind source source_now sink sink_now answer)

-- the status where there are no words: memory was refused for them, or they aren't text
abbrev pub answer_without_words : IoErrorKind → ℕ
answer_without_words io.OutOfMemory = status.REFUSED
answer_without_words _ = status.USAGE

-- what is said of a status of which no report tells
abbrev pub message_of : ℕ → Option (List ℕ)
message_of answer =
    if answer == status.REFUSED then Some (codes "gorace: refused for memory or a thread")
    else if answer == status.DEVICE then Some (codes "gorace: reading or writing failed")
    else if answer == status.MISMATCH then Some (codes "gorace: recording failed its check")
    else None
