-- How the program ends, by what was asked for.
use Rattle.std.proofs.Common.{◌≡◌, ◌&&◌, inl, inr, ℕ, true, List, Option, Result, Ok, Err, IfOk, IfErr, IsTrue, Global}
use Rattle.std.{proofs.Common.{ap, subst, sym, ◌∙◌}, specs.{declared.{io.{Error.{Error as IoError}}}}}
use Rattle.std.specs.IoError.{error_kind}
use Rattle.clap.specs.{declared.error.Error.Error, Values.kind_of}
use Rattle.race_records.specs.declared.{source.Source.Source, sink.Sink.Sink}
use Rattle.race_command.specs.{declared.command.Request.Request, Ending.{Does, Declines, Ends, answer_without_words}}
use Rattle.race_command.specs.Request.{is_in_limits}
use Rattle.race_tool.specs.declared.{check.CheckOptions.CheckOptions, run.RunOptions.RunOptions}
use Rattle.race_tool.specs.{Outcome.are_in_limits, Options.{are_run_limits, picks_asked}, Race.Judges}
use Rattle.std.specs.declared.io.ErrorKind.TheVariants as io
use Rattle.clap.specs.declared.error.kind.ErrorKind.TheVariants as kind

-- the options of a run that is to be judged are in their limits
pub both_in_limits : {request : Result Request Error} {asked : Request} {run : RunOptions Global} {check : CheckOptions}
    → request ≡ Ok asked → asked ≡ Request.Race run check
    → IfOk request (λ asked. IsTrue (is_in_limits asked)) → are_run_limits run && are_in_limits check ≡ true
both_in_limits is race limits = subst (λ r. IsTrue (is_in_limits r)) race (subst (λ r. IfOk r (λ asked. IsTrue (is_in_limits asked))) is limits)

module _ {R W : Type 0} (remaining : R → Option (List ℕ)) (contents : W → Option (List ℕ))
    (source source_now : Source R) (sink sink_now : Sink W) (answer : ℕ) where
  -- a request ends as it asks, and an error as an answer
  pub ends_as_asked : (request : Result Request Error) → IfOk request (λ asked. IsTrue (is_in_limits asked))
      → IfOk request (λ asked. Does asked remaining contents source source_now sink sink_now answer)
      → IfErr request (λ error. Declines (kind_of error) source source_now sink sink_now answer)
      → Ends remaining contents source source_now sink sink_now answer
  ends_as_asked (Ok asked) limits does none = inl (asked, limits, does)
  ends_as_asked (Err error) limits does none = inr (kind_of error, none)

  -- words for which memory was refused end as those do for which it is refused later
  pub ends_with_words : {A T : Type 0} (args : Result A IoError) (words : Result T IoError)
      → IfOk args (λ a. IfErr words (λ error. error_kind error ≡ io.OutOfMemory))
      → IfOk words (λ w. Ends remaining contents source source_now sink sink_now answer)
      → IfErr words (λ error. (answer ≡ answer_without_words (error_kind error)) × (source_now ≡ source) × (sink_now ≡ sink))
      → IfOk args (λ a. Ends remaining contents source source_now sink sink_now answer)
  ends_with_words (Ok a) (Ok w) memory ends none = ends
  ends_with_words (Ok a) (Err error) memory ends none =
      inr (kind.OutOfMemory, record { answered = none.0 ∙ ap answer_without_words memory; unread = none.1; unwritten = none.2 })
  ends_with_words (Err error) words memory ends none = tt

  -- a run that is judged as was asked
  pub judges_as_asked : {request : Result Request Error} {asked : Request} {run : RunOptions Global} {check : CheckOptions}
      → request ≡ Ok asked → asked ≡ Request.Race run check
      → Judges Global run.limit (picks_asked run) check.plain remaining contents source source_now sink sink_now answer
      → IfOk request (λ asked. Does asked remaining contents source source_now sink sink_now answer)
  judges_as_asked is race judges =
      subst (λ r. IfOk r (λ asked. Does asked remaining contents source source_now sink sink_now answer)) (sym is)
      (subst (λ r. Does r remaining contents source source_now sink sink_now answer) (sym race) judges)
