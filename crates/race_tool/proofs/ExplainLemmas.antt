-- What explain promises, by how it ends.
use Rattle.std.proofs.Common.{◌≡◌, ℕ, List, Option, Result, Ok, Err, MatchOption, [], refl, sym, subst, arith}
use Rattle.race_records.specs.declared.{sink.Sink.Sink, source.Source.Source}
use Rattle.race_records.specs.Devices.{unread}
use Rattle.race_text.specs.{declared.cause.TextFault.TextFault, Fault.trace_causes}
use Rattle.race_explain.specs.{Explained.IsFaultShown, Marked.{line_at, IsMarked}}
use Rattle.race_tool.specs.{declared.{explain.Explained.Explained, input.ReadFault.ReadFault}, Input.{IsInput, ReadsBy, ReadsInput, IsReadBy}}
use Rattle.race_tool.specs.{Explain.{Explains, IsExplaining, IsShownAlike, explained_text, explained_status, found}}
use Rattle.race_tool.specs.{Outcome.{Never, Sends, status_of_fault}, Reply.{reply_text, reply_status}}
use Rattle.race_tool.proofs.{EngineLemmas.{answers_sent_of, answers_by_fault, calmly}, KeptLines.same_line}
use Rattle.race_tool.specs.declared.status.TheConstants as status

-- a line that is the same is shown the same
pub shown_alike : (bytes whole : List ℕ) (fault : TextFault) (text : List ℕ) → line_at whole fault.line ≡ line_at bytes fault.line
    → IsFaultShown bytes fault text → IsFaultShown whole fault text
shown_alike bytes whole fault text same (put, shown, is) =
    (put, subst (λ (line : Option (List ℕ)). MatchOption line (put ≡ []) (λ l. IsMarked fault.cause l put)) (sym same) shown, is)

module _ {A R W V : Type 0} (IsText : V → List ℕ → Type 0) (remaining : R → Option (List ℕ)) (contents : W → Option (List ℕ))
    (source source_now : Source R) (sink : Sink W) (given : Result (Result V TextFault) ReadFault)
    (reads : ReadsInput IsText trace_causes remaining source source_now given) where
  -- the input was read
  module _ (text : Result V TextFault) (is : given ≡ Ok text) where
    -- and what there is to say of it was sent
    pub explained_sent : (was : ReadsBy IsText trace_causes (unread remaining source) (unread remaining source_now) text)
        → (explained : Explained A) (sink_now : Sink W) (answer : ℕ)
        → ((whole : List ℕ) → IsReadBy IsText trace_causes whole text → IsShownAlike was.bytes whole text → IsExplaining whole (found explained))
        → Sends contents sink sink_now (explained_text explained) (explained_status explained) answer
        → Explains A remaining contents source source_now sink sink_now answer
    explained_sent was explained sink_now answer right sends =
        answers_sent_of IsText trace_causes (IsExplaining {A = A}) (reply_text explained_text) (reply_status explained_status) Never
        remaining contents source source_now sink text was (calmly IsText trace_causes remaining source source_now given reads text is)
        (found explained) sink_now answer (λ whole is_input so. right whole so (alike text was whole is_input)) sends
      where
        alike : (t : Result V TextFault) (r : ReadsBy IsText trace_causes (unread remaining source) (unread remaining source_now) t)
            → (whole : List ℕ) → IsInput r.bytes r.to_end whole → IsShownAlike r.bytes whole t
        alike (Ok value) r whole is_input = tt
        alike (Err fault) r whole is_input = same_line trace_causes IsText _ _ fault r whole is_input

    -- or memory was refused for it
    pub explained_none : Explains A remaining contents source source_now sink sink status.REFUSED
    explained_none = record {
      told = λ granted served recorded. absurd (granted refl);
      refused = λ e. refl;
      mismatch = λ e. absurd (omega (arith, e));
      device = λ e. absurd (omega (arith, e));
      calm = λ served. (calmly IsText trace_causes remaining source source_now given reads text is, refl);
    }

  -- it wasn't read
  pub explained_unread : (fault : ReadFault) → given ≡ Err fault → (answer : ℕ) → answer ≡ status_of_fault fault
      → Explains A remaining contents source source_now sink sink answer
  explained_unread fault is answer same =
      answers_by_fault IsText trace_causes (IsExplaining {A = A}) (reply_text explained_text) (reply_status explained_status) Never
      remaining contents source source_now sink given reads fault is answer same
