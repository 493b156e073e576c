-- Which reply is right where races of other runs are asked for.
use Rattle.std.specs.Prelude.{ℕ, ◌≡◌, ◌≤◌, ◌++◌, ◌&&◌, ◌==◌, if◌then◌else◌, nat_le, Bool, List, [], ◌∷◌, All, codes, length, Option, Some}
use Rattle.std.specs.List.{flat_map}
use Rattle.race_records.specs.{declared.{source.Source.Source, sink.Sink.Sink}, Events.TraceState}
use Rattle.race_model.specs.{Legal.IsLegal, Predict.IsPrediction, Verdict.Race}
use Rattle.race_text.specs.{Fault.{text_fault, trace_causes}, Text.{HasText, IsTextOf, text}}
use Rattle.race_verdict.specs.{declared.races.{Race.{Race as Found}}, Races.race_of, Traces.{capacities, HasVerdict}, Verdicts.verdict_of}
use Rattle.race_predict.specs.Certified.{IsPredictedRace}
use Rattle.race_report.specs.Report.{counted_line, race_line, report}
use Rattle.race_tool.specs.{declared.{predict.{PredictOptions.PredictOptions, Predicted.Predicted}, certify.Certified.Certified, reply.Reply.Reply}}
use Rattle.race_tool.specs.{Finding.{IsTextWhere, status_of_verdict}, Outcome.{Answers, Never}, Reply.{IsBrokenBy, reply_text, reply_status}}
use Rattle.race_tool.specs.Witness.{IsVar}
use Rattle.race_tool.specs.declared.status.TheConstants as status

-- the number of predictions that are asked for is in its limits
abbrev pub are_predict_limits : PredictOptions → Bool
are_predict_limits o = nat_le 1 o.most && nat_le o.most 65_535

-- the verdict is right for the trace, and each race that is told beside it is predicted; there are at most so many
pub record IsPredictedOf {A : Type 0} (most : ℕ) (found : Predicted A) : Type 0 where
  pub verdict : HasVerdict found.trace (verdict_of found.verdict)
  pub legal : IsLegal (capacities found.trace) found.trace.events
  pub predicted : All (IsPredictedRace found.trace) found.races.items
  pub not_more : length found.races.items ≤ most

-- the reply is right for the bytes
abbrev pub IsPredicting : {A : Type 0} → ℕ → List ℕ → Reply (Predicted A) → Type 0
IsPredicting most bytes (Reply.Faulty fault) = text_fault bytes ≡ Some fault
IsPredicting most bytes (Reply.Broken illegal) = IsTextWhere (IsBrokenBy illegal) bytes
IsPredicting most bytes (Reply.Found found) = IsTextOf found.trace bytes × IsPredictedOf most found
IsPredicting most bytes _ = ⊥

-- the line of a predicted race: its events have the numbers of the recorded trace
abbrev pub predicted_line : TraceState → Race → List ℕ
predicted_line trace race = codes "predicted " ++ race_line trace race

-- how many variables weren't searched to their end, if there are any
abbrev pub not_searched_line : ℕ → List ℕ
not_searched_line n = if n == 0 then [] else counted_line (codes "not searched: ") n (codes " variables")

-- and how many races are predicted
abbrev pub counts_text : ℕ → ℕ → List ℕ
counts_text not_searched count = not_searched_line not_searched ++ counted_line (codes "predicted: ") count []

-- a line for each predicted race, and the counts
abbrev pub predictions_text : TraceState → List Found → ℕ → List ℕ
predictions_text trace races not_searched =
    flat_map (λ race. predicted_line trace (race_of race)) races ++ counts_text not_searched (length races)

-- what is printed: the report of a check, and what is predicted
abbrev pub predicting_text : {A : Type 0} → Predicted A → List ℕ
predicting_text found =
    report found.trace (verdict_of found.verdict) ++ predictions_text found.trace found.races.items found.not_searched

-- and with which status: that of a race where one is predicted, else that of a check
abbrev pub predicting_status : {A : Type 0} → Predicted A → ℕ
predicting_status found = elim found.races.items [
  | [] ↦ status_of_verdict (verdict_of found.verdict)
  | race ∷ races ↦ status.RACES
]

-- the races of other runs were told, at most so many
abbrev pub Predicts : (A : Type 0) → {R W : Type 0} → ℕ → (R → Option (List ℕ)) → (W → Option (List ℕ)) → Source R → Source R → Sink W → Sink W → ℕ → Type 0
Predicts A most remaining contents source source_now sink sink_now answer =
    Answers trace_causes (IsPredicting {A = A} most) (reply_text predicting_text) (reply_status predicting_status) Never
    remaining contents source source_now sink sink_now answer

-- the other trace has a text and the same declarations, and shows a race on the variable of this name that the goroutines of the recorded one
-- could have had
pub record IsCertificateOn (name : List ℕ) (other recorded : TraceState) : Type 0 where
  pub has_text : HasText other
  pub decls : other.decls ≡ recorded.decls
  pub var : ℕ
  pub named : IsVar recorded name var
  pub prediction : IsPrediction (capacities recorded) recorded.events var other.events

-- the reply is right for the name and the bytes. That no race is told says only that none was found
abbrev pub IsCertifying : {A : Type 0} → List ℕ → List ℕ → Reply (Certified A) → Type 0
IsCertifying name bytes (Reply.Faulty fault) = text_fault bytes ≡ Some fault
IsCertifying name bytes (Reply.Broken illegal) = IsTextWhere (IsBrokenBy illegal) bytes
IsCertifying name bytes Reply.NoRace = IsTextWhere (λ trace. IsLegal (capacities trace) trace.events) bytes
IsCertifying name bytes (Reply.Found found) = IsTextWhere (IsCertificateOn name found.trace) bytes
IsCertifying name bytes (Reply.TooLong events) = ⊥

-- what is printed of a certificate: its trace
abbrev pub certified_text : {A : Type 0} → Certified A → List ℕ
certified_text found = text found.trace

-- and with which status
abbrev pub certified_status : {A : Type 0} → Certified A → ℕ
certified_status found = status.CLEAN

-- a run that shows a predicted race on the variable of this name was written
abbrev pub Certifies : (A : Type 0) → {R W : Type 0} → List ℕ → (R → Option (List ℕ)) → (W → Option (List ℕ)) → Source R → Source R → Sink W → Sink W → ℕ → Type 0
Certifies A name remaining contents source source_now sink sink_now answer =
    Answers trace_causes (IsCertifying {A = A} name) (reply_text certified_text) (reply_status certified_status) Never
    remaining contents source source_now sink sink_now answer
