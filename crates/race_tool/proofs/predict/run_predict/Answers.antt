use Rattle.std.proofs.Common.{get_or}
use Rattle.race_report.proofs.PrintableLemmas.{races_are_of}
use Rattle.race_tool.proofs.PredictLemmas.{is_of}
use Rattle.race_tool.proofs.predict.run_predict.Goals as goal

pub answer-requires-clause-printable : goal.answer-requires-clause-printable
answer-requires-clause-printable g c = λ bytes found right.
    let is_trace = right.0.has_text.is_trace in (
      races_are_of found.trace found.verdict is_trace right.1.verdict,
      λ k d within. is_of found.trace is_trace (get_or found.races.items k d) (right.1.predicted k d within),
    )
