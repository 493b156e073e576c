-- Which reply of the plain judge is right.
use Rattle.std.specs.Prelude.{ℕ, ◌≡◌, ◌≤◌, List, length, Some}
use Rattle.race_edges.specs.declared.fault.TheConstants.{MAX_PLAIN_EVENTS}
use Rattle.race_text.specs.{Fault.text_fault, Text.IsTextOf}
use Rattle.race_verdict.specs.{Traces.HasVerdict, Verdicts.verdict_of}
use Rattle.race_report.specs.Report.{report}
use Rattle.race_tool.specs.{declared.{check.Judged.Judged, reply.Reply.Reply}, Finding.{IsTextWhere, status_of_verdict}}
use Rattle.race_tool.specs.Reply.{IsTooLong}

-- the reply is right for the bytes
abbrev pub IsJudged : {A : Type 0} → List ℕ → Reply (Judged A) → Type 0
IsJudged bytes (Reply.Faulty fault) = text_fault bytes ≡ Some fault
IsJudged bytes (Reply.TooLong events) = IsTextWhere (IsTooLong events) bytes
IsJudged bytes (Reply.Found judged) =
    IsTextOf judged.trace bytes × (length judged.trace.events ≤ MAX_PLAIN_EVENTS) × HasVerdict judged.trace (verdict_of judged.verdict)
IsJudged bytes _ = ⊥

-- what is printed of a trace with its verdict
abbrev pub judged_text : {A : Type 0} → Judged A → List ℕ
judged_text judged = report judged.trace (verdict_of judged.verdict)

-- and with which status
abbrev pub judged_status : {A : Type 0} → Judged A → ℕ
judged_status judged = status_of_verdict (verdict_of judged.verdict)
