-- What is found of a trace, by the plain judge or while it is read, is a right finding, and is printed so.
use Rattle.std.proofs.Common.{◌≡◌, ℕ, Bool, true, false, List, [], Option, Some, refl, sym, ap, ◌∙◌, append-nil, subst}
use Rattle.std.proofs.lemmas.Option.{none-some}
use Rattle.race_records.specs.Events.{TraceState}
use Rattle.race_verdict.specs.{declared.report.Report.Report, Notes.verdict_noted, Verdicts.verdict_of}
use Rattle.race_report.{specs.{Printable.AreNamed, Noted.report_noted}, proofs.NotedLemmas.report_is}
use Rattle.race_report.proofs.PrintableLemmas.{notes_are_named}
use Rattle.race_text.specs.{Fault.{trace_causes, text_fault}, Lines.first_fault, Stream.decls_of}
use Rattle.race_text.proofs.{FedLemmas.ended_fault_stays, TextFine.text_has_no_fault}
use Rattle.race_tool.specs.declared.{check.{Judged.{Judged as Plain}}, reply.Reply.Reply, stream_found.Noted.Noted}
use Rattle.race_tool.specs.Finding.{Faulty, TooLong, Judged, IsFinding, report_of, status_of}
use Rattle.race_tool.specs.{Findings.{IsJudged, judged_text, judged_status}, Input.Reads, Outcome.IsRightFor}
use Rattle.race_tool.specs.{Reply.{reply_text, reply_status}, Streams.{IsJudgedText, IsFoundOf, found_text, found_status, status_noted}}
use Rattle.race_tool.proofs.{EngineLemmas.StandsBehind, InputLemmas.itself}

pub status_is : {A : Type 0} (trace : TraceState) (verdict : Report A) → status_of (Judged trace (verdict_noted verdict)) ≡ status_noted verdict
status_is trace (Report.Illegal illegal) = refl
status_is trace (Report.Clean events accesses) = refl
status_is trace (Report.Races races) = refl

-- what was judged can be printed
pub is_named : {A : Type 0} (noted : Noted A) (bytes : List ℕ) → IsJudgedText noted.stream noted.verdict bytes → AreNamed (decls_of noted.stream) noted.verdict
is_named noted bytes is =
    subst (λ decls. AreNamed decls noted.verdict) is.decls
    (notes_are_named is.trace is.text.has_text.is_trace noted.verdict is.noted.right is.noted.notes)

-- a finding of the definition stands behind a right reply of the plain judge
pub stands_judged : {A : Type 0} (before after : Option (List ℕ)) (bytes : List ℕ) (to_end : Bool) (reply : Reply (Plain A))
    → Reads trace_causes before after bytes to_end → IsRightFor (λ bytes reply. IsJudged bytes reply) bytes to_end reply
    → StandsBehind (IsFinding true) report_of status_of bytes to_end (reply_text judged_text reply) (reply_status judged_status reply)
stands_judged before after bytes to_end (Reply.Faulty fault) read right =
    record { finding = Faulty fault; right = right; text_is = refl; status_is = refl }
stands_judged before after bytes to_end (Reply.TooLong events) read right = record {
  finding = TooLong events;
  right = λ whole is. let t = right whole is in (refl, (t.trace, t.text, t.holds.0, t.holds.1));
  text_is = refl;
  status_is = refl;
}
stands_judged before after bytes to_end (Reply.Found judged) read right = record {
  finding = Judged judged.trace (verdict_of judged.verdict);
  right = λ whole is. let (text, short, verdict) = right whole is in (text, (λ _. short), verdict);
  text_is = refl;
  status_is = refl;
}
stands_judged before after bytes to_end (Reply.Broken illegal) read right = absurd (right bytes (itself bytes to_end))
stands_judged before after bytes to_end Reply.NoRace read right = absurd (right bytes (itself bytes to_end))

-- and behind one of those that judge while it is read
pub stands_noted : {A : Type 0} (before after : Option (List ℕ)) (bytes : List ℕ) (to_end : Bool) (reply : Reply (Noted A))
    → Reads trace_causes before after bytes to_end → IsRightFor (λ bytes reply. IsFoundOf bytes reply) bytes to_end reply
    → StandsBehind (IsFinding false) report_of status_of bytes to_end (reply_text found_text reply) (reply_status found_status reply)
stands_noted before after bytes to_end (Reply.Faulty fault) read right =
    record { finding = Faulty fault; right = right; text_is = refl; status_is = refl }
stands_noted {A} before after bytes to_end (Reply.Found noted) read right = by to_end read (right bytes (itself bytes to_end))
  where
    by : (to_end : Bool) → Reads trace_causes before after bytes to_end → IsJudgedText noted.stream noted.verdict bytes
        → StandsBehind (IsFinding false) report_of status_of bytes to_end (found_text noted) (found_status noted)
    by true read is = record {
      finding = Judged is.trace (verdict_noted noted.verdict);
      right = λ all same. rw same (is.text, (λ plain. cc), is.noted.right);
      text_is = report_is is.trace noted.verdict is.noted.notes ∙ ap (λ decls. report_noted decls noted.verdict) is.decls;
      status_is = status_is is.trace noted.verdict;
    }
    -- a line of it would be at fault
    by false read is =
        let faulty : first_fault trace_causes bytes ≡ Some read.stops.fault =
        ap (first_fault trace_causes) (sym (append-nil bytes)) ∙ ended_fault_stays trace_causes bytes [] read.stops.fault read.stops.faulty in
        absurd (none-some read.stops.fault (sym (ap text_fault is.text.printed ∙ text_has_no_fault is.trace is.text.has_text) ∙ faulty))
stands_noted before after bytes to_end (Reply.TooLong events) read right = absurd (right bytes (itself bytes to_end))
stands_noted before after bytes to_end (Reply.Broken illegal) read right = absurd (right bytes (itself bytes to_end))
stands_noted before after bytes to_end Reply.NoRace read right = absurd (right bytes (itself bytes to_end))
