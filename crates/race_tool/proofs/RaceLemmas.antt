-- What is found of a judged run, by what is known of its parts.
use Rattle.std.proofs.Common.{ℕ, ◌≡◌, ◌≢◌, ◌<◌, ◌≤◌, ◌++◌, List, map, length, Bool, Option, Some, None, sym, ap, subst}
use Rattle.std.proofs.Common.{◌∙◌, arith}
use Rattle.race_records.specs.{declared.event.Event.Event, Declarations.{DeclsState, capacity_of}, Equality.declared}
use Rattle.race_records.specs.{Events.TraceState, TraceEquality.{placed, recorded}}
use Rattle.race_model.specs.{Legal.IsLegal, Verdict.{Verdict, IsVerdict, Illegal, Clean, Races}}
use Rattle.race_model.proofs.Uniqueness.{illegal_not_legal}
use Rattle.race_edges.specs.declared.fault.TheConstants.{MAX_PLAIN_EVENTS}
use Rattle.race_verdict.specs.{Traces.{capacities, HasVerdict, IsClean, IsRacy}, Verdicts.verdict_of}
use Rattle.race_hub.specs.{declared.ending.End.End, Recording.RecordingState}
use Rattle.race_script.{specs.{Fault.text_fault, Program.ProgramState}, proofs.TextFine.text_has_no_fault}
use Rattle.race_report.{specs.Report.report, proofs.PrintableLemmas.races_are_of}
use Rattle.race_tool.specs.{declared.{race.JudgedRun.JudgedRun, reply.Reply.Reply}, Finding.IsVerdictOn, Reply.reply_status}
use Rattle.race_tool.specs.{Outcome.IsOfAFinding, Race.{HasRunWhere, IsJudged, IsJudgedRun, RacesAreOfRun, judged_status}}
use Rattle.race_tool.specs.{Race.status_of_verdict, Report.end_line, Run.{trace_of, HasRun, IsProgramWhere, status_of_end}}
use Rattle.race_tool.proofs.{OneReport.report_same, RunLemmas.{trace_stays, end_own}, StatusLemmas.{is_clean, is_racy}}
use Rattle.race_tool.proofs.StatusLemmas.{small, large}
use Rattle.race_tool.specs.declared.status.TheConstants as status

-- a verdict on a trace is one on each that has the same declarations and events
pub verdict_stays : (plain : Bool) (t u : TraceState) (verdict : Option Verdict) → t.decls ≡ u.decls → t.events ≡ u.events
    → IsVerdictOn plain t verdict → IsVerdictOn plain u verdict
verdict_stays plain t u None decls_are events_are (plainly, over) =
    (plainly, subst (λ (es : List Event). MAX_PLAIN_EVENTS < length es) events_are over)
verdict_stays plain t u (Some verdict) decls_are events_are (short, right) = (
  λ wanted. subst (λ (es : List Event). length es ≤ MAX_PLAIN_EVENTS) events_are (short wanted),
  subst (λ (d : DeclsState). IsVerdict (capacity_of d.declarations) u.events verdict) decls_are
      (subst (λ (es : List Event). IsVerdict (capacities t) es verdict) events_are right),
)

-- and has the same report
module _ (r : RecordingState) (trace : TraceState) (decls_are : trace.decls ≡ r.decls) (events_are : trace.events ≡ r.events) where
  same_record : recorded trace ≡ recorded (trace_of r)
  same_record = (λ i. record { declared = declared (decls_are i); events = map (placed (decls_are i).places) (events_are i) })

  pub same_report : (verdict : Verdict) (end : End) → end ≡ r.end
      → report trace verdict ++ end_line trace.decls.declarations end ≡ report (trace_of r) verdict ++ end_line r.decls.declarations r.end
  same_report verdict end is =
      λ i. report_same trace (trace_of r) same_record verdict i ++ end_line (decls_are i).declarations (is i)

-- no end has the status of races
no_end_races : (end : End) → status_of_end end ≡ status.RACES → ⊥
no_end_races End.Main is = absurd (omega (arith, is))
no_end_races End.Fault is = absurd (omega (arith, is))
no_end_races End.Deadlock is = absurd (omega (arith, is))
no_end_races End.Limit is = absurd (omega (arith, is))
no_end_races (End.Bad g) is = absurd (omega (arith, is))

no_end_is_illegal : (end : End) → status_of_end end ≡ status.ILLEGAL → ⊥
no_end_is_illegal End.Main is = absurd (omega (arith, is))
no_end_is_illegal End.Fault is = absurd (omega (arith, is))
no_end_is_illegal End.Deadlock is = absurd (omega (arith, is))
no_end_is_illegal End.Limit is = absurd (omega (arith, is))
no_end_is_illegal (End.Bad g) is = absurd (omega (arith, is))

-- what a status says of a verdict on a legal trace
module _ (trace : TraceState) (end : End) where
  never_illegal_on : (v : Verdict) → HasVerdict trace v → IsLegal (capacities trace) trace.events → status_of_verdict end v ≢ status.ILLEGAL
  never_illegal_on (Illegal index rule) right legal is = illegal_not_legal (capacities trace) trace.events index rule right legal
  never_illegal_on Clean right legal is = no_end_is_illegal end is
  never_illegal_on (Races races) right legal is = absurd (omega (arith, is))

  clean_on : (v : Verdict) → HasVerdict trace v → status_of_verdict end v ≡ status.CLEAN → IsClean trace
  clean_on (Illegal index rule) right is = absurd (omega (arith, is))
  clean_on Clean right is = is_clean trace right
  clean_on (Races races) right is = absurd (omega (arith, is))

  racy_on : (v : Verdict) → HasVerdict trace v → status_of_verdict end v ≡ status.RACES → IsRacy trace
  racy_on (Illegal index rule) right is = absurd (omega (arith, is))
  racy_on Clean right is = absurd (no_end_races end is)
  racy_on (Races races) right is = is_racy trace races right

-- no event of a run breaks a rule
module _ {A : Type 0} (limit : ℕ) (picks : Option (List ℕ)) (plain : Bool) (bytes : List ℕ) where
  pub never_illegal : (reply : Reply (JudgedRun A)) → IsJudgedRun limit picks plain bytes reply → reply_status judged_status reply ≢ status.ILLEGAL
  never_illegal (Reply.Faulty fault) right is = absurd (omega (arith, is))
  never_illegal (Reply.TooLong events) right is = absurd (omega (arith, is))
  never_illegal (Reply.Broken illegal) right is = right
  never_illegal Reply.NoRace right is = right
  never_illegal (Reply.Found j) right is =
      never_illegal_on (trace_of j.recording) j.recording.end (verdict_of j.verdict) right.1.right right.0.holds.run.recording.legal is

  -- with CLEAN its trace has no race
  pub clean_run : (reply : Reply (JudgedRun A)) → IsJudgedRun limit picks plain bytes reply → reply_status judged_status reply ≡ status.CLEAN
      → IsProgramWhere (HasRunWhere limit picks IsClean) bytes
  clean_run (Reply.Faulty fault) right is = absurd (omega (arith, is))
  clean_run (Reply.TooLong events) right is = absurd (omega (arith, is))
  clean_run (Reply.Broken illegal) right is = absurd right
  clean_run Reply.NoRace right is = absurd right
  clean_run (Reply.Found j) right is = record {
    program = right.0.program;
    text_is = right.0.text_is;
    holds = record {
      recording = j.recording;
      run = right.0.holds;
      holds = clean_on (trace_of j.recording) j.recording.end (verdict_of j.verdict) right.1.right is;
    };
  }

  -- with RACES it has one
  pub racy_run : (reply : Reply (JudgedRun A)) → IsJudgedRun limit picks plain bytes reply → reply_status judged_status reply ≡ status.RACES
      → IsProgramWhere (HasRunWhere limit picks IsRacy) bytes
  racy_run (Reply.Faulty fault) right is = absurd (omega (arith, is))
  racy_run (Reply.TooLong events) right is = absurd (omega (arith, is))
  racy_run (Reply.Broken illegal) right is = absurd right
  racy_run Reply.NoRace right is = absurd right
  racy_run (Reply.Found j) right is = record {
    program = right.0.program;
    text_is = right.0.text_is;
    holds = record {
      recording = j.recording;
      run = right.0.holds;
      holds = racy_on (trace_of j.recording) j.recording.end (verdict_of j.verdict) right.1.right is;
    };
  }

  -- a right one can be printed
  pub can_be_printed : (j : JudgedRun A) → IsProgramWhere (HasRun limit picks j.recording) bytes → IsJudged plain j → RacesAreOfRun j.recording j.verdict
  can_be_printed j is judged trace decls_are events_are =
      let t = trace_of j.recording in
      races_are_of trace j.verdict (trace_stays t trace (sym decls_are) (sym events_are) is.holds.has_text.is_trace)
      (verdict_stays plain t trace (Some (verdict_of j.verdict)) (sym decls_are) (sym events_are) (judged.short, judged.right)).1

-- the text of a program has no fault
pub no_fault_where : (Holds : ProgramState → Type 0) (bytes : List ℕ) → IsProgramWhere Holds bytes → text_fault bytes ≡ None
no_fault_where Holds bytes w = ap text_fault w.text_is.printed ∙ text_has_no_fault w.program w.text_is.program

-- the status of a judged run
pub verdict_own : (end : End) (v : Verdict) → IsOfAFinding (status_of_verdict end v)
verdict_own end (Illegal index rule) = small status.ILLEGAL (omega arith)
verdict_own end Clean = end_own end
verdict_own end (Races races) = large status.RACES (omega arith)
