-- What a check and a judged run promise of their status, by what each engine promises.
use Rattle.std.proofs.Common.{ℕ, Bool, List, Option, arith}
use Rattle.race_records.specs.declared.{source.Source.Source, sink.Sink.Sink}
use Rattle.race_text.specs.Fault.{trace_causes}
use Rattle.race_script.specs.Fault.{program_causes}
use Rattle.race_verdict.specs.Traces.{IsClean, IsRacy, IsIllegal}
use Rattle.race_tool.specs.{Outcome.{Answers, Never}, Finding.{Checks, IsFinding, IsTextWhere, report_of, status_of}}
use Rattle.race_tool.specs.Race.{Judges, IsJudgedRun, HasRunWhere, judged_text, judged_status}
use Rattle.race_tool.specs.{Reply.{reply_text, reply_status}, Run.{IsProgramWhere, IsUnrecorded}}
use Rattle.race_tool.proofs.EngineLemmas.{right_finding, reads_where}
use Rattle.race_tool.proofs.StatusLemmas.{small, large, no_fault_where, clean_text, racy_text, illegal_text}
use Rattle.race_tool.specs.declared.status.TheConstants as status
use Rattle.race_tool.proofs.RaceLemmas as race

module _ {R W : Type 0} (remaining : R → Option (List ℕ)) (contents : W → Option (List ℕ))
    (source source_now : Source R) (sink sink_now : Sink W) (answer : ℕ) where
  pub checks : (plain : Bool)
      → Answers trace_causes (IsFinding plain) report_of status_of Never remaining contents source source_now sink sink_now answer
      → Checks plain remaining contents source source_now sink sink_now answer
  checks plain answers = record {
    answers = answers;
    clean = λ is. reads_where trace_causes (IsFinding plain) report_of status_of Never remaining contents source source_now sink sink_now answer
        answers status.CLEAN is (small status.CLEAN (omega arith)) (IsTextWhere IsClean) (no_fault_where IsClean)
        (λ found bytes right same. clean_text plain found bytes right same);
    races = λ is. reads_where trace_causes (IsFinding plain) report_of status_of Never remaining contents source source_now sink sink_now answer
        answers status.RACES is (large status.RACES (omega arith)) (IsTextWhere IsRacy) (no_fault_where IsRacy)
        (λ found bytes right same. racy_text plain found bytes right same);
    illegal = λ is. reads_where trace_causes (IsFinding plain) report_of status_of Never remaining contents source source_now sink sink_now answer
        answers status.ILLEGAL is (small status.ILLEGAL (omega arith)) (IsTextWhere IsIllegal) (no_fault_where IsIllegal)
        (λ found bytes right same. illegal_text plain found bytes right same);
  }

  pub judges : {A : Type 0} (limit : ℕ) (picks : Option (List ℕ)) (plain : Bool)
      → Answers program_causes (IsJudgedRun {A = A} limit picks plain) (reply_text judged_text) (reply_status judged_status) (IsUnrecorded limit picks)
      remaining contents source source_now sink sink_now answer
      → Judges A limit picks plain remaining contents source source_now sink sink_now answer
  judges {A} limit picks plain answers = record {
    answers = answers;
    legal = λ is.
        let f = right_finding program_causes (IsJudgedRun {A = A} limit picks plain) (reply_text judged_text) (reply_status judged_status)
        (IsUnrecorded limit picks) remaining contents source source_now sink sink_now answer answers status.ILLEGAL is (small status.ILLEGAL (omega arith)) in
        race.never_illegal limit picks plain f.0 f.1 f.2 f.3;
    clean = λ is. reads_where program_causes (IsJudgedRun {A = A} limit picks plain) (reply_text judged_text) (reply_status judged_status)
        (IsUnrecorded limit picks) remaining contents source source_now sink sink_now answer answers status.CLEAN is (small status.CLEAN (omega arith))
        (IsProgramWhere (HasRunWhere limit picks IsClean)) (race.no_fault_where (HasRunWhere limit picks IsClean))
        (λ found bytes right same. race.clean_run limit picks plain bytes found right same);
    races = λ is. reads_where program_causes (IsJudgedRun {A = A} limit picks plain) (reply_text judged_text) (reply_status judged_status)
        (IsUnrecorded limit picks) remaining contents source source_now sink sink_now answer answers status.RACES is (large status.RACES (omega arith))
        (IsProgramWhere (HasRunWhere limit picks IsRacy)) (race.no_fault_where (HasRunWhere limit picks IsRacy))
        (λ found bytes right same. race.racy_run limit picks plain bytes found right same);
  }
