-- A right verdict names what the trace declares, so it can be printed.
use Rattle.race_report.proofs.PrintableLemmas.{races_are_of}
use Rattle.library_example.proofs.show.Goals as goal

pub write_report-requires : goal.write_report-requires
write_report-requires g c =
    races_are_of c.trace-trace.result.now c.in_ok-verdict.verdict c.events-events.ensures.is_trace c.in_ok-verdict.ensures.verdict
