-- The verdict is that of the trace whose text was read.
use Rattle.race_text.specs.Stream.{trace_with}
use Rattle.race_tool.proofs.StreamedLemmas.{decls_with, verdict_is}
use Rattle.race_tool.proofs.stream_found.find_judged.Goals as goal

pub returns-in-Ok : goal.returns-in-Ok
returns-in-Ok g c = λ bytes read.
    let stream = c.args.whole.stream in
    record {
      trace = trace_with read.past stream;
      text = read.text;
      decls = decls_with stream read.past;
      noted =
          verdict_is stream read.past read.lines read.stream c.args.whole.judge c.in-Ok.verdict
          read.judged c.in-Ok.ensures.tells c.in-Ok.ensures.notes;
    }
