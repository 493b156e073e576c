use Rattle.std.proofs.Common.{List, ℕ, subst}
use Rattle.race_text.specs.Output.{Writes}
use Rattle.race_tool.proofs.RunLemmas.{same_text}
use Rattle.race_tool.proofs.run.RecordingShown.write.Goals as goal

pub returns : goal.returns
returns g c =
    subst (λ (l : List ℕ). Writes g.W.Write.contents c.write_trace.result c.args.sink.now c.write_trace.new.sink l)
    (same_text c.args.self.now c.trace.result.now c.trace.ensures.decls c.trace.ensures.events) c.write_trace.ensures.written
