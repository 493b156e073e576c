use Rattle.std.proofs.Common.{List, ℕ, subst}
use Rattle.race_verdict.specs.Verdicts.{verdict_of}
use Rattle.race_text.specs.Output.{Writes}
use Rattle.race_tool.proofs.RaceLemmas.{same_report}
use Rattle.race_tool.proofs.race.JudgedRunShown.write.Goals as goal

pub write_judged-requires : goal.write_judged-requires
write_judged-requires g c = c.requires c.trace.result.now c.trace.ensures.decls c.trace.ensures.events

pub returns : goal.returns
returns g c =
    let judged = c.args.self.now in
    subst (λ (l : List ℕ). Writes g.W.Write.contents c.write_judged.result c.args.sink.now c.write_judged.new.sink l)
    (same_report judged.recording c.trace.result.now c.trace.ensures.decls c.trace.ensures.events (verdict_of judged.verdict) c.end.result c.end.ensures)
    c.write_judged.ensures
