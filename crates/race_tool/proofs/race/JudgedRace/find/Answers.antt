use Rattle.std.proofs.Common.{Option, Some, subst}
use Rattle.std.specs.Option.{option_map}
use Rattle.race_verdict.specs.{declared.verdict.Verdict.Verdict, Verdicts.verdict_of}
use Rattle.race_tool.{specs.{Finding.IsVerdictOn, Run.trace_of}, proofs.RaceLemmas.verdict_stays}
use Rattle.race_tool.proofs.race.JudgedRace.find.Goals as goal

pub returns-in-Some : goal.returns-in-Some
returns-in-Some g c =
    let plain = c.args.self.now.check.now.plain in
    let on = subst (λ (v : Option (Verdict g.row.A.Denot)). IsVerdictOn plain c.trace.result.now (option_map verdict_of v)) c.in-Some.is c.in_ok-verdict.ensures in
    let stays = verdict_stays plain c.trace.result.now (trace_of c.in_ok-recording.recording) (Some (verdict_of c.in-Some.verdict))
    c.trace.ensures.decls c.trace.ensures.events on in
    record {
      ok = λ bytes text. (
        record { program = c.args.program.now; text_is = text; holds = c.in_ok-recording.ensures.run },
        record { short = stays.0; right = stays.1 },
      );
      mismatch = λ is. cc;
    }
