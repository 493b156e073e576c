use Rattle.std.proofs.Common.{Err, ap}
use Rattle.race_explore.specs.declared.fault.ExploreFault.{ExploreFault}
use Rattle.race_tool.proofs.explore.Exploring.find.Goals as goal

pub returns-in-Ok : goal.returns-in-Ok
returns-in-Ok g c = record { ok = λ bytes text. (text, c.in-Ok.ensures.explored); mismatch = λ is. cc }

pub returns-in-Err : goal.returns-in-Err
returns-in-Err g c = record {
  ok = tt;
  mismatch = λ is bytes text. record {
    program = c.args.program;
    text_is = text;
    holds = c.in-Err.ensures.refused (ap (λ (fault : ExploreFault). Err fault) (c.no_finding.ensures (cc is)));
  };
}
