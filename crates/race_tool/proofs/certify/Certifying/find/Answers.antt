use Rattle.race_tool.proofs.certify.Certifying.find.Goals as goal

pub returns-in-Some : goal.returns-in-Some
returns-in-Some g c = record {
  ok = λ bytes text. record {
    trace = c.args.trace.now;
    text = text;
    holds = c.in-Some.ensures.some c.args.trace.now c.in_ok-verdict.ensures;
  };
  mismatch = λ is. cc;
}
