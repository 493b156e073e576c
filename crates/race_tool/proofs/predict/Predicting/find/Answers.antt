use Rattle.race_tool.proofs.predict.Predicting.find.Goals as goal

pub predicted-requires-clause-legal : goal.predicted-requires-clause-legal
predicted-requires-clause-legal g c = c.illegal_event.ensures.none c.in-None.is c.args.trace c.in_ok-verdict.ensures

pub returns-in-Some : goal.returns-in-Some
returns-in-Some g c = record {
  ok = λ bytes text. record {
    trace = c.args.trace;
    text = text;
    holds = c.in-Some.ensures.some c.args.trace c.in_ok-verdict.ensures;
  };
  mismatch = λ is. cc;
}
