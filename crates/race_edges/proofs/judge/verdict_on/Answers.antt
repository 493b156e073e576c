-- Each answer is what the definition of the verdict says.
use Rattle.std.proofs.Common.{subst}
use Rattle.race_legal.specs.Judged.{IsJudged}
use Rattle.race_verdict.specs.Traces.{capacities}
use Rattle.race_edges.proofs.judge.verdict_on.Goals as goal

pub returns-in-Some : goal.returns-in-Some
returns-in-Some g c = subst (IsJudged (capacities c.args.trace.now) c.args.trace.now.events) c.in-Some.is c.in_ok-illegal.ensures

pub returns-in_ok-races_in-in-None : goal.returns-in_ok-races_in-in-None
returns-in_ok-races_in-in-None g c =
    c.of_races.ensures.verdict (capacities c.args.trace.now) c.args.trace.now.events
    (subst (IsJudged (capacities c.args.trace.now) c.args.trace.now.events) c.in-None.is c.in_ok-illegal.ensures) c.in_ok-races_in-in-None.ensures
