use Rattle.std.proofs.{lemmas.Grind.common_steps, Common.{subst, arith}}
use Rattle.race_legal.specs.{Rules.number_of, Judged.IsJudged}
use Rattle.race_verdict.specs.Traces.{capacities}
use Rattle.race_edges.proofs.edge_list.edges.Goals as goal

pub returns-in-Ok-Some-clause-illegal : goal.returns-in-Ok-Some-clause-illegal
returns-in-Ok-Some-clause-illegal g c = λ same. record {
  index = c.in-Ok-Some.field-0-0.at;
  rule = number_of c.in-Ok-Some.field-0-0.rule;
  broken = subst (IsJudged (capacities c.args.trace.now) c.args.trace.now.events) c.in-Ok-Some.field-0-is c.in-Ok-Some.ensures;
}

pub returns-in-Ok-Some-clause-legal : goal.returns-in-Ok-Some-clause-legal
returns-in-Ok-Some-clause-legal g c = cc

pub returns-in-Ok-clause-right : goal.returns-in-Ok-clause-right
returns-in-Ok-clause-right g c = grind (arith, common_steps) steps 1000000

pub returns-in-Ok-clause-too_long : goal.returns-in-Ok-clause-too_long
returns-in-Ok-clause-too_long g c = grind (arith, common_steps) steps 1000000

pub returns-in-Err-list_edges-clause-too_long : goal.returns-in-Err-list_edges-clause-too_long
returns-in-Err-list_edges-clause-too_long g c = grind (arith, common_steps) steps 1000000

pub returns-in-Ok-Some-clause-too_long : goal.returns-in-Ok-Some-clause-too_long
returns-in-Ok-Some-clause-too_long g c = grind (arith, common_steps) steps 1000000

pub returns-in-Err-clause-too_long : goal.returns-in-Err-clause-too_long
returns-in-Err-clause-too_long g c = grind (arith, common_steps) steps 1000000
