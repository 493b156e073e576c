use Rattle.std.proofs.{lemmas.Grind.common_steps, Common.{◌∙◌, arith}}
use Rattle.race_explore.proofs.ScriptLemmas.{one_more_script}
use Rattle.race_explore.proofs.walked.scripts.Goals as goal

pub loop-goroutine-preserved : goal.loop-goroutine-preserved
loop-goroutine-preserved g c = record {
  made = c.in_ok-push.ensures.items
      ∙ one_more_script c.args.program.now.bodies c.loop-goroutine.goroutine c.loop-goroutine.scripts.items c.in_ok-new.field-0 c.loop-goroutine.invariant.made
      c.in_ok-new.ensures.whole c.in_ok-new.ensures.position;
}

pub new-requires : goal.new-requires
new-requires c = grind (arith, common_steps) steps 300000

pub returns : goal.returns
returns c = grind (arith, common_steps) steps 300000
