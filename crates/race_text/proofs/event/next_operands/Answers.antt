use Rattle.std.proofs.{lemmas.Grind.common_steps, Common.arith}
use Rattle.race_text.proofs.event.next_operands.Goals as goal

pub returns : goal.returns
returns c = grind (arith, common_steps) steps 300000

pub next_operand-requires : goal.next_operand-requires
next_operand-requires g c = c.requires.decls

pub push-requires : goal.push-requires
push-requires g c = omega (arith, c.loop-kinds.invariant.1)

pub loop-kinds-preserved : goal.loop-kinds-preserved
loop-kinds-preserved c = grind (arith, common_steps) steps 1000000
