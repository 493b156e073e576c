use Rattle.race_tool.proofs.WitnessLemmas.{accesses_within}
use Rattle.race_tool.proofs.witness.run_witness.Goals as goal

pub answer-requires-clause-printable : goal.answer-requires-clause-printable
answer-requires-clause-printable g c = λ bytes w right. accesses_within w.trace c.args.var.now w.order.items right.1
