use Rattle.race_explain.proofs.ExplainedLemmas.{illegal_within, races_in_order}
use Rattle.race_explain.proofs.explain.put_said.Goals as goal

pub put_illegal-requires : goal.put_illegal-requires
put_illegal-requires g c = illegal_within c.args.trace.now c.args.verdict.now c.requires c.in-Illegal.illegal c.in-Illegal.is

pub put_races-requires : goal.put_races-requires
put_races-requires g c = rw c.as_slice.ensures (races_in_order c.args.trace.now c.args.verdict.now c.requires c.in-Races.races c.in-Races.is)
