use Rattle.race_explain.proofs.ExplainedLemmas.{races_none, races_more}
use Rattle.race_explain.proofs.explain.put_races.Goals as goal

pub loop-race-init : goal.loop-race-init
loop-race-init g c = record { put = races_none c.args.trace.now c.args.races.now c.args.out.now.items }

pub loop-race-preserved : goal.loop-race-preserved
loop-race-preserved g c = record {
  put = races_more c.args.trace.now c.args.races.now c.args.out.now.items c.loop-race.race-index _ c.loop-race.out.items c.put_one_race.new.out.items
      c.loop-race-test.true c.loop-race.invariant.put c.in_ok-put_one_race.ensures;
}
