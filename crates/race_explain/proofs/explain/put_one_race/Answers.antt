use Rattle.race_explain.{specs.Shown.race_shown, proofs.ExplainedLemmas.{words_put, first_within, second_within}}
use Rattle.race_explain.proofs.explain.put_one_race.Goals as goal

pub put_race-requires-clause-first : goal.put_race-requires-clause-first
put_race-requires-clause-first g c = first_within c.args.trace.now c.args.race.now c.requires

pub put_race-requires-clause-second : goal.put_race-requires-clause-second
put_race-requires-clause-second g c = second_within c.args.trace.now c.args.race.now c.requires

pub returns : goal.returns
returns g c =
    words_put c.args.out.now.items (race_shown c.args.trace.now c.args.race.now) _ c.put_race.new.out.items c.extend_from_slice.new.self.items
    c.in_ok-put_race.ensures c.in_ok-extend_from_slice.ensures.items
