use Rattle.race_command.proofs.EndingLemmas.{both_in_limits, judges_as_asked}
use Rattle.race_command.proofs.program.answer_request.Goals as goal

pub returns-in-Race-clause-asked : goal.returns-in-Race-clause-asked
returns-in-Race-clause-asked g c =
    judges_as_asked g.R.Read.remaining g.W.Write.contents c.args.source.now c.run_race.new.source c.args.sink.now c.run_race.new.sink c.run_race.result
    c.in-Ok.is c.in-Race.is (c.run_race.ensures.judges (both_in_limits c.in-Ok.is c.in-Race.is c.requires))
