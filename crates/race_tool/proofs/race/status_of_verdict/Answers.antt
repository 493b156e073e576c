use Rattle.race_tool.proofs.race.status_of_verdict.Goals as goal

pub returns-in-Races : goal.returns-in-Races
returns-in-Races g c = cc
