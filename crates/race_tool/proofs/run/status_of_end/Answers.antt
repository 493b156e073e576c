use Rattle.race_tool.proofs.run.status_of_end.Goals as goal

pub returns-in-Deadlock : goal.returns-in-Deadlock
returns-in-Deadlock c = cc
