use Rattle.race_requests.proofs.table.tells_receiver.Goals as goal

pub returns-in-Recv : goal.returns-in-Recv
returns-in-Recv c = cc
