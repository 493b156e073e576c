use Rattle.std.proofs.{lemmas.Grind.elements, Common.arith}
use Rattle.race_requests.proofs.board.WaitingList.at.Goals as goal

pub returns-clause-found : goal.returns-clause-found
returns-clause-found c = grind (arith, elements) steps 1000000
