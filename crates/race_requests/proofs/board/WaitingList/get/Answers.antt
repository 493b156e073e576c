use Rattle.std.proofs.{lemmas.Grind.elements, Common.arith}
use Rattle.race_requests.proofs.board.WaitingList.get.Goals as goal

pub returns-else-place-self-clause-found : goal.returns-else-place-self-clause-found
returns-else-place-self-clause-found c = grind (arith, elements) steps 2000000
