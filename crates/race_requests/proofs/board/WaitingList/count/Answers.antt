use Rattle.std.proofs.{lemmas.Grind.elements, Common.arith}
use Rattle.race_requests.proofs.board.WaitingList.count.Goals as goal

pub returns-clause-few_branches : goal.returns-clause-few_branches
returns-clause-few_branches c = grind (arith, elements) steps 1000000
