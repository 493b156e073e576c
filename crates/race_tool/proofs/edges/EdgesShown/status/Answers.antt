use Rattle.std.proofs.Common.{arith}
use Rattle.race_tool.proofs.StatusLemmas.{small}
use Rattle.race_tool.proofs.edges.EdgesShown.status.Goals as goal
use Rattle.race_tool.specs.declared.status.TheConstants as status

pub returns-clause-of_a_finding : goal.returns-clause-of_a_finding
returns-clause-of_a_finding g c = small status.CLEAN (omega arith)
