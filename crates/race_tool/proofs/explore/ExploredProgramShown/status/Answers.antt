use Rattle.std.proofs.Common.{sym, subst}
use Rattle.race_tool.{specs.Outcome.IsOfAFinding, proofs.ExploreLemmas.status_own}
use Rattle.race_tool.proofs.explore.ExploredProgramShown.status.Goals as goal

pub returns-clause-of_a_finding : goal.returns-clause-of_a_finding
returns-clause-of_a_finding g c = subst IsOfAFinding (sym c.status_of_explored.ensures) (status_own c.args.self.now.explored)
