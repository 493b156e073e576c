use Rattle.race_tool.proofs.EachIsJudged.{a_finding}
use Rattle.race_tool.proofs.laws.has_a_finding.Goals as goal

pub returns : goal.returns
returns c = a_finding c.args._plain c.args._bytes.now
