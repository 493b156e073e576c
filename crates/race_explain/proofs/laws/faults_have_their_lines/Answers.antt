use Rattle.race_explain.proofs.LineLemmas.{fault_has_line}
use Rattle.race_explain.proofs.laws.faults_have_their_lines.Goals as goal

pub returns : goal.returns
returns c = fault_has_line
