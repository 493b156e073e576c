use Rattle.race_text.proofs.FedLemmas.{ended_fault_stays}
use Rattle.race_script.specs.Fault.{program_causes}
use Rattle.race_script.proofs.laws.ended_faults_stay.Goals as goal

pub returns : goal.returns
returns c = ended_fault_stays program_causes
