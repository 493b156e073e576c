use Rattle.race_text.{specs.Fault.trace_causes, proofs.FedLemmas.ended_fault_stays}
use Rattle.race_text.proofs.laws.ended_faults_stay.Goals as goal

pub returns : goal.returns
returns c = ended_fault_stays trace_causes
