use Rattle.race_text.proofs.ExampleRows.{fine_row}
use Rattle.race_text.proofs.examples.a_trace_has_no_fault.Goals as goal

pub returns : goal.returns
returns c = fine_row
