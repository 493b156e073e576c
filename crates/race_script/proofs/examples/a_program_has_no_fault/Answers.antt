use Rattle.race_script.proofs.ExampleRows.{locks_row, locks_2_row}
use Rattle.race_script.proofs.examples.a_program_has_no_fault.Goals as goal

pub returns-clause-one : goal.returns-clause-one
returns-clause-one c = locks_row

pub returns-clause-two : goal.returns-clause-two
returns-clause-two c = locks_2_row
