use Rattle.race_script.proofs.ExampleRows.{no_newline_2_row, nothing_2_row, no_version_row}
use Rattle.race_script.proofs.examples.a_header_says_the_version.Goals as goal

pub returns-clause-no_newline : goal.returns-clause-no_newline
returns-clause-no_newline c = no_newline_2_row

pub returns-clause-nothing : goal.returns-clause-nothing
returns-clause-nothing c = nothing_2_row

pub returns-clause-other : goal.returns-clause-other
returns-clause-other c = no_version_row
