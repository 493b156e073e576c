use Rattle.race_text.proofs.ExampleRows.{empty_row, no_newline_row, no_newline_2_row, no_version_row}
use Rattle.race_text.proofs.examples.the_header_comes_first.Goals as goal

pub returns-clause-empty : goal.returns-clause-empty
returns-clause-empty c = empty_row

pub returns-clause-no_newline : goal.returns-clause-no_newline
returns-clause-no_newline c = no_newline_row

pub returns-clause-second : goal.returns-clause-second
returns-clause-second c = no_newline_2_row

pub returns-clause-other : goal.returns-clause-other
returns-clause-other c = no_version_row
