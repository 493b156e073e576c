use Rattle.race_text.proofs.ExampleRows.{leading_zero_row, two_spaces_row, long_name_row}
use Rattle.race_text.proofs.examples.a_line_has_one_spelling.Goals as goal

pub returns-clause-number : goal.returns-clause-number
returns-clause-number c = leading_zero_row

pub returns-clause-spaces : goal.returns-clause-spaces
returns-clause-spaces c = two_spaces_row

pub returns-clause-name : goal.returns-clause-name
returns-clause-name c = long_name_row
