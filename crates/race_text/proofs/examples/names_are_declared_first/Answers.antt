use Rattle.race_text.proofs.ExampleRows.{late_declaration_row, unknown_word_row, unknown_name_row, wrong_kind_row}
use Rattle.race_text.proofs.ExampleRows.{mutex_for_rwmutex_row}
use Rattle.race_text.proofs.examples.names_are_declared_first.Goals as goal

pub returns-clause-late : goal.returns-clause-late
returns-clause-late c = late_declaration_row

pub returns-clause-word : goal.returns-clause-word
returns-clause-word c = unknown_word_row

pub returns-clause-unknown : goal.returns-clause-unknown
returns-clause-unknown c = unknown_name_row

pub returns-clause-kind : goal.returns-clause-kind
returns-clause-kind c = wrong_kind_row

pub returns-clause-rwmutex : goal.returns-clause-rwmutex
returns-clause-rwmutex c = mutex_for_rwmutex_row
