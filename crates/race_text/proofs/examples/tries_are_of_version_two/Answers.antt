use Rattle.race_text.proofs.ExampleRows.{tries_row, early_try_row, early_try_to_read_row, early_failure_row}
use Rattle.race_text.proofs.ExampleRows.{mutex_tried_for_rwmutex_row}
use Rattle.race_text.proofs.examples.tries_are_of_version_two.Goals as goal

pub returns-clause-two : goal.returns-clause-two
returns-clause-two c = tries_row

pub returns-clause-lock : goal.returns-clause-lock
returns-clause-lock c = early_try_row

pub returns-clause-rlock : goal.returns-clause-rlock
returns-clause-rlock c = early_try_to_read_row

pub returns-clause-failure : goal.returns-clause-failure
returns-clause-failure c = early_failure_row

pub returns-clause-rwmutex : goal.returns-clause-rwmutex
returns-clause-rwmutex c = mutex_tried_for_rwmutex_row
