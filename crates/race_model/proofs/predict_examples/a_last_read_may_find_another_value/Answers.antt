use Rattle.std.proofs.Common.{refl}
use Rattle.race_model.specs.{Examples.{main, w, capacities}, PredictExamples.{w_locks_first, main_reads_first, main_goes_on, main_reads_another, w_writes_another}}
use Rattle.race_model.proofs.PredictTests.{could_from, could_not}
use Rattle.race_model.proofs.predict_examples.a_last_read_may_find_another_value.Goals as goal

pub returns-clause-last : goal.returns-clause-last
returns-clause-last c = could_from w_locks_first main_reads_first capacities refl refl

pub returns-clause-not_last : goal.returns-clause-not_last
returns-clause-not_last c = could_not w_locks_first main_goes_on capacities main refl

pub returns-clause-another_variable : goal.returns-clause-another_variable
returns-clause-another_variable c = could_not w_locks_first main_reads_another capacities main refl

pub returns-clause-write : goal.returns-clause-write
returns-clause-write c = could_not w_locks_first w_writes_another capacities w refl
