use Rattle.std.proofs.Common.{refl}
use Rattle.race_model.specs.{Examples.{main, w, does, capacities}, PredictExamples.{w_locks_first, main_locks_first, main_leaves_out, w_exchanges}}
use Rattle.race_model.proofs.PredictTests.{could_from, could_not}
use Rattle.race_records.specs.declared.event.Op.TheVariants.{Lock}
use Rattle.race_model.specs.LockExamples.{l}
use Rattle.race_model.proofs.predict_examples.a_front_of_each_goroutine_could_have_run.Goals as goal

pub returns-clause-fronts : goal.returns-clause-fronts
returns-clause-fronts c = could_from w_locks_first main_locks_first capacities refl refl

pub returns-clause-left_out : goal.returns-clause-left_out
returns-clause-left_out c = could_not w_locks_first main_leaves_out capacities main refl

pub returns-clause-exchanged : goal.returns-clause-exchanged
returns-clause-exchanged c = could_not w_locks_first w_exchanges capacities w refl

pub returns-clause-illegal : goal.returns-clause-illegal
returns-clause-illegal c = λ could. let breaks = could.legal 3 (does main (Lock l)) refl in cc
