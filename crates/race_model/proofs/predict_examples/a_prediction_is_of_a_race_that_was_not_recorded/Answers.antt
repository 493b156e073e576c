use Rattle.std.proofs.Common.{refl, arith}
use Rattle.race_records.specs.declared.event.Op.TheVariants.{Read, Write}
use Rattle.race_model.specs.Examples.{main, w, x, does, capacities, go_then_write}
use Rattle.race_model.specs.PredictExamples.{w_locks_first, main_locks_first, main_reads_first, main_leaves_out}
use Rattle.race_model.proofs.{PredictTests.{could_from, could_not, predicts_another}, PredictLemmas.ends_by, ExampleLemmas.free_from}
use Rattle.race_model.proofs.predict_examples.a_prediction_is_of_a_race_that_was_not_recorded.Goals as goal

pub returns-clause-write_first : goal.returns-clause-write_first
returns-clause-write_first c = record {
  could_have_run = could_from w_locks_first main_locks_first capacities refl refl;
  ends_with_race = ends_by main_locks_first x 3 (does w (Write x 1)) (does main (Read x 1)) refl refl refl refl refl refl (λ same. absurd (omega arith));
  not_recorded = free_from capacities w_locks_first refl x;
}

pub returns-clause-read_first : goal.returns-clause-read_first
returns-clause-read_first c = record {
  could_have_run = could_from w_locks_first main_reads_first capacities refl refl;
  ends_with_race = ends_by main_reads_first x 3 (does main (Read x 0)) (does w (Write x 1)) refl refl refl refl refl refl (λ same. absurd (omega arith));
  not_recorded = free_from capacities w_locks_first refl x;
}

pub returns-clause-could_not_run : goal.returns-clause-could_not_run
returns-clause-could_not_run c = λ p. could_not w_locks_first main_leaves_out capacities main refl p.could_have_run

pub returns-clause-recorded : goal.returns-clause-recorded
returns-clause-recorded c = predicts_another capacities go_then_write x
