use Rattle.std.proofs.Common.{refl, arith}
use Rattle.race_records.specs.declared.event.Op.TheVariants.{Read, Write}
use Rattle.race_model.specs.Examples.{main, w, x, does, go_then_write}
use Rattle.race_model.proofs.PredictLemmas.{ends_by}
use Rattle.race_model.proofs.predict_examples.a_race_ends_a_list.Goals as goal

pub returns-clause-ends : goal.returns-clause-ends
returns-clause-ends c = ends_by go_then_write x 1 (does main (Write x 1)) (does w (Read x 1)) refl refl refl refl refl refl (λ same. absurd (omega arith))
