use Rattle.std.proofs.Common.{◌≡◌, ℕ, refl}
use Rattle.race_records.specs.declared.event.Op.TheVariants.{Go, Read}
use Rattle.race_model.specs.Examples.{main, w, x, does}
use Rattle.race_predict.specs.Examples.{before}
use Rattle.race_predict.proofs.examples.a_position_counts_the_events_before.Goals as goal

pub returns-clause-without_go : goal.returns-clause-without_go
returns-clause-without_go c = λ are.
    let own : ◌≡◌ {A = ℕ} 0 1 = (are.each 2 (does w (Read x 1)) (before 0 0) refl refl).own in cc

pub returns-clause-both : goal.returns-clause-both
returns-clause-both c = λ are.
    let partners : ◌≡◌ {A = ℕ} 1 0 = (are.each 1 (does main (Go w)) (before 1 1) refl refl).partners w refl in cc
