use Rattle.std.proofs.Common.{◌≡◌, ℕ, refl, ap}
use Rattle.race_records.specs.declared.event.{Event.Event, Op.TheVariants.{Go, Write}}
use Rattle.race_model.specs.Examples.{main, w, x, does}
use Rattle.race_predict.specs.Examples.{w_writes_twice}
use Rattle.race_predict.proofs.ExampleLemmas.{of_nothing, and, told_by}
use Rattle.race_predict.proofs.examples.another_run_is_made_of_recorded_events.Goals as goal

pub returns-clause-first : goal.returns-clause-first
returns-clause-first c =
    and (and (of_nothing w_writes_twice) 0 0 (does main (Go w)) refl refl refl) 1 0 (does w (Write x 1)) refl refl tt

pub returns-clause-second : goal.returns-clause-second
returns-clause-second c = λ made. let counts : ◌≡◌ {A = ℕ} 1 2 = made.in_turn 1 2 (does w (Write x 1)) refl refl w refl in cc

pub returns-clause-another_value : goal.returns-clause-another_value
returns-clause-another_value c = λ made.
    let (v, same) = told_by made 1 1 (does w (Write x 2)) (does w (Write x 1)) refl refl refl in
    let value : Write x 2 ≡ Write x 1 = ap (λ (e : Event). e.op) same in cc
