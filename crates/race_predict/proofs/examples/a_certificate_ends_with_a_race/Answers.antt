use Rattle.std.proofs.Common.{◌≡◌, ℕ, ◌<◌, true, false, refl, ap, arith}
use Rattle.race_records.specs.{declared.{event.{Event.Event, Op.TheVariants.{Read, Write}}, version.Version.Version}, Declarations.DeclsState}
use Rattle.race_model.specs.Examples.{main, w, v, x, does}
use Rattle.race_model.{specs.PredictExamples.y, proofs.Indexes.at_same}
use Rattle.race_predict.specs.Examples.{v_reads_first}
use Rattle.race_predict.proofs.ExampleLemmas.{locks_certificate, reads_certificate, told_by, first_access}
use Rattle.race_predict.proofs.examples.a_certificate_ends_with_a_race.Goals as goal

pub returns-clause-write_first : goal.returns-clause-write_first
returns-clause-write_first c = locks_certificate

pub returns-clause-read_first : goal.returns-clause-read_first
returns-clause-read_first c = reads_certificate

pub returns-clause-another_variable : goal.returns-clause-another_variable
returns-clause-another_variable c = λ is.
    let access : false ≡ true = first_access is.prediction.ends_with_race 3 (does w (Write x 1)) refl refl in cc

pub returns-clause-another_order : goal.returns-clause-another_order
returns-clause-another_order c = λ is.
    let (n, same) = told_by is.made 3 6 (does w (Write x 1)) (does main (Read x 1)) refl refl refl in
    let who : ◌≡◌ {A = ℕ} 1 0 = ap (λ (e : Event). e.who) same in cc

pub returns-clause-another_version : goal.returns-clause-another_version
returns-clause-another_version c = λ is. let version : Version.Two ≡ Version.One = ap (λ (d : DeclsState). d.version) is.decls in cc

pub returns-clause-earlier_read : goal.returns-clause-earlier_read
returns-clause-earlier_read c = λ is.
    let two = is.prediction.ends_with_race.last_two in
    let less : 2 < is.prediction.ends_with_race.before = omega (arith, two) in
    let same : does v (Read y 0) ≡ does v (Read y 1) =
    at_same v_reads_first 2 (does v (Read y 0)) (does v (Read y 1)) refl (is.kept 2 3 (does v (Read y 1)) less refl refl) in
    let value : Read y 0 ≡ Read y 1 = ap (λ (e : Event). e.op) same in cc
