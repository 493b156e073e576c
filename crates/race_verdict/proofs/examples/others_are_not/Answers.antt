use Rattle.std.proofs.Common.{◌≡◌, ℕ, false, true, ap, ◌∙◌}
use Rattle.race_records.specs.declared.event.{Event.Event, Op.TheVariants.{Go, Write}}
use Rattle.race_model.specs.Events.{is_access}
use Rattle.race_verdict.specs.{Accesses.is_write, Examples.does}
use Rattle.race_verdict.proofs.examples.others_are_not.Goals as goal

pub returns-clause-another_goroutine : goal.returns-clause-another_goroutine
returns-clause-another_goroutine c = λ is.
    let same : does 1 (Write 0 7) 1 ≡ is.event = cc is.stands in
    let who : ◌≡◌ {A = ℕ} 1 0 = ap (λ (e : Event). e.who) same ∙ is.who in cc

pub returns-clause-another_place : goal.returns-clause-another_place
returns-clause-another_place c = λ is.
    let same : does 1 (Write 0 7) 1 ≡ is.event = cc is.stands in
    let place : ◌≡◌ {A = ℕ} 1 2 = ap (λ (e : Event). e.place) same ∙ is.place in cc

pub returns-clause-a_read : goal.returns-clause-a_read
returns-clause-a_read c = λ is.
    let same : does 1 (Write 0 7) 1 ≡ is.event = cc is.stands in
    let write : true ≡ false = ap (λ (e : Event). is_write e.op) same ∙ is.write in cc

pub returns-clause-no_access : goal.returns-clause-no_access
returns-clause-no_access c = λ is.
    let same : does 0 (Go 1) 0 ≡ is.event = cc is.stands in
    let access : false ≡ true = ap (λ (e : Event). is_access e.op) same ∙ is.access in cc

pub returns-clause-no_event : goal.returns-clause-no_event
returns-clause-no_event c = λ is. cc is.stands
