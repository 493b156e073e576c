use Rattle.std.proofs.Common.{List, ℕ, length, ap, subst, ◌∙◌}
use Rattle.race_predict.specs.Attempts.{AttemptState, IsAttempt, IsFound, IsNextAt}
use Rattle.race_predict.proofs.{AttemptLemmas.rows_from_fits, NextLemmas.{found_by, not_found}}
use Rattle.race_predict.proofs.attempt.Attempt.next_at.Goals as goal

pub is_next-requires-clause-who : goal.is_next-requires-clause-who
is_next-requires-clause-who g c =
    (rows_from_fits c.args.recorded.now c.self.inside.taken.items c.event-event.result.now c.event-event.ensures.fits
    (ap (λ (a : AttemptState). length a.taken) c.self.view_is ∙ c.requires.rows)).0

pub is_next-requires-clause-partner : goal.is_next-requires-clause-partner
is_next-requires-clause-partner g c =
    (rows_from_fits c.args.recorded.now c.self.inside.taken.items c.event-event.result.now c.event-event.ensures.fits
    (ap (λ (a : AttemptState). length a.taken) c.self.view_is ∙ c.requires.rows)).1

pub returns-then-is_next-clause-found : goal.returns-then-is_next-clause-found
returns-then-is_next-clause-found g c =
    let e = c.event-event.result.now in
    let p = c.position_at-position.result in
    let a : AttemptState = record { replay = c.self.inside.replay; taken = c.self.inside.taken.items } in
    subst (λ (a : AttemptState). IsFound c.args.recorded.now a c.args.at e) c.self.view_is
    (found_by c.args.recorded.now a c.args.at e p c.event-event.ensures.event c.event-event.ensures.fits
    (c.requires.positions.each c.args.at e p c.event-event.ensures.event c.position_at-position.ensures)
    (c.is_next.ensures.own c.if-is_next.true) (c.is_next.ensures.partners c.if-is_next.true))

pub returns-else-is_next-clause-none : goal.returns-else-is_next-clause-none
returns-else-is_next-clause-none g c = λ none.
    let e = c.event-event.result.now in
    let p = c.position_at-position.result in
    let a : AttemptState = record { replay = c.self.inside.replay; taken = c.self.inside.taken.items } in
    subst (λ (a : AttemptState). (order : List ℕ) → IsAttempt c.args.recorded.now order a → ¬ IsNextAt c.args.recorded.now order c.args.at) c.self.view_is
    (not_found c.args.recorded.now a c.args.at e p c.event-event.ensures.event c.event-event.ensures.fits
    (c.requires.positions.each c.args.at e p c.event-event.ensures.event c.position_at-position.ensures)
    (c.is_next.ensures.otherwise c.if-is_next.false))
