use Rattle.std.proofs.Common.{take, get_or, arith}
use Rattle.std.proofs.lemmas.{List.length-take-le, Option.slice_get-get_or}
use Rattle.race_legal.proofs.RangeLemmas.{in_range}
use Rattle.race_predict.specs.Attempts.{events_by}
use Rattle.race_predict.proofs.AttemptLemmas.{rows_from_fits, more_on_ok, goes_on, not_next, not_legal}
use Rattle.race_predict.proofs.attempt.Attempt.add.Goals as goal

pub take-requires-clause-range : goal.take-requires-clause-range
take-requires-clause-range g c =
    in_range c.args.recorded.now.decls c.args.self.now.replay (events_by c.args.recorded.now.events (take c.args.k c.args.order.now)) c.in-Some.event.now
    c.requires.attempt.stands c.in-Some.ensures.found.fit

pub take-requires-clause-who : goal.take-requires-clause-who
take-requires-clause-who g c =
    (rows_from_fits c.args.recorded.now c.args.self.now.taken c.in-Some.event.now c.in-Some.ensures.found.fit c.requires.attempt.rows).0

pub take-requires-clause-partner : goal.take-requires-clause-partner
take-requires-clause-partner g c =
    (rows_from_fits c.args.recorded.now c.args.self.now.taken c.in-Some.event.now c.in-Some.ensures.found.fit c.requires.attempt.rows).1

pub take-requires-clause-room : goal.take-requires-clause-room
take-requires-clause-room g c =
    let len = c.requires.attempt.stands.len in
    let many = c.requires.attempt.made.as_many in
    let k = c.requires.k in
    let room = c.requires.room in
    let front = length-take-le c.args.k c.args.order.now (omega (arith, k)) in
    omega (arith, len, many, k, room, front)

pub returns-in-Some-clause-attempt : goal.returns-in-Some-clause-attempt
returns-in-Some-clause-attempt g c =
    let order = c.args.order.now in
    more_on_ok c.take.result _ _ _
    (goes_on c.args.recorded.now order c.args.k (get_or order c.args.k 0) c.in-Some.event.now c.args.self.now c.take.new.self c.requires.attempt
    (slice_get-get_or order c.args.k 0 c.requires.k) c.in-Some.ensures.found c.requires.room) c.take.ensures.goes_on c.take.ensures.taken

pub returns-in-Some-clause-refused : goal.returns-in-Some-clause-refused
returns-in-Some-clause-refused g c = λ is.
    not_legal c.args.recorded.now c.args.order.now c.args.k (get_or c.args.order.now c.args.k 0) c.in-Some.event.now c.args.self.now c.requires.attempt
    (slice_get-get_or c.args.order.now c.args.k 0 c.requires.k) c.in-Some.ensures.found.event (c.take.ensures.refused is)

pub returns-in-None-clause-refused : goal.returns-in-None-clause-refused
returns-in-None-clause-refused g c = λ is.
    not_next c.args.recorded.now c.args.order.now c.args.k (get_or c.args.order.now c.args.k 0) (slice_get-get_or c.args.order.now c.args.k 0 c.requires.k)
    (c.next_at.ensures.none c.in-None.is (take c.args.k c.args.order.now) c.requires.attempt)
