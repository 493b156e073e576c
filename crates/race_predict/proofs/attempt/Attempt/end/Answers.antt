use Rattle.std.proofs.Common.{◌≡◌, ◌+◌, Err, take, get_or, refl, rules}
use Rattle.race_predict.specs.declared.fault.PredictFault.{PredictFault}
use Rattle.race_predict.proofs.{EndLemmas.ended_by, NextLemmas.found_in_range}
use Rattle.race_predict.proofs.RefusalLemmas.{at_first, at_second, first_next, second_next, no_conflict, first_refused, second_refused}
use Rattle.race_predict.proofs.attempt.Attempt.end.Goals as goal

pub returns-in_default-clause-refused : goal.returns-in_default-clause-refused
returns-in_default-clause-refused g c = λ is other run.
    c.next_at.ensures.none c.in_default.is (take c.args.k c.args.order.now) c.requires.attempt
    (first_next c.args.recorded.now c.args.var c.args.order.now other run c.args.k c.requires.k)

pub returns-in_default-next_at-clause-refused : goal.returns-in_default-next_at-clause-refused
returns-in_default-next_at-clause-refused g c = λ is other run.
    c.next_at-2.ensures.none c.in_default-next_at.is (take c.args.k c.args.order.now) c.requires.attempt
    (second_next c.args.recorded.now c.args.var c.args.order.now other run c.args.k c.requires.k)

pub returns-then-not-do_conflict-clause-refused : goal.returns-then-not-do_conflict-clause-refused
returns-then-not-do_conflict-clause-refused g c = λ is other run.
    no_conflict c.args.recorded.now c.args.var c.args.order.now other run c.args.k c.requires.k c.in-Some.first.now c.in-Some-next_at.second.now
    c.in-Some.ensures.found.event c.in-Some-next_at.ensures.found.event (c.do_conflict.ensures.otherwise c.if-not-do_conflict.true)

pub accept_found-requires-clause-range : goal.accept_found-requires-clause-range
accept_found-requires-clause-range g c =
    found_in_range c.args.recorded.now (take c.args.k c.args.order.now) c.args.self.now _ c.in-Some.first.now c.args.self.now.replay refl
    c.requires.attempt c.in-Some.ensures.found

pub returns-in_err-first-clause-refused : goal.returns-in_err-first-clause-refused
returns-in_err-first-clause-refused g c = λ is other run.
    let refused : c.accept_found.result ≡ Err PredictFault.NotAPrediction = search rules in
    first_refused c.args.recorded.now c.args.var c.args.order.now other run c.args.k c.requires.k c.in-Some.first.now c.in-Some-next_at.second.now
    c.in-Some.ensures.found.event c.in-Some-next_at.ensures.found.event
    (c.accept_found.ensures.refused refused c.args.recorded.now.decls.declarations _ c.requires.attempt.stands)

pub accept_found-requires-2-clause-range : goal.accept_found-requires-2-clause-range
accept_found-requires-2-clause-range g c =
    found_in_range c.args.recorded.now (take c.args.k c.args.order.now) c.args.self.now _ c.in-Some-next_at.second.now c.accept_found.new.self.replay
    c.accept_found.ensures.counts c.requires.attempt c.in-Some-next_at.ensures.found

pub returns-in_err-second-clause-refused : goal.returns-in_err-second-clause-refused
returns-in_err-second-clause-refused g c = λ is other run.
    let refused : c.accept_found-2.result ≡ Err PredictFault.NotAPrediction = search rules in
    let (u, told) = c.in_ok-first.ensures.told in
    let stands = c.in_ok-first.ensures.goes_on _ _ c.requires.attempt.stands in
    second_refused c.args.recorded.now c.args.var c.args.order.now other run c.args.k c.requires.k c.in-Some.first.now c.in-Some-next_at.second.now
    c.in-Some.ensures.found.event c.in-Some-next_at.ensures.found.event c.in_ok-first.first u told stands.legal
    (c.accept_found-2.ensures.refused refused _ _ stands)

pub returns-clause-run : goal.returns-clause-run
returns-clause-run g c =
    let order = c.args.order.now in
    let (v, first) = c.in_ok-first.ensures.told in
    let (w, second) = c.in_ok-second.ensures.told in
    ended_by c.args.recorded.now c.args.var v w (take c.args.k order) c.args.self.now (get_or order c.args.k 0) (get_or order (c.args.k + 1) 0) c.in-Some.first.now
    c.in-Some-next_at.second.now c.requires.attempt c.in-Some.ensures.found.event c.in-Some-next_at.ensures.found.event
    (c.in-Some.ensures.found.next (take c.args.k order) c.requires.attempt) (c.in-Some-next_at.ensures.found.next (take c.args.k order) c.requires.attempt)
    (c.do_conflict.ensures.first c.if-not-do_conflict.false) (c.do_conflict.ensures.second c.if-not-do_conflict.false)
    (c.do_conflict.ensures.two_goroutines c.if-not-do_conflict.false) c.args.k order c.accept_found-2.new.self.replay refl c.requires.k c.requires.room
    (at_first order c.args.k c.requires.k) (at_second order c.args.k c.requires.k)
    (c.do_conflict.ensures.write c.if-not-do_conflict.false) (record { first = c.in_ok-first.first; second = c.in_ok-second.second }) first second
    (c.in_ok-second.ensures.goes_on _ _ (c.in_ok-first.ensures.goes_on _ _ c.requires.attempt.stands))
