use Rattle.std.proofs.Common.{◌≡◌, ◌-◌, Err, length, take, subst, arith, rules}
use Rattle.race_verdict.specs.Traces.{capacities}
use Rattle.race_predict.specs.{declared.{attempt.LastTwo.LastTwo, fault.PredictFault.PredictFault}, Attempts.{IsAttempt, run_with}, Certified.{IsCertificate, IsRunWithRace}}
use Rattle.race_predict.proofs.{ShownLemmas.{certified, more_if_ok}, RefusalLemmas.{no_certificate, of_front, of_race}}
use Rattle.race_predict.proofs.certify.test.Goals as goal

pub returns-then-may_race-clause-refused : goal.returns-then-may_race-clause-refused
returns-then-may_race-clause-refused g c = λ is legal.
    of_race c.args.recorded.now c.args.var c.args.order.now
    (c.may_race.ensures.one c.if-may_race.true (capacities c.args.recorded.now) c.args.recorded.now.events c.requires.verdict legal)

pub end-requires-clause-attempt : goal.end-requires-clause-attempt
end-requires-clause-attempt g c =
    let at = c.loop-k-test.false in
    let end = c.loop-k.auto.k-end in
    subst (λ k. IsAttempt c.args.recorded.now (take k c.args.order.now) c.loop-k.attempt) (omega (arith, at, end)) c.loop-k.invariant.attempt

pub returns-clause-run : goal.returns-clause-run
returns-clause-run g c =
    let recorded = c.args.recorded.now in
    let order = c.args.order.now in
    more_if_ok (λ (last : LastTwo). IsRunWithRace recorded c.args.var order (run_with recorded (take (length order - 2) order) last))
    (λ (last : LastTwo). IsCertificate recorded c.args.var order (run_with recorded (take (length order - 2) order) last)) c.end.result
    (λ last run. certified recorded c.args.var order (run_with recorded (take (length order - 2) order) last) run
    (c.may_race.ensures.none c.if-may_race.false (capacities recorded) recorded.events c.requires.verdict)) c.end.ensures.run

pub returns-clause-refused : goal.returns-clause-refused
returns-clause-refused g c = λ is legal. no_certificate c.args.recorded.now c.args.var c.args.order.now (c.end.ensures.refused is)

pub returns-in_err-add-clause-refused : goal.returns-in_err-add-clause-refused
returns-in_err-add-clause-refused g c = λ is legal.
    let refused : c.add.result ≡ Err PredictFault.NotAPrediction = search rules in
    let on = c.loop-k-test.true in
    let end = c.loop-k.auto.k-end in
    of_front c.args.recorded.now c.args.var c.args.order.now c.loop-k.k (omega (arith, on, end)) (c.add.ensures.refused refused)
