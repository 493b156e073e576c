use Rattle.std.proofs.Common.{◌≡◌, Err, subst, rules}
use Rattle.race_predict.{specs.{declared.fault.PredictFault.PredictFault, Certified.{HasNoCertificate, IsCertificate}}, proofs.ShownLemmas.same_certificate}
use Rattle.race_predict.proofs.certify.certificate.Goals as goal

pub returns-clause-certificate : goal.returns-clause-certificate
returns-clause-certificate g c =
    subst (λ order. IsCertificate c.args.recorded.now c.args.prediction.now.var order c.in_ok-trace.trace) c.as_slice-order.ensures.value
    (same_certificate c.args.recorded.now c.args.prediction.now.var c.as_slice-order.result.now _ c.in_ok-trace.trace c.in_ok-trace.ensures.decls
    c.in_ok-trace.ensures.events c.in_ok-last.ensures.run)

pub returns-in_err-last-clause-refused : goal.returns-in_err-last-clause-refused
returns-in_err-last-clause-refused g c = λ is legal.
    let refused : c.test.result ≡ Err PredictFault.NotAPrediction = search rules in
    subst (λ order. HasNoCertificate c.args.recorded.now c.args.prediction.now.var order) c.as_slice-order.ensures.value (c.test.ensures.refused refused legal)
