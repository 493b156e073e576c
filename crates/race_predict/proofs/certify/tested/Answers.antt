use Rattle.std.proofs.Common.{◌≡◌, ◌-◌, Err, length, take, subst, rules}
use Rattle.race_predict.specs.{declared.fault.PredictFault.PredictFault, Attempts.run_with, Certified.{HasNoCertificate, IsCertificate}}
use Rattle.race_predict.proofs.certify.tested.Goals as goal

pub returns-in-Ok-clause-found : goal.returns-in-Ok-clause-found
returns-in-Ok-clause-found g c = (
  run_with c.args.recorded.now (take (length c.as_slice.result.now - 2) c.as_slice.result.now) c.in-Ok.field-0,
  subst (λ order. IsCertificate c.args.recorded.now c.args.var order
      (run_with c.args.recorded.now (take (length c.as_slice.result.now - 2) c.as_slice.result.now) c.in-Ok.field-0)) c.as_slice.ensures.value c.in-Ok.ensures.run,
)

pub returns-clause-none : goal.returns-clause-none
returns-clause-none g c = λ is legal.
    let refused : c.test.result ≡ Err PredictFault.NotAPrediction = search rules in
    subst (λ order. HasNoCertificate c.args.recorded.now c.args.var order) c.as_slice.ensures.value (c.test.ensures.refused refused legal)
