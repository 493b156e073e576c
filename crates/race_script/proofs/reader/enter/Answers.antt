use Rattle.std.proofs.{lemmas.{Grind.common_steps, Result.IfOk-from_err}, Common.{Some, IsErr, true≢false, ap, sym}}
use Rattle.std.proofs.Common.{subst, reverse, arith}
use Rattle.race_script.specs.Fault.{may_follow}
use Rattle.race_script.proofs.reader.enter.Goals as goal

pub returns-in-Exit-clause-follows : goal.returns-in-Exit-clause-follows
returns-in-Exit-clause-follows c = grind (arith, common_steps) steps 300000

pub returns-in_err-push-in-Do-clause-follows : goal.returns-in_err-push-in-Do-clause-follows
returns-in_err-push-in-Do-clause-follows g c = IfOk-from_err _ _ c.from_residual.ensures.0

pub returns-in_ok-push-in-Do-clause-follows : goal.returns-in_ok-push-in-Do-clause-follows
returns-in_ok-push-in-Do-clause-follows g c = ap (may_follow (Some (reverse c.args.onces.now.items))) (sym c.in-Do.is)

pub returns-in_err-push-in-Do-clause-inside : goal.returns-in_err-push-in-Do-clause-inside
returns-in_err-push-in-Do-clause-inside g c = λ is. absurd (true≢false (sym (subst (λ r. IsErr r) is c.from_residual.ensures.0)))
