use Rattle.std.proofs.Common.{subst}
use Rattle.race_legal.specs.StandsFor.{GoesOn}
use Rattle.race_predict.specs.Attempts.{AttemptState}
use Rattle.race_predict.proofs.attempt.Attempt.take.Goals as goal

pub returns-clause-goes_on : goal.returns-clause-goes_on
returns-clause-goes_on g c =
    subst (λ (a : AttemptState). GoesOn a.replay c.accept.new.replay c.args.event.now) c.self.view_is c.in_ok-accept.ensures.goes_on
