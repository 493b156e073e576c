use Rattle.std.proofs.Common.{◌≡◌, ◌≢◌, ℕ, None, Err, ap, subst, ◌∙◌, rules}
use Rattle.race_model.specs.{Legal.broken, Predict.told}
use Rattle.race_legal.specs.{ReplayState.counts_in, StandsFor.GoesOn}
use Rattle.race_predict.specs.{declared.fault.PredictFault.PredictFault, Attempts.{AttemptState, ForEachLegal}}
use Rattle.race_predict.proofs.RefusalLemmas.{never_legal}
use Rattle.race_predict.proofs.attempt.Attempt.accept_found.Goals as goal

pub returns-in_err-accept-clause-refused : goal.returns-in_err-accept-clause-refused
returns-in_err-accept-clause-refused g c = λ is.
    let refused : c.accept.result ≡ Err PredictFault.NotAPrediction = search rules in
    subst (λ (a : AttemptState). ForEachLegal a.replay (λ caps past. (v : ℕ) → broken caps past (told v c.args.event.now) ≢ None)) c.self.view_is
    (never_legal c.args.var c.args.event.now c.told-found.result c.self.inside.replay c.last_value.result c.requires.access c.told-found.ensures
    c.last_value.ensures (c.accept.ensures.refused refused))

pub returns-in_err-accept-clause-counts : goal.returns-in_err-accept-clause-counts
returns-in_err-accept-clause-counts g c = c.accept.ensures.counts ∙ ap (λ (a : AttemptState). counts_in a.replay) c.self.view_is

pub returns-clause-goes_on : goal.returns-clause-goes_on
returns-clause-goes_on g c =
    subst (λ (a : AttemptState). GoesOn a.replay c.accept.new.replay c.told-found.result) c.self.view_is c.in_ok-accept.ensures.goes_on

pub returns-clause-counts : goal.returns-clause-counts
returns-clause-counts g c = c.accept.ensures.counts ∙ ap (λ (a : AttemptState). counts_in a.replay) c.self.view_is
