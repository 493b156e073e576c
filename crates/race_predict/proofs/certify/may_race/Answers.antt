use Rattle.std.proofs.Common.{map, ap, sym, subst, ◌∙◌}
use Rattle.race_model.specs.Verdict.{IsVerdict}
use Rattle.race_verdict.specs.{Verdicts.verdict_of, Races.race_of}
use Rattle.race_predict.proofs.UnracedLemmas.{unraced, raced, illegal_is}
use Rattle.race_model.specs.Verdict as model
use Rattle.race_predict.proofs.certify.may_race.Goals as goal

pub returns-in-Illegal-clause-one : goal.returns-in-Illegal-clause-one
returns-in-Illegal-clause-one g c = λ one caps events verdict legal.
    illegal_is caps events _ _ (subst (IsVerdict caps events) (ap verdict_of c.in-Illegal.is) verdict) legal _

pub returns-in-Clean-clause-none : goal.returns-in-Clean-clause-none
returns-in-Clean-clause-none g c = λ none caps events verdict. (subst (IsVerdict caps events) (ap verdict_of c.in-Clean.is) verdict).1 c.args.var

pub returns-in-Races-clause-none : goal.returns-in-Races-clause-none
returns-in-Races-clause-none g c = λ none caps events verdict.
    unraced c.args.var c.as_slice.result.now c.is_raced.result c.is_raced.ensures none caps events
    (subst (IsVerdict caps events) (ap verdict_of c.in-Races.is ∙ ap (λ races. model.Races (map race_of races)) (sym c.as_slice.ensures)) verdict)

pub returns-in-Races-clause-one : goal.returns-in-Races-clause-one
returns-in-Races-clause-one g c = λ one caps events verdict legal.
    raced c.args.var c.as_slice.result.now c.is_raced.result c.is_raced.ensures one caps events
    (subst (IsVerdict caps events) (ap verdict_of c.in-Races.is ∙ ap (λ races. model.Races (map race_of races)) (sym c.as_slice.ensures)) verdict)
