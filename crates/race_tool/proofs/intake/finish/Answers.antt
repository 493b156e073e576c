-- What was read as a whole has a judge for what was handed on, which takes the rest.
use Rattle.std.proofs.{Common.{sym, ◌∙◌}, lemmas.Result.IfErr-at_err}
use Rattle.race_tool.proofs.IntakeTurns.{can_judge_rest, judged_whole}
use Rattle.race_tool.proofs.intake.finish.Goals as goal

pub finish-read-requires : goal.finish-read-requires
finish-read-requires g c = (c.requires.can.0, λ fine. c.requires.can.1.ready.between)

pub judge_rest-requires-clause-some : goal.judge_rest-requires-clause-some
judge_rest-requires-clause-some g c κs within =
    can_judge_rest c.args.intake c.args.handed c.finish-read.result c.finish-read.ensures.text c.in-Ok.stream
    (sym c.in_ok-text.ensures.same ∙ c.in-Ok.is) c.requires.can

pub returns-in-Ok-judge_rest-clause-text : goal.returns-in-Ok-judge_rest-clause-text
returns-in-Ok-judge_rest-clause-text g c =
    judged_whole c.args.intake c.args.handed c.finish-read.result c.finish-read.ensures.text c.in-Ok.stream
    (sym c.in_ok-text.ensures.same ∙ c.in-Ok.is) c.in-Ok-judge_rest.judge c.in-Ok-judge_rest.ensures

pub returns-clause-fault : goal.returns-clause-fault
returns-clause-fault g c = λ k fed S.
    IfErr-at_err _ (sym c.in_ok-text.ensures.same ∙ c.in-Err.is) c.finish-read.ensures.fault k fed S
    (IfErr-at_err _ c.in-Err.is c.in_ok-text.ensures.others)
