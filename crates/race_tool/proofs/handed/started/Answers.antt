use Rattle.std.proofs.Common.{List, Some, sym, subst}
use Rattle.race_records.specs.declared.event.Event.{Event}
use Rattle.race_tool.specs.Streams.{IsJudgeOf}
use Rattle.race_shards.specs.Judging as judging
use Rattle.race_tool.proofs.handed.started.Goals as goal

pub returns-in-Some : goal.returns-in-Some
returns-in-Some g c = record { stands = λ past judged. subst (λ o. IsJudgeOf (Some c.args.decls.now.declarations) o past) c.in-Some.is judged }

pub returns-in-Ok : goal.returns-in-Ok
returns-in-Ok g c = record {
  stands = λ past judged.
      subst (λ (es : List Event). judging.StandsFor c.args.decls.now.declarations c.in-Ok.judge es)
      (sym (subst (λ o. IsJudgeOf (Some c.args.decls.now.declarations) o past) c.in-None.is judged)) c.in-Ok.ensures.stands;
}
