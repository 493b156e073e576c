use Rattle.std.proofs.Common.{Err, ap}
use Rattle.race_legal.specs.declared.legality.Illegal.{Illegal}
use Rattle.race_shards.proofs.JudgeSteps.{accepts_not}
use Rattle.race_shards.proofs.block.accept_next.Goals as goal

pub returns-in-Rule-clause-accepts : goal.returns-in-Rule-clause-accepts
returns-in-Rule-clause-accepts g c =
    let illegal : Illegal = record { at = c.len-at.result; rule = c.in-Rule.rule } in
    accepts_not c.args.replay.now c.accept.new.self c.args.event.now illegal c.len-at.ensures.past
    (c.in-Err.ensures.least c.in-Rule.rule (ap Err c.in-Rule.is))
