use Rattle.std.proofs.Common.{Err, ap, ◌∙◌}
use Rattle.race_record.proofs.SerialLemmas.{is_turned}
use Rattle.race_record.proofs.serial.turn_next.Goals as goal

pub returns-in-Ok-clause-turned : goal.returns-in-Ok-clause-turned
returns-in-Ok-clause-turned g c = λ _. record {
  job = c.in-Some.job;
  turned = c.turn.new.self;
  between = c.take.new.self;
  running = c.in-Some.ensures.some.0;
  takes = c.in-Some.ensures.some.1;
  turns = is_turned g.R.Routine.asks c.in-Some.job c.turn.new.self c.in_ok-turn.field-0
      (λ kept is. (c.in_ok-turn.ensures.kept kept is).1) c.in_ok-turn.ensures.called;
  submits = c.in-Ok.ensures.ok.1;
}

pub returns-in-Err-BadRequest-clause-turned : goal.returns-in-Err-BadRequest-clause-turned
returns-in-Err-BadRequest-clause-turned g c = λ _. record {
  job = c.in-Some.job;
  turned = c.turn.new.self;
  between = c.take.new.self;
  running = c.in-Some.ensures.some.0;
  takes = c.in-Some.ensures.some.1;
  turns = is_turned g.R.Routine.asks c.in-Some.job c.turn.new.self c.in_ok-turn.field-0
      (λ kept is. (c.in_ok-turn.ensures.kept kept is).1) c.in_ok-turn.ensures.called;
  submits = (c.submit.ensures.bad (c.in-Err-BadRequest.is ∙ ap (λ fault. Err fault) c.in-Err-BadRequest.field-0-is)).1;
}
