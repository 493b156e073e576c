use Rattle.std.proofs.Common.{refl}
use Rattle.race_text.proofs.StreamLemmas.{answered_behind}
use Rattle.race_text.proofs.stream.EventStream.take_line.Goals as goal

pub returns-in-Some-clause-taken : goal.returns-in-Some-clause-taken
returns-in-Some-clause-taken g c =
    answered_behind c.args.self.now _ c.in-Some.trace c.take_event_behind.new.trace c.args.line.now c.take_event_behind.result c.in-Some.is
    refl refl refl c.take_event_behind.ensures.taken c.take_event_behind.ensures.grown
