use Rattle.std.proofs.Common.{◌+◌, refl, ap}
use Rattle.race_text.proofs.StreamLemmas.{handed_on}
use Rattle.race_text.proofs.stream.EventStream.hand_over.Goals as goal

pub returns-in-Some-clause-stands : goal.returns-in-Some-clause-stands
returns-in-Some-clause-stands g c = λ past lines S.
    handed_on c.args.self.now _ c.in-Some.trace c.move_events.new.self past lines S c.in-Some.is refl refl
    (ap (λ n. c.args.self.now.before + n) c.len-gathered.ensures.len) c.move_events.ensures.decls c.move_events.ensures.events
