-- No event was handed on.
use Rattle.std.proofs.Common.{[], refl}
use Rattle.race_text.proofs.taking.take_event.Goals as goal

pub returns-clause-taken : goal.returns-clause-taken
returns-clause-taken g c = c.take_event_behind.ensures.taken [] refl c.requires.read

pub take_event_behind-requires-clause-read : goal.take_event_behind-requires-clause-read
take_event_behind-requires-clause-read g c = record { past = []; count = refl; is_read = c.requires.read }
