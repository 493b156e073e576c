use Rattle.std.proofs.Common.{sym, ◌∙◌}
use Rattle.race_text.proofs.StreamKnown.{whole_is}
use Rattle.race_text.proofs.stream.EventStreamGrammar.whole.Goals as goal

pub returns-in-Some : goal.returns-in-Some
returns-in-Some g c = λ k other lines S. sym (c.end_cause.ensures.cause k.past lines S.stream) ∙ c.in-Some.is

pub returns-in-None : goal.returns-in-None
returns-in-None g c =
    whole_is c.args.self c.args.last.now (λ past lines S. sym (c.end_cause.ensures.cause past lines S) ∙ c.in-None.is) c.end_cause.ensures.text
