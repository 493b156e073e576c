use Rattle.std.{proofs.Common.refl, specs.Fmt.digits}
use Rattle.race_explain.specs.Shown.{event_shown, race_shown}
use Rattle.race_explain.proofs.examples.an_event_is_shown_with_its_line.Goals as goal

pub returns-clause-shown : goal.returns-clause-shown
unfolding event_shown digits
returns-clause-shown c = refl

pub returns-clause-both : goal.returns-clause-both
unfolding race_shown event_shown digits
returns-clause-both c = refl
