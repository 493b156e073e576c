use Rattle.race_explain.proofs.LineLemmas.{event_has_line}
use Rattle.race_explain.proofs.laws.events_have_their_lines.Goals as goal

pub returns : goal.returns
returns c = event_has_line
