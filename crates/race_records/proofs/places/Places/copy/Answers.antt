use Rattle.std.proofs.Common.{◌∙◌}
use Rattle.race_records.proofs.TextLemmas.{string_bytes-clones}
use Rattle.race_records.proofs.places.Places.copy.Goals as goal

pub returns : goal.returns
returns g c = string_bytes-clones c.self.inside.texts.keys c.in_ok-clone.field-0.keys c.in_ok-clone.ensures.cases ∙ c.self.view_is
