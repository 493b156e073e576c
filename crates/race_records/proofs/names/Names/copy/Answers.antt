use Rattle.std.proofs.Common.{◌∙◌}
use Rattle.race_records.proofs.NameLemmas.{rows-clones}
use Rattle.race_records.proofs.names.Names.copy.Goals as goal

pub returns : goal.returns
returns g c = rows-clones c.self.inside.slots.entries c.in_ok-clone.field-0.entries c.in_ok-clone.ensures.cases ∙ c.self.view_is
