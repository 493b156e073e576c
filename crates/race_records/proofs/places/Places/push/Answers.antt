use Rattle.std.{proofs.Common.{ap, map, ◌∙◌}, specs.String.string_bytes}
use Rattle.race_records.proofs.TextLemmas.{insert_key-new}
use Rattle.race_records.proofs.places.Places.push.Goals as goal

pub returns-clause-ok : goal.returns-clause-ok
returns-clause-ok g c =
    ap (map string_bytes) c.in_ok-insert.ensures.keys
    ∙ insert_key-new c.self.inside.texts.keys c.args.self.now c.self.view_is c.in_ok-text.text c.args.text.now c.in_ok-text.ensures.ok c.requires
