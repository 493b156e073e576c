use Rattle.std.{proofs.Common.{position, sym, ap, ◌∙◌}, specs.{Str.bytes_eq, String.string_bytes}}
use Rattle.race_records.proofs.TextLemmas.{position-map}
use Rattle.race_records.proofs.places.Places.index_of.Goals as goal

pub returns : goal.returns
returns g c =
    c.get_index_of.ensures.index ∙ sym (position-map string_bytes (bytes_eq c.args.text.now) c.self.inside.texts.keys)
    ∙ ap (position (bytes_eq c.args.text.now)) c.self.view_is
