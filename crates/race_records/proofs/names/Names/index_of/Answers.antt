use Rattle.std.{proofs.Common.{position, sym, ap, ◌∙◌}, specs.{Str.bytes_eq, String.string_bytes}}
use Rattle.race_records.{specs.Tables.{Row, row}, proofs.TextLemmas.position-map}
use Rattle.race_records.proofs.names.Names.index_of.Goals as goal

pub returns : goal.returns
returns g c =
    let entries = c.self.inside.slots.entries in
    c.get_index_of.ensures.index ∙ position-map (λ e. e.0) (λ k. bytes_eq c.args.name.now (string_bytes k)) entries
    ∙ sym (position-map (λ e. row (string_bytes e.0) e.1) (λ r. bytes_eq c.args.name.now r.name) entries)
    ∙ ap (position (λ (r : Row). bytes_eq c.args.name.now r.name)) c.self.view_is
