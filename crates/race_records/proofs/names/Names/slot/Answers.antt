use Rattle.std.proofs.Common.{sym, ap, option_map, ◌∙◌}
use Rattle.race_records.{specs.Tables.Row, proofs.NameLemmas.slice_get-rows}
use Rattle.race_records.proofs.names.Names.slot.Goals as goal

pub returns : goal.returns
returns g c =
    let k = c.unwrap.result.0.now in
    let s = c.unwrap.result.1.now in
    let at = sym c.get_index.ensures.entry ∙ ap (option_map _) c.unwrap.ensures in
    ap (option_map (λ (r : Row). r.slot)) (slice_get-rows c.self.inside.slots.entries c.args.self.now c.self.view_is c.args.index k s at)
