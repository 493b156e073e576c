use Rattle.std.proofs.{Common.{◌^◌, ◌*◌, ◌-◌, min, ap, ◌∙◌, w64}, lemmas.List.take_rest, Math.Facts.Fits-lt-pow}
use Rattle.std.specs.Int.{from_le_bytes}
use Rattle.race_records.proofs.ShortLemmas.{key_cut}
use Rattle.race_records.proofs.shorts.key_in_front.Goals as goal

pub returns : goal.returns
returns c =
    key_cut c.args.bytes.now c.args.len c.eight_bytes.result c.low_bytes.result c.eight_bytes-2.result c.low_bytes-2.result
    (λ i. Fits-lt-pow (c.type_inv.bytes i)) c.requires.enough c.requires.short c.eight_bytes.ensures c.low_bytes.ensures
    (c.eight_bytes-2.ensures ∙ ap (from_le_bytes w64) (take_rest c.args.bytes.now 8))
    (c.low_bytes-2.ensures ∙ ap (λ n. 2 ^ (8 * min n 8) - 1) c.saturating_sub.ensures)
