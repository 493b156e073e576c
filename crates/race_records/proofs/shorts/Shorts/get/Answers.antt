use Rattle.std.proofs.{Common.{take, sym, subst, ◌∙◌}, Math.Facts.Fits-lt-pow, lemmas.Option.IfSome_then}
use Rattle.race_records.{specs.Shorts.AreNoted, proofs.ShortLemmas.bytes_in_take}
use Rattle.race_records.proofs.shorts.Shorts.get.Goals as goal

pub returns : goal.returns
returns g c =
    IfSome_then c.find_in.result c.find_in.ensures (λ slot found rows noted.
    found (take c.args.len c.args.bytes.now) rows
    (bytes_in_take c.args.len c.args.bytes.now (λ i. Fits-lt-pow (c.type_inv.bytes i))) (sym c.key_at.ensures ∙ c.in_ok-key.was)
    (subst (AreNoted rows) (sym (c.as_slice.ensures.value ∙ c.self.view_is)) noted))
