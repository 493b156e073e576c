use Rattle.std.{proofs.{Common.{◌≡◌, ℕ, sym, subst, ◌∙◌}, Math.Facts.Fits-lt-pow}, specs.Prelude.Some}
use Rattle.race_records.{specs.Shorts.{AreNoted, short_key}, proofs.ShortLemmas.short_noted}
use Rattle.race_records.proofs.shorts.Shorts.note.Goals as goal

pub returns : goal.returns
returns g c = λ rows noted named.
    let key = c.in-Some.key in
    let is = subst (λ (len : ℕ). short_key c.args.name.now ≡ Some (record { len = len; front = key.front; back = key.back }))
    (sym c.in-Ok.ensures.1) (sym c.key_of.ensures ∙ c.in-Some.is) in
    let short = short_noted rows c.args.name.now _ (λ i. Fits-lt-pow (c.type_inv.name i)) is named in
    c.put.ensures.noted rows (subst (AreNoted rows) (sym c.self-2.view_is) (c.make_room.ensures rows (subst (AreNoted rows) (sym c.self.view_is) noted))) short
