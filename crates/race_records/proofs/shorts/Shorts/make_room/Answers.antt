use Rattle.std.proofs.{Common.{sym, subst, ◌∙◌, refl}, lemmas.List.Elements.All-replicate}
use Rattle.race_records.{specs.Shorts.{AreNoted, IsNoted}, proofs.ShortLemmas.blank_noted}
use Rattle.race_records.proofs.shorts.Shorts.make_room.Goals as goal

pub returns : goal.returns
returns g c = λ rows noted.
    c.put_each.ensures.noted rows (subst (AreNoted rows) (sym (c.as_slice.ensures.value ∙ c.self.view_is)) noted)
    (subst (AreNoted rows) (sym (c.in-Ok.ensures.items_if_clones_equal (λ y e. e))) (All-replicate (IsNoted rows) _ _ (blank_noted rows _ refl)))
