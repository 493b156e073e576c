use Rattle.std.proofs.Common.{◌∷◌, sym, ap, ◌∙◌}
use Rattle.race_text.{specs.Words.parts_left, proofs.CutLemmas.some_part}
use Rattle.race_script.{specs.Offers.offer_by, proofs.OfferWords.offer_is_over}
use Rattle.race_script.proofs.offers.offer_spelled.Goals as goal

pub returns-in_default-Some : goal.returns-in_default-Some
returns-in_default-Some c =
    let a = c.cut_at.result.0.now in
    let b = c.cut_at-2.result.0.now in
    sym (ap offer_by (c.cut_at.ensures
    ∙ ap (λ ws. a ∷ ws) (ap (parts_left 58) c.in_ok-rest.was ∙ c.cut_at-2.ensures)
    ∙ ap (λ ws. a ∷ b ∷ ws) (ap (parts_left 58) c.in-Some.is ∙ c.cut_at-in-Some.ensures))
    ∙ offer_is_over a b c.cut_at-in-Some.result.0.now (parts_left 58 c.cut_at-in-Some.result.1)
    (some_part 58 c.cut_at-in-Some.result.1 _ c.in_default-Some.is-1))
