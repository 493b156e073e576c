use Rattle.std.proofs.Common.{◌∷◌, sym, ap, ◌∙◌}
use Rattle.race_text.{specs.Words.parts_left, proofs.CutLemmas.some_part}
use Rattle.race_script.{specs.Offers.select_words, proofs.SelectLines.words_are_over}
use Rattle.race_script.proofs.offers.select_words.Goals as goal

pub returns-in_default-Some : goal.returns-in_default-Some
returns-in_default-Some c =
    let a = c.cut_at.result.0.now in
    let b = c.cut_at-2.result.0.now in
    sym (ap select_words (ap (parts_left 32) c.in_ok-rest.was ∙ c.cut_at.ensures
    ∙ ap (λ ws. a ∷ ws) (ap (parts_left 32) c.in_ok-rest-2.was ∙ c.cut_at-2.ensures)
    ∙ ap (λ ws. a ∷ b ∷ ws) (ap (parts_left 32) c.in_ok-rest-3.was ∙ c.cut_at-3.ensures))
    ∙ words_are_over a b c.cut_at-3.result.0.now (parts_left 32 c.cut_at-3.result.1) (some_part 32 c.cut_at-3.result.1 _ c.in_default-Some.is-1))
