use Rattle.std.proofs.Common.{◌≡◌, ◌∷◌, [], sym, ap, subst, ◌∙◌}
use Rattle.race_text.specs.{Words.{parts_of, parts_left}, Form.first_word, Grammar.ForEachLines, Fed.TellsOfLine}
use Rattle.race_text.{specs.Common.line_in, proofs.FedLemmas.last_is}
use Rattle.race_text.proofs.fed.take_other.Goals as goal

pub returns-in-None : goal.returns-in-None
returns-in-None g c =
    let cut : parts_of c.args.bytes.now ≡ c.cut_at.result.0.now ∷ [] = c.cut_at.ensures ∙ ap (λ r. c.cut_at.result.0.now ∷ parts_left 10 r) c.in-None.is in
    λ k. (cut ∙ ap (λ l. l ∷ []) (last_is c.args.bytes.now c.cut_at.result.0.now cut), λ lines stands. stands)

pub returns-in-Err : goal.returns-in-Err
returns-in-Err g c = λ k.
    let others = c.in-Some.others.now in
    let cut : parts_of c.args.bytes.now ≡ c.cut_at.result.0.now ∷ parts_of others =
    c.cut_at.ensures ∙ ap (λ r. c.cut_at.result.0.now ∷ parts_left 10 r) c.in-Some.is in
    let line : line_in c.args.bytes.now ≡ c.cut_at.result.0.now = ap first_word cut in
    record {
      rest = others;
      ends = cut ∙ ap (λ l. l ∷ parts_of others) (sym line);
      is = subst (λ l. ForEachLines (g.G.Grammar.stands_for k c.args.reader.now) (TellsOfLine g.G.Grammar.causes l c.in-Err.fault)) (sym line) (c.in-Err.ensures k);
    }
