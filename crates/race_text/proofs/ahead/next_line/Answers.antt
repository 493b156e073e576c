use Rattle.std.proofs.Common.{◌+◌, ◌<◌, ◌∷◌, length, ap, ◌∙◌, arith}
use Rattle.race_text.{specs.Words.{parts_left}, proofs.AheadLemmas.later}
use Rattle.race_text.proofs.ahead.next_line.Goals.{In-Some}
use Rattle.race_text.proofs.ahead.next_line.Goals as goal

module _ (c : In-Some) where
  less : c.args.at + length c.in-Some.rest.now < length c.args.bytes.now
  less = later c.args.bytes.now c.bytes_from.result.now c.cut_at.result.0.now c.in-Some.rest.now c.args.at c.bytes_from.ensures
      (c.cut_at.ensures ∙ ap (λ r. c.cut_at.result.0.now ∷ parts_left 10 r) c.in-Some.is)

pub overflow_sub-result : goal.overflow_sub-result
overflow_sub-result c = let l = less c in omega (arith, l)

pub returns-in-Some-clause-later : goal.returns-in-Some-clause-later
returns-in-Some-clause-later c = let l = less c in omega (arith, l)
