use Rattle.std.proofs.Common.{Some, sym, ap, ◌∙◌}
use Rattle.race_text.{specs.Form.has_word, proofs.CommonLemmas.says_op_keyword}
use Rattle.race_text.proofs.common.next_op_keyword.Goals as goal

pub next_word-requires : goal.next_word-requires
next_word-requires c = c.requires

pub returns-in-Does-clause-says : goal.returns-in-Does-clause-says
returns-in-Does-clause-says c =
    says_op_keyword c.args.front.bytes.now c.in_ok-len.len c.in_ok-len.behind.bytes.now c.in-Does.keyword c.in_ok-len.ensures.cut
    (c.in_ok-common_word.ensures.named ∙ ap Some c.in-Does.is)
    (λ version. ap (has_word version) (sym c.in-Does.is) ∙ c.in_ok-common_word.ensures.each version)

pub returns-in-Does-clause-marked : goal.returns-in-Does-clause-marked
returns-in-Does-clause-marked c = c.in_ok-len.ensures.marked
