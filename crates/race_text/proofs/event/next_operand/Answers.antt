use Rattle.std.proofs.Common.{sym, ap, ◌∙◌}
use Rattle.race_text.{specs.{Words.{words_of, parts_left}, Reading.first_operand}, proofs.UnseenLemmas.unseen_operand}
use Rattle.race_text.proofs.event.next_operand.Goals as goal

pub returns-in-None-cut_word : goal.returns-in-None-cut_word
returns-in-None-cut_word g c =
    sym (ap (λ r. first_operand c.args.decls.now.declarations c.args.kind (parts_left 32 r)) c.in-Some.is
    ∙ unseen_operand c.args.decls.now c.args.kind (words_of c.in-Some.bytes.now) c.requires c.in-None-cut_word.ensures)
