use Rattle.std.proofs.Common.{ap, ◌∙◌, rules}
use Rattle.race_text.{specs.Form.word_named, proofs.WordTable.early}
use Rattle.race_text.proofs.form.op_keyword_spelled.Goals as goal

pub returns-then-is_spelled-clause-named : goal.returns-then-is_spelled-clause-named
returns-then-is_spelled-clause-named c = ap word_named (c.is_spelled.ensures c.if-is_spelled.true) ∙ c.requires.named

pub returns-then-is_spelled-clause-each : goal.returns-then-is_spelled-clause-each
returns-then-is_spelled-clause-each c = λ version. early version c.args.op_keyword c.requires.early
