use Rattle.std.proofs.Common.{ap, ◌∙◌, refl}
use Rattle.race_text.specs.Form.{word_named}
use Rattle.race_text.proofs.form.decl_keyword_spelled.Goals as goal

pub returns-then-is_spelled-clause-named : goal.returns-then-is_spelled-clause-named
returns-then-is_spelled-clause-named c = ap word_named (c.is_spelled.ensures c.if-is_spelled.true) ∙ c.requires
