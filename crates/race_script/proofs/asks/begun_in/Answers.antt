use Rattle.std.proofs.Common.{option_map, option_and_then, sym, ap, ◌∙◌}
use Rattle.race_text.specs.{Reading.{ReadOperand, operand_so_far, goroutine_of}, Words.parts_left}
use Rattle.race_script.proofs.BegunLemmas.{not_one, one_named}
use Rattle.race_script.proofs.asks.begun_in.Goals as goal

pub returns-then-not-has_count : goal.returns-then-not-has_count
returns-then-not-has_count g c = not_one _ _ (sym c.has_count.ensures ∙ c.if-not-has_count.true)

pub returns-in_err-operand : goal.returns-in_err-operand
returns-in_err-operand g c =
    let ds = c.args.decls.now.declarations in
    c.from_residual.ensures
    ∙ sym (one_named ds (parts_left 32 c.args.rest) (sym c.has_count.ensures ∙ c.if-not-has_count.false)
    ∙ ap (option_and_then (λ (first : ReadOperand). goroutine_of first.0)) (sym c.next_operand.ensures ∙ ap (option_map operand_so_far) c.in_err-operand.was))

pub returns : goal.returns
returns g c =
    let ds = c.args.decls.now.declarations in
    c.goroutine_of.ensures
    ∙ sym (one_named ds (parts_left 32 c.args.rest) (sym c.has_count.ensures ∙ c.if-not-has_count.false)
    ∙ ap (option_and_then (λ (first : ReadOperand). goroutine_of first.0)) (sym c.next_operand.ensures ∙ ap (option_map operand_so_far) c.in_ok-operand.was))
