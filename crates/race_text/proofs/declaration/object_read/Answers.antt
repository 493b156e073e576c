use Rattle.std.proofs.Common.{arith, ◌∙◌, sym}
use Rattle.race_text.proofs.DeclarationLemmas.{number_parts, narrow_limit}
use Rattle.race_text.proofs.declaration.object_read.Goals as goal

pub overflow_cast-number : goal.overflow_cast-number
overflow_cast-number c =
    let low = (number_parts c.in-Some-Some.limit c.in-Some-Some.word.now c.in-Some.number (sym c.read_number.ensures ∙ c.in-Some.is)).0 in
    let narrow = narrow_limit c.args.keyword c.in-Some-Some.limit (sym c.number_limit.ensures ∙ c.in-Some-Some.is-0) in
    omega (arith, low, narrow)
