use Rattle.std.proofs.Common.{sym, rules, arith}
use Rattle.race_text.proofs.NumberLemmas.{number-empty, number-zero, number-read, number-over, zero_alone}
use Rattle.race_text.proofs.number.read_number.Goals as goal

pub returns-then-is_empty : goal.returns-then-is_empty
returns-then-is_empty c = sym (number-empty c.args.max c.args.word.now (omega arith) (search rules))

pub returns-then-word-gt1 : goal.returns-then-word-gt1
returns-then-word-gt1 c = sym (number-zero c.args.max c.args.word.now (omega arith) c.if-word-eq48.true c.if-word-gt1.true)

pub returns-then-value-max : goal.returns-then-value-max
returns-then-value-max c =
    let digits = c.in_ok-value.ensures.digits in
    sym (number-read c.args.max c.args.word.now (omega arith) (zero_alone c.args.word.now (search rules) c.else-word-eq48.either) c.in_ok-value.value
    (search rules) digits.0 digits.1 c.if-value-max.true)

pub returns-else-value-max : goal.returns-else-value-max
returns-else-value-max c =
    let digits = c.in_ok-value.ensures.digits in
    sym (number-over c.args.max c.args.word.now (omega arith) (zero_alone c.args.word.now (search rules) c.else-word-eq48.either) c.in_ok-value.value
    (search rules) digits.0 digits.1 c.if-value-max.false)
