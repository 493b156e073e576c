use Rattle.std.proofs.Common.{arith}
use Rattle.race_text.proofs.NumberLemmas.{number-stops, digits_go_on}
use Rattle.race_text.proofs.number.many_digits.Goals as goal

pub returns-in-None-clause-other : goal.returns-in-None-clause-other
returns-in-None-clause-other c max small =
    number-stops max c.args.word.now small c.loop-byte.byte-index c.loop-byte.value (omega arith) c.loop-byte.invariant.1 c.in-None.ensures

pub loop-byte-preserved : goal.loop-byte-preserved
loop-byte-preserved c =
    let is = c.in-Some.ensures in
    digits_go_on c.args.word.now c.loop-byte.byte-index c.loop-byte.value c.in-Some.more (omega arith) c.loop-byte.invariant.0 c.loop-byte.invariant.1
    is.0.0 is.1
