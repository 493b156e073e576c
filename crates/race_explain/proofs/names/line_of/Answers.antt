use Rattle.std.proofs.Common.{arith}
use Rattle.race_text.proofs.LineCount.{few_declared}
use Rattle.race_explain.proofs.names.line_of.Goals as goal

pub overflow_add-result : goal.overflow_add-result
overflow_add-result g c = omega (arith, few_declared c.decls.result.now c.len.ensures.well_formed, c.len.ensures.len)

pub overflow_add-result-2 : goal.overflow_add-result-2
overflow_add-result-2 g c =
    omega (arith, few_declared c.decls.result.now c.len.ensures.well_formed, c.len.ensures.len, c.from.ensures, c.ranges.at.fits)
