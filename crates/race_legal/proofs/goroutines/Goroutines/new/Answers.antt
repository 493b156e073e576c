use Rattle.std.proofs.{Common.rules, lemmas.{List.length-replicate, Result.IfOk-from_err}}
use Rattle.race_legal.proofs.goroutines.Goroutines.new.Goals as goal

pub returns-in_err-vec : goal.returns-in_err-vec
returns-in_err-vec g c = IfOk-from_err _ _ c.from_residual.ensures.0

pub returns-in_err-vec-2 : goal.returns-in_err-vec-2
returns-in_err-vec-2 g c = IfOk-from_err _ _ c.from_residual-in_err-vec-2.ensures.0

pub returns-in_err-stacks : goal.returns-in_err-stacks
returns-in_err-stacks g c = IfOk-from_err _ _ c.from_residual-in_err-stacks.ensures.0

pub invariant_of-result : goal.invariant_of-result
invariant_of-result g c = search (rules, length-replicate) steps 1000000

pub returns : goal.returns
returns g c = search rules steps 1000000
