use Rattle.std.proofs.{Common.arith, lemmas.{Grind.common_steps, List.length-replicate, Result.IfOk-from_err}}
use Rattle.race_legal.proofs.channels.Channels.new.Goals as goal

pub returns-in_err-capacities : goal.returns-in_err-capacities
returns-in_err-capacities g c =
    let err = c.from_residual.ensures.0 in
    record { len = IfOk-from_err _ _ err; each = IfOk-from_err _ _ err; closed = IfOk-from_err _ _ err; queues = IfOk-from_err _ _ err }

pub returns-in_err-vec : goal.returns-in_err-vec
returns-in_err-vec g c =
    let err = c.from_residual-in_err-vec.ensures.0 in
    record { len = IfOk-from_err _ _ err; each = IfOk-from_err _ _ err; closed = IfOk-from_err _ _ err; queues = IfOk-from_err _ _ err }

pub returns-in_err-queues : goal.returns-in_err-queues
returns-in_err-queues g c =
    let err = c.from_residual-in_err-queues.ensures.0 in
    record { len = IfOk-from_err _ _ err; each = IfOk-from_err _ _ err; closed = IfOk-from_err _ _ err; queues = IfOk-from_err _ _ err }

pub invariant_of-result : goal.invariant_of-result
invariant_of-result g c =
    (omega (arith, c.in_ok-vec.ensures.len, c.in_ok-capacities.ensures.len), grind (arith, c.in_ok-queues.ensures, length-replicate) steps 300000)

pub returns : goal.returns
returns g c = record {
  len = c.in_ok-capacities.ensures.len;
  each = c.in_ok-capacities.ensures.each;
  closed = grind (arith, common_steps) steps 300000;
  queues = cc c.in_ok-queues.ensures;
}
