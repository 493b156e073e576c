use Rattle.std.proofs.{Common.{◌≤◌, subst, sym, arith}, lemmas.Result.IfOk-from_err}
use Rattle.race_legal.{specs.ReplayState.{LocksState, readers_in}, proofs.FirstState.{none_reads, stands_first}}
use Rattle.race_legal.proofs.replay.Replay.new.Goals as goal

pub returns-in_err-new : goal.returns-in_err-new
returns-in_err-new g c = record { stands = IfOk-from_err _ _ c.from_residual.ensures.0 }

pub returns-in_err-vec : goal.returns-in_err-vec
returns-in_err-vec g c = record { stands = IfOk-from_err _ _ c.from_residual-in_err-vec.ensures.0 }

pub returns-in_err-new-2 : goal.returns-in_err-new-2
returns-in_err-new-2 g c = record { stands = IfOk-from_err _ _ c.from_residual-in_err-new-2.ensures.0 }

pub returns-in_err-new-3 : goal.returns-in_err-new-3
returns-in_err-new-3 g c = record { stands = IfOk-from_err _ _ c.from_residual-in_err-new-3.ensures.0 }

pub returns-in_err-new-4 : goal.returns-in_err-new-4
returns-in_err-new-4 g c = record { stands = IfOk-from_err _ _ c.from_residual-in_err-new-4.ensures.0 }

pub invariant_of-result : goal.invariant_of-result
invariant_of-result g c l = subst (λ (locks : LocksState). readers_in locks l ≤ 0) (sym c.in_ok-new-3.ensures) (none_reads _ l)

pub returns : goal.returns
returns g c = grind (arith, stands_first) steps 2000000
