-- At the end the loop has counted to the count.
use Rattle.std.proofs.{Common.{◌≡◌, ◌∙◌, ℕ, Bool, false, replicate, ap, arith}, lemmas.Grind.common_steps}
use Rattle.std.proofs.lemmas.Result.{IfOk-from_err}
use Rattle.race_edges.proofs.table.Table.new.Goals as goal

pub returns-in_err-new : goal.returns-in_err-new
returns-in_err-new g c = record { rows = IfOk-from_err _ _ c.from_residual.ensures.0; heard = IfOk-from_err _ _ c.from_residual.ensures.0 }

pub returns-in_err-push : goal.returns-in_err-push
returns-in_err-push g c = record {
  rows = IfOk-from_err _ _ c.from_residual-in_err-push.ensures.0;
  heard = IfOk-from_err _ _ c.from_residual-in_err-push.ensures.0;
}

pub loop-count-preserved : goal.loop-count-preserved
loop-count-preserved g c = grind (arith, common_steps) steps 500000

pub returns-clause-rows : goal.returns-clause-rows
returns-clause-rows g c =
    let done : c.loop-count._count ≡ c.args.goroutines = omega arith in
    c.loop-count.invariant ∙ ap (λ (n : ℕ). replicate n (replicate {A = Bool} c.args.events false)) done
