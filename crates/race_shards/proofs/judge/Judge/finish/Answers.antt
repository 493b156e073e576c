use Rattle.std.proofs.{Common.{◌≡◌, List, sym, subst}, lemmas.Result.err_from_is_err_and}
use Rattle.race_records.specs.{declared.event.Event.Event, Declarations.{Declaration, capacity_of}}
use Rattle.race_model.specs.Verdict.{IsVerdict}
use Rattle.race_shards.specs.Judging.{StandsFor}
use Rattle.race_shards.proofs.judge.Judge.finish.Goals as goal

pub returns-in_err-finish_noted-clause-others : goal.returns-in_err-finish_noted-clause-others
returns-in_err-finish_noted-clause-others g c = λ well.
    let p = err_from_is_err_and c.from_residual.result c.from_residual.ensures.1 in
    rw (p.1, p.2) (c.in_err-finish_noted.ensures.others well)

pub returns-in-Ok-clause-tells : goal.returns-in-Ok-clause-tells
returns-in-Ok-clause-tells g c =
    λ (declarations : List Declaration) (past : List Event) S. subst (IsVerdict (capacity_of declarations) past) (sym c.in-Ok.ensures)
    (c.in_ok-finish_noted.ensures.tells declarations past S)

pub returns-in-Ok-clause-failed : goal.returns-in-Ok-clause-failed
returns-in-Ok-clause-failed g c = λ failed. let none = c.finish_noted.ensures.failed failed in let some = c.in_ok-finish_noted.was in cc

pub returns-clause-failed : goal.returns-clause-failed
returns-clause-failed g c = λ failed. let none = c.finish_noted.ensures.failed failed in let some = c.in_ok-finish_noted.was in cc
