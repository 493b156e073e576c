-- Each span is 0.
use Rattle.std.proofs.{Common.{ℕ, ◌≤◌, ◌<◌, ◌%◌, get_or, subst, sym, arith}, Math.ListN.replicate}
use Rattle.std.proofs.lemmas.List.{get_or-replicate}
use Rattle.race_requests.proofs.receivers.Receivers.none.Goals as goal

pub returns : goal.returns
returns c chan =
    let within : chan % 256 < 256 = omega arith in
    let none : get_or (replicate 256 0) (chan % 256) 0 ≤ 0 = subst (λ (n : ℕ). n ≤ 0) (sym (get_or-replicate 256 (chan % 256) 0 0 within)) (omega arith) in
    (none, none)
