use Rattle.std.{proofs.Common.{◌≡◌, false, take}, specs.List.list_any}
use Rattle.race_requests.specs.Sound.{asks_to_start}
use Rattle.race_requests.proofs.sound.is_asked_for.Given as goal

abbrev pub invariant-loop-place : goal.invariant-loop-place
invariant-loop-place l = list_any (λ w. asks_to_start l.goroutine w.asked.ask) (take l.place l.waiting) ≡ false
