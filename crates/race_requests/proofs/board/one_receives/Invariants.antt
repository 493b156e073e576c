-- none of the offers before number k receives from the channel
use Rattle.std.{proofs.Common.{◌≡◌, false, take}, specs.List.list_any}
use Rattle.race_requests.specs.Waiting.{receives_from}
use Rattle.race_requests.proofs.board.one_receives.Given as goal

abbrev pub invariant-loop-k : goal.invariant-loop-k
invariant-loop-k l = list_any (receives_from l.chan) (take l.k l.offers) ≡ false
