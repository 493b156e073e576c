use Rattle.std.{proofs.Common.{◌≡◌, false, take}, specs.List.list_any}
use Rattle.race_legal.specs.RulesKept.{is_ready_in}
use Rattle.race_legal.proofs.channels.Channels.has_ready.Given as goal

-- none of the cases before number k is ready
abbrev pub invariant-loop-k : goal.invariant-loop-k
invariant-loop-k g l = list_any (is_ready_in l.self) (take l.k l.cases) ≡ false
