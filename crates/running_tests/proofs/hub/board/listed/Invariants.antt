-- Each so far is declared.
use Rattle.std.proofs.Common.{All, IsTrue, length, ◌≤◌}
use Rattle.race_requests.specs.Waiting.{is_declared}
use Rattle.running_tests.proofs.hub.board.listed.Given as goal

abbrev pub invariant-loop-i : goal.invariant-loop-i
invariant-loop-i l = record {
  all : All (λ w. IsTrue (is_declared l.decls.declarations w)) l.waiting.items;
  count : length l.waiting.items ≤ l.i;
}
