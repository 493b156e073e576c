-- Who stands before doesn't receive.
use Rattle.std.proofs.Common.{◌≡◌, ℕ, ◌≤◌, ◌<◌, false}
use Rattle.race_requests.specs.Waiting.{receives_at}
use Rattle.race_requests.proofs.board.WaitingList.next_receiver.Given as goal

abbrev pub invariant-loop-place : goal.invariant-loop-place
invariant-loop-place g l = record {
  passed : (p : ℕ) → l.fn.from ≤ p → p < l.place → receives_at l.self.waiting l.chan p ≡ false;
}
