-- What was passed by so far.
use Rattle.std.proofs.Common.{filter, flat_map, ◌≤◌, ◌-◌}
use Rattle.race_requests.specs.{declared.search.Found.TheVariants.Left, Choices.{below, with_partner}, Search.IsFound}
use Rattle.race_requests.proofs.search.with_each_partner.Given as goal

abbrev pub invariant-loop-from : goal.invariant-loop-from
invariant-loop-from g l = record {
  within : l.from ≤ g.B.Board.size l.board;
  passed :
      IsFound (filter (g.B.Board.admitted l.board) (flat_map (with_partner (g.B.Board.branches_at l.board) l.place l.branch) (below l.from))) l.skip (Left l.left);
}

abbrev pub decreases-loop-from : goal.decreases-loop-from
decreases-loop-from g l = g.B.Board.size l.board - l.from
