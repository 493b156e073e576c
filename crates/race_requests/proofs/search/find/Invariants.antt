-- What was passed by so far.
use Rattle.std.proofs.Common.{filter, flat_map}
use Rattle.race_requests.specs.{declared.search.Found.TheVariants.Left, Choices.{below, of_branch}, Search.IsFound}
use Rattle.race_requests.proofs.search.find.Given as goal

abbrev pub invariant-loop-place : goal.invariant-loop-place
invariant-loop-place g l =
    IsFound (filter (g.B.Board.admitted l.board)
    (flat_map (λ w. flat_map (of_branch (g.B.Board.size l.board) (g.B.Board.branches_at l.board) w) (below (g.B.Board.branches_at l.board w))) (below l.place)))
    l.skip (Left l.left)
