-- What was passed by so far.
use Rattle.std.proofs.Common.{filter, flat_map}
use Rattle.race_requests.specs.{declared.search.Found.TheVariants.Left, Choices.{below, of_branch}, Search.IsFound}
use Rattle.race_requests.proofs.search.by_request.Given as goal

abbrev pub invariant-loop-branch : goal.invariant-loop-branch
invariant-loop-branch g l =
    IsFound
    (filter (g.B.Board.admitted l.board) (flat_map (of_branch (g.B.Board.size l.board) (g.B.Board.branches_at l.board) l.place) (below l.branch)))
    l.skip (Left l.left)
