-- What was passed by so far.
use Rattle.std.proofs.Common.{filter, flat_map, ◌+◌, [], ◌∷◌}
use Rattle.race_requests.specs.{declared.search.Found.TheVariants.Left, Choices.{below, choice}, Search.IsFound}
use Rattle.race_requests.proofs.search.with_each_branch.Given as goal

abbrev pub invariant-loop-other : goal.invariant-loop-other
invariant-loop-other g l =
    IsFound (filter (g.B.Board.admitted l.board) (flat_map (λ q. choice l.place l.branch (l.partner + 1) (q + 1) ∷ []) (below l.other)))
    l.skip (Left l.left)
