-- What isn't found in the parts before is looked for in the next one.
use Rattle.std.proofs.Common.{◌≡◌, ◌+◌, ◌<◌, List, [], ◌∷◌, filter, slice_get, Some, subst, arith}
use Rattle.std.proofs.lemmas.List.Concat.{flat_map_single}
use Rattle.race_requests.specs.{declared.choice.Choice.Choice, Choices.{below, choice}}
use Rattle.race_requests.proofs.FoundLemmas.{found_step, found_at}
use Rattle.race_requests.proofs.search.with_each_branch.Goals as goal

pub returns-in-At : goal.returns-in-At
returns-in-At g c =
    let less : c.loop-other.other < g.B.Board.branches_at c.args.board.now c.args.partner = omega (arith, c.branches-other-end.ensures) in
    subst (λ (xs : List Choice). slice_get (filter (g.B.Board.admitted c.args.board.now) xs) c.args.skip ≡ Some c.in-At.choice)
    (flat_map_single (λ q. choice c.args.place c.args.branch (c.args.partner + 1) (q + 1)) (below (g.B.Board.branches_at c.args.board.now c.args.partner)))
    (found_at (g.B.Board.admitted c.args.board.now) (λ q. choice c.args.place c.args.branch (c.args.partner + 1) (q + 1) ∷ []) c.loop-other.other
    (g.B.Board.branches_at c.args.board.now c.args.partner) c.args.skip c.loop-other.left c.in-At.choice less c.loop-other.invariant c.in-At.ensures)

pub loop-other-preserved : goal.loop-other-preserved
loop-other-preserved g c =
    found_step (g.B.Board.admitted c.args.board.now) (λ q. choice c.args.place c.args.branch (c.args.partner + 1) (q + 1) ∷ []) c.loop-other.other
    c.args.skip c.loop-other.left c.in-Left.rest c.loop-other.invariant c.in-Left.ensures
