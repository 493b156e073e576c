-- What isn't found in the parts before is looked for in the next one.
use Rattle.std.proofs.Common.{◌<◌, arith, flat_map}
use Rattle.race_requests.{specs.Choices.{below, of_branch}, proofs.FoundLemmas.{found_step, found_at}}
use Rattle.race_requests.proofs.search.find.Goals as goal

pub returns-in-At : goal.returns-in-At
returns-in-At g c =
    let less : c.loop-place.place < g.B.Board.size c.args.board.now = omega (arith, c.len-place-end.ensures.len) in
    found_at (g.B.Board.admitted c.args.board.now)
    (λ w. flat_map (of_branch (g.B.Board.size c.args.board.now) (g.B.Board.branches_at c.args.board.now) w) (below (g.B.Board.branches_at c.args.board.now w)))
    c.loop-place.place (g.B.Board.size c.args.board.now)
    c.args.skip c.loop-place.left c.in-At.choice less c.loop-place.invariant c.in-At.ensures

pub loop-place-preserved : goal.loop-place-preserved
loop-place-preserved g c =
    found_step (g.B.Board.admitted c.args.board.now)
    (λ w. flat_map (of_branch (g.B.Board.size c.args.board.now) (g.B.Board.branches_at c.args.board.now) w) (below (g.B.Board.branches_at c.args.board.now w)))
    c.loop-place.place
    c.args.skip c.loop-place.left c.in-Left.rest c.loop-place.invariant c.in-Left.ensures
