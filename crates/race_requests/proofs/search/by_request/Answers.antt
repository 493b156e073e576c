-- What isn't found in the parts before is looked for in the next one.
use Rattle.std.proofs.Common.{◌<◌, ap, length, arith}
use Rattle.race_requests.{specs.Choices.{below, of_branch}, proofs.FoundLemmas.{found_step, found_at, none_of_stuck}}
use Rattle.race_requests.proofs.search.by_request.Goals as goal

pub returns-in-At : goal.returns-in-At
returns-in-At g c =
    let less : c.loop-branch.branch < g.B.Board.branches_at c.args.board.now c.args.place = omega (arith, c.branches-branch-end.ensures) in
    found_at (g.B.Board.admitted c.args.board.now)
    (of_branch (g.B.Board.size c.args.board.now) (g.B.Board.branches_at c.args.board.now) c.args.place) c.loop-branch.branch
    (g.B.Board.branches_at c.args.board.now c.args.place)
    c.args.skip c.loop-branch.left c.in-At.choice less c.loop-branch.invariant c.in-At.ensures

pub loop-branch-preserved : goal.loop-branch-preserved
loop-branch-preserved g c =
    found_step (g.B.Board.admitted c.args.board.now)
    (of_branch (g.B.Board.size c.args.board.now) (g.B.Board.branches_at c.args.board.now) c.args.place) c.loop-branch.branch
    c.args.skip c.loop-branch.left c.in-Left.rest c.loop-branch.invariant c.in-Left.ensures

pub returns-then-is_stuck : goal.returns-then-is_stuck
returns-then-is_stuck g c =
    let stuck = c.if-is_stuck.true in
    let none = ap length (none_of_stuck (g.B.Board.admitted c.args.board.now) (g.B.Board.size c.args.board.now) (g.B.Board.branches_at c.args.board.now)
    c.args.place (c.is_stuck.ensures.alone stuck) (c.is_stuck.ensures.meets stuck) (below (g.B.Board.branches_at c.args.board.now c.args.place))) in
    omega (arith, none)
