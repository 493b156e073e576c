-- Between one partner and the next nothing is admitted.
use Rattle.std.proofs.Common.{◌≤◌, ◌<◌, ◌+◌, arith}
use Rattle.race_requests.specs.Choices.{below, choice, with_partner}
use Rattle.race_requests.proofs.FoundLemmas.{found_step, found_at, found_up_to, filter_none}
use Rattle.race_requests.proofs.search.with_each_partner.Goals as goal

pub returns-then-partner-count : goal.returns-then-partner-count
returns-then-partner-count g c =
    let p = g.B.Board.admitted c.args.board.now in
    let branches = g.B.Board.branches_at c.args.board.now in
    let past_end : g.B.Board.size c.args.board.now ≤ c.next_partner-partner.result = omega (arith, c.if-partner-count.true, c.len-count.ensures.len) in
    found_up_to p (with_partner branches c.args.place c.args.branch) c.loop-from.from (g.B.Board.size c.args.board.now) c.args.skip c.loop-from.left
    c.loop-from.invariant.within c.loop-from.invariant.passed
    (λ i at least. filter_none p (λ q. choice c.args.place c.args.branch (i + 1) (q + 1))
    (c.next_partner-partner.ensures.passed i at (omega (arith, least, past_end))) (below (branches i)))

pub returns-in-At : goal.returns-in-At
returns-in-At g c =
    let p = g.B.Board.admitted c.args.board.now in
    let branches = g.B.Board.branches_at c.args.board.now in
    let less : c.next_partner-partner.result < g.B.Board.size c.args.board.now = omega (arith, c.if-partner-count.false, c.len-count.ensures.len) in
    found_at p (with_partner branches c.args.place c.args.branch) c.next_partner-partner.result (g.B.Board.size c.args.board.now)
    c.args.skip c.loop-from.left c.in-At.choice less
    (found_up_to p (with_partner branches c.args.place c.args.branch) c.loop-from.from c.next_partner-partner.result c.args.skip c.loop-from.left
    c.next_partner-partner.ensures.onward c.loop-from.invariant.passed
    (λ i at least. filter_none p (λ q. choice c.args.place c.args.branch (i + 1) (q + 1))
    (c.next_partner-partner.ensures.passed i at least) (below (branches i))))
    c.in-At.ensures

pub loop-from-preserved : goal.loop-from-preserved
loop-from-preserved g c =
    let p = g.B.Board.admitted c.args.board.now in
    let branches = g.B.Board.branches_at c.args.board.now in
    record {
      within = omega (arith, c.if-partner-count.false, c.len-count.ensures.len);
      passed =
          found_step p (with_partner branches c.args.place c.args.branch) c.next_partner-partner.result c.args.skip c.loop-from.left c.in-Left.rest
          (found_up_to p (with_partner branches c.args.place c.args.branch) c.loop-from.from c.next_partner-partner.result c.args.skip c.loop-from.left
          c.next_partner-partner.ensures.onward c.loop-from.invariant.passed
          (λ i at least. filter_none p (λ q. choice c.args.place c.args.branch (i + 1) (q + 1))
          (c.next_partner-partner.ensures.passed i at least) (below (branches i))))
          c.in-Left.ensures;
    }
