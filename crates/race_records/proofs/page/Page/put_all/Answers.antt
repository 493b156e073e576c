use Rattle.std.{proofs.Common.{ℕ, List}, specs.Borrow.Bor}
use Rattle.race_records.proofs.PageLemmas.{piece_breaks_off}
use Rattle.race_records.proofs.page.Page.put_all.Goals as goal

pub returns-in-Err : goal.returns-in-Err
returns-in-Err g c = piece_breaks_off (λ (p : Bor (List ℕ)). p.now)
    c.args.parts.now c.loop-part.part-index _ c.loop-part-test.true c.loop-part.invariant c.in-Err.ensures
