use Rattle.race_text.proofs.OutputLemmas.{writes_flushed, writes_broken}
use Rattle.race_tool.proofs.explore_printing.write_explored.Goals as goal

pub returns-in-Ok : goal.returns-in-Ok
returns-in-Ok g c =
    writes_flushed c.new-page.result c.new-page.ensures.waiting c.new-page.ensures.sent c.in-Ok.ensures c.flush.result c.flush.new.sink c.flush.new.self
    c.flush.ensures.empty c.flush.ensures.ok c.flush.ensures.sent c.flush.ensures.calm c.flush.ensures.failed

pub returns-in-Err : goal.returns-in-Err
returns-in-Err g c = writes_broken c.new-page.result c.new-page.ensures.waiting c.new-page.ensures.sent c.in-Err.ensures
