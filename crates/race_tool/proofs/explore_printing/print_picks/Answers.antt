use Rattle.std.proofs.Common.{Err, List, ℕ, sym, ◌∙◌, subst}
use Rattle.race_records.{specs.Page.Printing, proofs.PageLemmas.{breaks_off_before, prints_behind}}
use Rattle.race_report.specs.Report.{newline}
use Rattle.race_tool.proofs.ListedLemmas.{some_picks}
use Rattle.race_tool.proofs.explore_printing.print_picks.Goals as goal

pub returns-in-Ok : goal.returns-in-Ok
returns-in-Ok g c =
    subst (λ (l : List ℕ). Printing g.W.Write.contents c.put-in-Ok.result c.args.sink.now c.put-in-Ok.new.sink c.args.page.now c.put-in-Ok.new.self l)
    (some_picks c.args.picks.now (sym c.is_empty.ensures ∙ c.if-is_empty.false)) (prints_behind c.in-Ok.ensures c.put-in-Ok.ensures)

pub returns-in-Err : goal.returns-in-Err
returns-in-Err g c =
    subst (λ (l : List ℕ). Printing g.W.Write.contents (Err c.in-Err.fault) c.args.sink.now c.print_all_picks.new.sink
    c.args.page.now c.print_all_picks.new.page l)
    (some_picks c.args.picks.now (sym c.is_empty.ensures ∙ c.if-is_empty.false)) (breaks_off_before newline c.in-Err.ensures)
