use Rattle.std.proofs.Common.{◌≡◌, ◌++◌, Err, List, [], ℕ, subst}
use Rattle.race_records.{specs.Page.Printing, proofs.PageLemmas.{breaks_off_before, prints_behind}}
use Rattle.race_tool.specs.Explore.{all_standing, bad_line, how_often, picks_text}
use Rattle.race_tool.proofs.explore_printing.print_bad.Goals as goal

pub returns-in-Ok : goal.returns-in-Ok
returns-in-Ok g c =
    let bad = c.args.bad.now in
    let decls = c.args.decls.now in
    let line : how_often c.end_words.result.now [] bad.runs c.args.all ++ (all_standing decls c.as_slice.result.now ++ picks_text c.as_slice-in-Ok.result.now)
    ≡ bad_line decls c.args.all bad =
    (λ i. how_often (c.end_words.ensures i) [] bad.runs c.args.all ++ (all_standing decls (c.as_slice.ensures.value i) ++ picks_text (c.as_slice-in-Ok.ensures.value i))) in
    subst (λ (l : List ℕ). Printing g.W.Write.contents c.print_end.result c.args.sink.now c.print_end.new.sink c.args.page.now c.print_end.new.page l)
    line (prints_behind c.in-Ok.ensures c.print_end.ensures)

pub returns-in-Err : goal.returns-in-Err
returns-in-Err g c =
    let bad = c.args.bad.now in
    let rest = all_standing c.args.decls.now bad.standing.items ++ picks_text bad.picks.items in
    subst (λ (w : List ℕ). Printing g.W.Write.contents (Err c.in-Err.fault) c.args.sink.now c.print_how_often.new.sink c.args.page.now
    c.print_how_often.new.page (how_often w [] bad.runs c.args.all ++ rest)) c.end_words.ensures (breaks_off_before rest c.in-Err.ensures)
