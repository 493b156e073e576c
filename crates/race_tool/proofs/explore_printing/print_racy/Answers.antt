use Rattle.std.proofs.Common.{◌≡◌, ◌++◌, Err, List, ℕ, codes, subst}
use Rattle.race_records.{specs.Page.Printing, proofs.PageLemmas.{breaks_off_before, prints_behind}}
use Rattle.race_tool.specs.Explore.{access_text, how_often, picks_text, racy_line}
use Rattle.race_tool.proofs.explore_printing.print_racy.Goals as goal

pub returns-in-Ok : goal.returns-in-Ok
returns-in-Ok g c =
    let v = c.args.variable.now in
    let decls = c.args.decls.now in
    let line : how_often (codes "race on ") c.var_name-name.result.now v.runs c.args.all
    ++ (access_text decls (codes ": ") v.race.first ++ (access_text decls (codes ", ") v.race.second ++ picks_text c.as_slice.result.now))
    ≡ racy_line decls c.args.all v =
    (λ i. how_often (codes "race on ") (c.var_name-name.ensures i) v.runs c.args.all
    ++ (access_text decls (codes ": ") v.race.first ++ (access_text decls (codes ", ") v.race.second ++ picks_text (c.as_slice.ensures.value i)))) in
    subst (λ (l : List ℕ). Printing g.W.Write.contents c.print_race.result c.args.sink.now c.print_race.new.sink c.args.page.now c.print_race.new.page l)
    line (prints_behind c.in-Ok.ensures c.print_race.ensures)

pub returns-in-Err : goal.returns-in-Err
returns-in-Err g c =
    let v = c.args.variable.now in
    let decls = c.args.decls.now in
    let rest = access_text decls (codes ": ") v.race.first ++ (access_text decls (codes ", ") v.race.second ++ picks_text v.picks.items) in
    subst (λ (w : List ℕ). Printing g.W.Write.contents (Err c.in-Err.fault) c.args.sink.now c.print_how_often.new.sink c.args.page.now
    c.print_how_often.new.page (how_often (codes "race on ") w v.runs c.args.all ++ rest)) c.var_name-name.ensures (breaks_off_before rest c.in-Err.ensures)
