use Rattle.std.proofs.Common.{ℕ, List, subst}
use Rattle.race_records.{specs.Page.Printing, proofs.PageLemmas.{breaks_off_before, prints_behind}}
use Rattle.race_tool.specs.Explore.{access_words, place_of}
use Rattle.race_tool.proofs.explore_printing.print_access.Goals as goal

pub returns-in-Ok : goal.returns-in-Ok
returns-in-Ok g c =
    let access = c.args.access.now in
    prints_behind c.in-Ok.ensures (subst (λ (w : List ℕ). Printing g.W.Write.contents c.print_place.result c.put.new.sink c.print_place.new.sink
    c.put.new.self c.print_place.new.page (place_of c.args.decls.now w access.who access.place)) c.access_words.ensures c.print_place.ensures)

pub returns-in-Err : goal.returns-in-Err
returns-in-Err g c =
    let access = c.args.access.now in
    breaks_off_before (place_of c.args.decls.now (access_words access.write) access.who access.place) c.in-Err.ensures
