use Rattle.std.proofs.Common.{sym, subst}
use Rattle.race_records.specs.Page.{Printing}
use Rattle.race_report.specs.Noted.{races_noted_text, report_noted}
use Rattle.race_report.proofs.noted.print_noted_report.Goals as goal

pub returns-in-Illegal : goal.returns-in-Illegal
returns-in-Illegal g c =
    subst (λ v. Printing g.W.Write.contents c.print_illegal.result c.args.sink.now c.print_illegal.new.sink c.args.page.now c.print_illegal.new.page
    (report_noted c.args.decls.now v)) (sym c.in-Illegal.is) c.print_illegal.ensures

pub returns-in-Clean : goal.returns-in-Clean
returns-in-Clean g c =
    subst (λ v. Printing g.W.Write.contents c.print_clean.result c.args.sink.now c.print_clean.new.sink c.args.page.now c.print_clean.new.page
    (report_noted c.args.decls.now v)) (sym c.in-Clean.is) c.print_clean.ensures

pub returns-in-Races : goal.returns-in-Races
returns-in-Races g c =
    subst (λ v. Printing g.W.Write.contents c.print_noted_races.result
    c.args.sink.now c.print_noted_races.new.sink c.args.page.now c.print_noted_races.new.page
    (report_noted c.args.decls.now v)) (sym c.in-Races.is)
    (subst (λ races. Printing g.W.Write.contents c.print_noted_races.result
    c.args.sink.now c.print_noted_races.new.sink c.args.page.now c.print_noted_races.new.page (races_noted_text c.args.decls.now races))
    c.as_slice.ensures.value c.print_noted_races.ensures)
