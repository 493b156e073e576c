use Rattle.std.proofs.Common.{◌≡◌, ℕ, List, [], unwrap_or, subst, sym, ap, ◌∙◌}
use Rattle.race_records.specs.{Declarations.DeclsState, Page.Printing}
use Rattle.race_verdict.specs.Races.{race_of}
use Rattle.race_text.specs.Text.{var_name}
use Rattle.race_report.proofs.ReportLemmas.{race_line_is}
use Rattle.race_report.proofs.verdict.print_race.Goals as goal

pub returns : goal.returns
returns g c =
    let var = c.as_bytes.result.now in
    let named : var ≡ var_name c.args.trace.now.decls.declarations c.args.race.var = c.as_bytes.ensures.value
    ∙ sym (ap (λ o. unwrap_or o []) c.name-var.ensures) ∙ ap (λ (d : DeclsState). var_name d.declarations c.args.race.var) c.decls.ensures.decls in
    let line = race_line_is c.args.trace.now (race_of c.args.race) var _ _ named c.access_words-first.ensures c.access_words-second.ensures in
    subst (λ (l : List ℕ). Printing g.W.Write.contents c.print_race_words.result
    c.args.sink.now c.print_race_words.new.sink c.args.page.now c.print_race_words.new.page l)
    line c.print_race_words.ensures
