use Rattle.std.proofs.Common.{◌≡◌, ℕ, List, [], unwrap_or, sym, ap, ◌∙◌, subst}
use Rattle.race_records.specs.Page.{Printing}
use Rattle.race_text.specs.Text.{var_name}
use Rattle.race_report.specs.{Report.{access_told, race_told}, Noted.race_noted_line}
use Rattle.race_report.proofs.noted.print_noted_race.Goals as goal

pub returns : goal.returns
returns g c =
    let named : c.as_bytes.result.now ≡ var_name c.args.decls.now.declarations c.args.race.now.var =
    c.as_bytes.ensures.value ∙ sym (ap (λ o. unwrap_or o []) c.name-var.ensures) in
    let first = c.noted_words-first.result in
    let second = c.noted_words-second.result in
    let line : race_told c.as_bytes.result.now (access_told first.what.now first.who.now first.place.now first.at)
    (access_told second.what.now second.who.now second.place.now second.at) ≡ race_noted_line c.args.decls.now c.args.race.now =
    λ i. race_told (named i) (c.noted_words-first.ensures i) (c.noted_words-second.ensures i) in
    subst (λ (l : List ℕ). Printing g.W.Write.contents c.print_race_words.result
    c.args.sink.now c.print_race_words.new.sink c.args.page.now c.print_race_words.new.page l)
    line c.print_race_words.ensures
