use Rattle.std.proofs.Common.{◌≡◌, [], unwrap_or, sym, ap, ◌∙◌}
use Rattle.race_text.specs.Text.{goroutine_name, place_text}
use Rattle.race_report.specs.{Report.access_told, Noted.noted_word}
use Rattle.race_report.proofs.noted.noted_words.Goals as goal

pub returns : goal.returns
returns g c =
    let decls = c.args.decls.now in
    let n = c.args.noted.now in
    let what : c.as_bytes.result.now ≡ noted_word n.write = c.as_bytes.ensures.value ∙ c.access_name.ensures in
    let who : c.as_bytes-2.result.now ≡ goroutine_name decls.declarations n.who = c.as_bytes-2.ensures.value ∙ sym (ap (λ o. unwrap_or o []) c.name.ensures) in
    let place : c.as_bytes-3.result.now ≡ place_text decls.places n.place = c.as_bytes-3.ensures.value ∙ sym (ap (λ o. unwrap_or o []) c.place_text.ensures) in
    λ i. access_told (what i) (who i) (place i) n.at
