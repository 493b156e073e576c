use Rattle.std.proofs.Common.{◌≡◌, ℕ, ◌+◌, List, [], ◌∷◌, ◌++◌, decimal, subst, ap, ◌∙◌}
use Rattle.race_records.specs.Page.{Printing, joined}
use Rattle.race_report.specs.Report.{access_told, race_told}
use Rattle.race_report.proofs.verdict.print_race_words.Goals as goal

pub returns : goal.returns
returns g c =
    let first = c.args.first in
    let second = c.args.second in
    let var = c.args.var.now in
    let number = c.as_bytes.result.now in
    let number2 = c.as_bytes-2.result.now in
    let parts = c.as_slice.result ∷ c.args.var ∷ c.as_slice-2.result ∷ first.what ∷ c.as_slice-3.result
    ∷ first.who ∷ c.as_slice-4.result ∷ first.place ∷ c.as_slice-5.result ∷ c.as_bytes.result
    ∷ c.as_slice-6.result ∷ second.what ∷ c.as_slice-7.result ∷ second.who ∷ c.as_slice-8.result
    ∷ second.place ∷ c.as_slice-9.result ∷ c.as_bytes-2.result ∷ c.as_slice-10.result ∷ [] in
    let numbered : number ≡ decimal (first.at + 1) = c.as_bytes.ensures.value ∙ c.format.ensures.text ∙ ap (λ n. decimal (n + 1)) c.from.ensures in
    let numbered2 : number2 ≡ decimal (second.at + 1) = c.as_bytes-2.ensures.value ∙ c.format-2.ensures.text ∙ ap (λ n. decimal (n + 1)) c.from-2.ensures in
    let line : joined parts ≡ race_told var (access_told first.what.now first.who.now first.place.now first.at)
    (access_told second.what.now second.who.now second.place.now second.at) =
    (λ i. c.as_slice.ensures i ++ (var ++ (c.as_slice-2.ensures i
    ++ (first.what.now ++ (c.as_slice-3.ensures i ++ (first.who.now ++ (c.as_slice-4.ensures i ++ (first.place.now ++ (c.as_slice-5.ensures i ++ (numbered i
    ++ (c.as_slice-6.ensures i ++ (second.what.now ++ (c.as_slice-7.ensures i ++ (second.who.now
    ++ (c.as_slice-8.ensures i ++ (second.place.now ++ (c.as_slice-9.ensures i ++ (numbered2 i ++ (c.as_slice-10.ensures i ++ [])))))))))))))))))))
    in
    subst (λ (l : List ℕ). Printing g.W.Write.contents c.put_all.result c.args.sink.now c.put_all.new.sink c.args.page.now c.put_all.new.self l)
    line c.put_all.ensures
