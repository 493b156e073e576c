use Rattle.std.proofs.Common.{◌≡◌, ℕ, ◌+◌, List, [], ◌∷◌, ◌++◌, codes, decimal, subst, sym, ap, ◌∙◌}
use Rattle.race_records.specs.Page.{Printing, joined}
use Rattle.race_report.proofs.AccessLines.{access_line_is}
use Rattle.race_report.proofs.witness_lines.print_access.Goals as goal

pub returns : goal.returns
returns g c =
    let access = c.line_words-access.result in
    let number = c.as_bytes.result.now in
    let parts = c.as_bytes.result ∷ c.as_slice.result ∷ access.what ∷ c.as_slice-2.result ∷ access.who
    ∷ c.as_slice-3.result ∷ access.var ∷ c.as_slice-4.result ∷ [] in
    let pieces : joined parts ≡ number ++ (codes " " ++ (access.what.now ++ (codes " " ++ (access.who.now ++ (codes " " ++ (access.var.now ++ ((10 ∷ []) ++ [])))))))
    =
    (λ i. number ++ (c.as_slice.ensures i ++ (access.what.now ++ (c.as_slice-2.ensures i ++ (access.who.now
    ++ (c.as_slice-3.ensures i ++ (access.var.now ++ (c.as_slice-4.ensures i ++ [])))))))) in
    let numbered : number ≡ decimal (c.args.index + 1) = c.as_bytes.ensures.value ∙ c.format.ensures.text ∙ ap (λ n. decimal (n + 1)) c.from.ensures in
    let line = pieces ∙ sym (access_line_is c.args.trace.now c.args.index access.what.now access.who.now access.var.now number
    c.requires c.line_words-access.ensures numbered) in
    subst (λ (l : List ℕ). Printing g.W.Write.contents c.put_all.result c.args.sink.now c.put_all.new.sink c.args.page.now c.put_all.new.self l)
    line c.put_all.ensures
