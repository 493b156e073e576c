use Rattle.std.proofs.Common.{◌≡◌, ℕ, List, [], ◌∷◌, subst, rules}
use Rattle.race_records.specs.Page.{Printing, joined}
use Rattle.race_report.specs.Report.{illegal_line}
use Rattle.race_legal.specs.Rules.{number_of}
use Rattle.race_report.proofs.verdict.print_illegal.Goals as goal

pub returns : goal.returns
unfolding illegal_line
returns g c =
    let parts = c.as_slice.result ∷ c.as_bytes.result ∷ c.as_slice-2.result ∷ c.as_bytes-2.result ∷ c.as_slice-3.result ∷ [] in
    let line : joined parts ≡ illegal_line c.args.illegal.at (number_of c.args.illegal.rule) = search rules in
    subst (λ (l : List ℕ). Printing g.W.Write.contents c.put_all.result c.args.sink.now c.put_all.new.sink c.args.page.now c.put_all.new.self l)
    line c.put_all.ensures
