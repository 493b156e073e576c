use Rattle.std.proofs.Common.{◌≡◌, ℕ, List, [], ◌∷◌, ◌++◌, decimal, subst, ◌∙◌}
use Rattle.race_records.specs.Page.{Printing, joined}
use Rattle.race_tool.specs.Explore.{counts_line}
use Rattle.race_tool.proofs.explore_printing.print_counts.Goals as goal

pub returns : goal.returns
returns g c =
    let e = c.args.explored.now in
    let runs : c.as_bytes.result.now ≡ decimal e.runs = c.as_bytes.ensures.value ∙ c.format.ensures.text in
    let clean : c.as_bytes-2.result.now ≡ decimal e.clean = c.as_bytes-2.ensures.value ∙ c.format-2.ensures.text in
    let races : c.as_bytes-3.result.now ≡ decimal e.races = c.as_bytes-3.ensures.value ∙ c.format-3.ensures.text in
    let deadlocks : c.as_bytes-4.result.now ≡ decimal e.deadlocks = c.as_bytes-4.ensures.value ∙ c.format-4.ensures.text in
    let faults : c.as_bytes-5.result.now ≡ decimal e.faults = c.as_bytes-5.ensures.value ∙ c.format-5.ensures.text in
    let parts = c.as_slice.result ∷ c.as_bytes.result ∷ c.as_slice-2.result ∷ c.as_bytes-2.result ∷ c.as_slice-3.result ∷ c.as_bytes-3.result
    ∷ c.as_slice-4.result ∷ c.as_bytes-4.result ∷ c.as_slice-5.result ∷ c.as_bytes-5.result ∷ c.as_slice-6.result ∷ [] in
    let line : joined parts ≡ counts_line e =
    (λ i. c.as_slice.ensures i ++ (runs i ++ (c.as_slice-2.ensures i ++ (clean i ++ (c.as_slice-3.ensures i ++ (races i
    ++ (c.as_slice-4.ensures i ++ (deadlocks i ++ (c.as_slice-5.ensures i ++ (faults i ++ (c.as_slice-6.ensures i ++ []))))))))))) in
    subst (λ (l : List ℕ). Printing g.W.Write.contents c.put_all.result c.args.sink.now c.put_all.new.sink c.args.page.now c.put_all.new.self l)
    line c.put_all.ensures
