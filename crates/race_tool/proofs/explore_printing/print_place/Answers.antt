use Rattle.std.proofs.Common.{◌≡◌, ℕ, List, [], ◌∷◌, ◌++◌, subst}
use Rattle.race_records.specs.Page.{Printing, joined}
use Rattle.race_tool.specs.Explore.{place_of}
use Rattle.race_tool.proofs.explore_printing.print_place.Goals as goal

pub returns : goal.returns
returns g c =
    let decls = c.args.decls.now in
    let words = c.args.words.now in
    let parts = c.args.words ∷ c.goroutine_name.result ∷ c.as_slice.result ∷ c.place_text.result ∷ [] in
    let line : joined parts ≡ place_of decls words c.args.who c.args.place =
    (λ i. words ++ (c.goroutine_name.ensures i ++ (c.as_slice.ensures i ++ (c.place_text.ensures i ++ [])))) in
    subst (λ (l : List ℕ). Printing g.W.Write.contents c.put_all.result c.args.sink.now c.put_all.new.sink c.args.page.now c.put_all.new.self l)
    line c.put_all.ensures
