use Rattle.std.proofs.Common.{◌≡◌, ℕ, Bool, false, nat_eq, List, [], ◌∷◌, ◌++◌, codes, ap, sym, ◌∙◌, arith, subst, if◌then◌else◌}
use Rattle.std.proofs.lemmas.Bool.Decides.{nat_tests}
use Rattle.std.specs.{List.concat, Prelude.decimal}
use Rattle.race_records.specs.Page.{Printing, joined}
use Rattle.race_tool.specs.Explore.{skipped_line}
use Rattle.race_tool.proofs.explore_printing.print_skipped.Goals as goal

-- the line, where there are some
abbrev line_of : ℕ → List ℕ
line_of n = concat (codes "skipped: " ∷ decimal n ∷ codes " runs that differ from others only in the order of independent steps\n" ∷ [])

some_line : (n : ℕ) → (n ≡ 0 → ⊥) → line_of n ≡ skipped_line n
some_line n some =
    let is : nat_eq n 0 ≡ false = grind (arith, nat_tests) in
    sym (ap (λ (b : Bool). if b then [] else line_of n) is)

pub returns : goal.returns
returns g c =
    let n = c.args.skipped in
    let number : c.as_bytes.result.now ≡ decimal n = c.as_bytes.ensures.value ∙ c.format.ensures.text in
    let parts = c.as_slice.result ∷ c.as_bytes.result ∷ c.as_slice-2.result ∷ [] in
    let line : joined parts ≡ line_of n = (λ i. c.as_slice.ensures i ++ (number i ++ (c.as_slice-2.ensures i ++ []))) in
    subst (λ (l : List ℕ). Printing g.W.Write.contents c.put_all.result c.args.sink.now c.put_all.new.sink c.args.page.now c.put_all.new.self l)
    (line ∙ some_line n c.if-skipped-eq0.false) c.put_all.ensures
