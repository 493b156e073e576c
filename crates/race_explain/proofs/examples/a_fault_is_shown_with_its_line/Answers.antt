use Rattle.std.proofs.Common.{◌≡◌, ℕ, ◌-◌, ◌≤◌, ◌++◌, Option, None, Some, List, [], drop, map, replicate, slice_get, codes, refl, ap, ◌∙◌, arith}
use Rattle.std.{specs.Fmt.digits, proofs.lemmas.Option.same_Some}
use Rattle.race_report.specs.Report.{fault_line}
use Rattle.race_explain.specs.Marked.{marked_line, visible, shown_from, first_shown}
use Rattle.race_explain.proofs.examples.a_fault_is_shown_with_its_line.Goals as goal

-- of a short line all is shown
short : (line : List ℕ) (column : ℕ) → column ≤ 120
    → marked_line line column
    ≡ codes "  \"" ++ (map visible (shown_from 0 line) ++ (codes "\"\n   " ++ (replicate (column - 0) 32 ++ codes "^\n")))
unfolding marked_line
short line column less =
    ap (λ from. codes "  \"" ++ (map visible (shown_from from line) ++ (codes "\"\n   " ++ (replicate (column - from) 32 ++ codes "^\n")))) first
  where
    first : first_shown column ≡ 0
    first = omega (arith, less)

pub returns-clause-shown : goal.returns-clause-shown
unfolding fault_line marked_line digits
returns-clause-shown c = (
  codes "  \"var x\"\n   ^\nwhy\n",
  record { column = 0; within = omega arith; at_fault = tt; words = codes "why\n"; text_is = refl },
  refl,
)

pub returns-clause-another_line : goal.returns-clause-another_line
unfolding fault_line digits
returns-clause-another_line c = λ (text, is, same).
    let within = is.within in
    let whole = short (codes "var x") is.column (omega (arith, within)) in
    no_var (ap (λ (t : List ℕ). slice_get (drop 20 t) 3) same ∙ ap (λ (t : List ℕ). slice_get t 3) (is.text_is ∙ ap (λ t. t ++ is.words) whole))
  where
    no_var : ◌≡◌ {A = Option ℕ} (Some 103) (Some 118) → ⊥
    no_var byte = let same = same_Some 103 118 byte in absurd (omega (arith, same))

pub returns-clause-nothing : goal.returns-clause-nothing
unfolding fault_line marked_line digits
returns-clause-nothing c = λ (text, is, same).
    no_byte (ap (λ (t : List ℕ). slice_get (drop 20 t) 0) same ∙ ap (λ (t : List ℕ). slice_get t 0) is.text_is)
  where
    no_byte : ◌≡◌ {A = Option ℕ} None (Some 32) → ⊥
    no_byte byte = cc

pub returns-clause-no_line : goal.returns-clause-no_line
unfolding fault_line digits
returns-clause-no_line c = ([], refl, refl)
