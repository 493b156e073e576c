use Rattle.std.proofs.Common.{◌≡◌, ℕ, ◌++◌, Option, Some, slice_get, codes, refl, ap, ◌∙◌, arith, List, []}
use Rattle.race_explain.specs.Marked.{marked_line}
use Rattle.race_explain.proofs.examples.a_mark_stands_where_the_fault_is.Goals as goal

pub returns-clause-no_newline : goal.returns-clause-no_newline
returns-clause-no_newline c = record { column = 3; within = omega arith; at_fault = refl; words = codes "why\n"; text_is = refl }

pub returns-clause-before_the_end : goal.returns-clause-before_the_end
unfolding marked_line
returns-clause-before_the_end c = λ is.
    let same : marked_line (codes "var") 2 ≡ marked_line (codes "var") 3 ++ is.words =
    is.text_is ∙ ap (λ n. marked_line (codes "var") n ++ is.words) is.at_fault in
    let byte : ◌≡◌ {A = Option ℕ} (Some 94) (Some 32) = ap (λ (t : List ℕ). slice_get t 13) same in cc

pub returns-clause-past_the_end : goal.returns-clause-past_the_end
unfolding marked_line
returns-clause-past_the_end c = λ is.
    let within = is.within in
    let none : is.column ≡ 0 = omega (arith, within) in
    let same : marked_line [] 1 ≡ marked_line [] 0 ++ is.words = is.text_is ∙ ap (λ n. marked_line [] n ++ is.words) none in
    let byte : ◌≡◌ {A = Option ℕ} (Some 32) (Some 94) = ap (λ (t : List ℕ). slice_get t 8) same in cc
