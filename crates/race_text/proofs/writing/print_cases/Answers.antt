use Rattle.std.proofs.Common.{◌≡◌, ◌<◌, ◌≤◌, ◌∙◌, ◌∷◌, ℕ, List, [], length, get_or, Ok, Err, sym, ap, subst, arith}
use Rattle.std.proofs.lemmas.{List.{take_all, Sums.AllPass-from_list_all}, Option.get_or_from_slice_get}
use Rattle.std.specs.List.{flat_map}
use Rattle.race_records.specs.{declared.{cases.Case.Case, kind.Kind.Kind}, Declarations.count_of, Page.Printing}
use Rattle.race_records.{specs.Operands.case_is_in_range, proofs.PageLemmas.{piece_behind, piece_breaks_off}}
use Rattle.race_text.{specs.{Text.case_text, Writing.separator}, proofs.CasePieces.{all_pieces, pieces_len, piece_at}}
use Rattle.race_text.proofs.CasePieces.{pieces_printed, some_case}
use Rattle.race_text.proofs.writing.print_cases.Goals as goal

pub print_case-requires : goal.print_case-requires
print_case-requires g c =
    let fits = case_is_in_range (count_of Kind.Chan c.args.decls.now.declarations) in
    let cases = c.args.cases.now in
    let case = c.get.result in
    let within : c.loop-k.k < length cases = omega (arith, c.len-k-end.ensures.len, c.loop-k-test.true) in
    ap fits (sym (get_or_from_slice_get cases c.loop-k.k case case c.get.ensures)) ∙ AllPass-from_list_all fits cases c.requires c.loop-k.k case within

pub returns-in-Err : goal.returns-in-Err
returns-in-Err g c =
    let ds = c.args.decls.now.declarations in
    let cases = c.args.cases.now in
    let case = c.get.result in
    let k = c.loop-k.k in
    let within : k < length cases = omega (arith, c.len-k-end.ensures.len, c.loop-k-test.true) in
    let piece : separator k ∷ case_text ds case ≡ get_or (all_pieces ds cases) k [] =
    ap (λ (x : Case). separator k ∷ case_text ds x) (sym (get_or_from_slice_get cases k case case c.get.ensures)) ∙ sym (piece_at ds cases k case [] within) in
    subst (λ (l : List ℕ). Printing g.W.Write.contents (Err c.in-Err.fault) c.args.sink.now c.print_case.new.sink c.args.page.now c.print_case.new.page l)
    (pieces_printed ds cases (omega (arith, within)))
    (piece_breaks_off (λ w. w) (all_pieces ds cases) k [] (omega (arith, within, pieces_len ds 32 cases)) c.loop-k.invariant
    (subst (λ (l : List ℕ). Printing g.W.Write.contents (Err c.in-Err.fault) c.loop-k.sink c.print_case.new.sink c.loop-k.page c.print_case.new.page l)
    piece c.in-Err.ensures))

pub loop-k-preserved : goal.loop-k-preserved
loop-k-preserved g c =
    let ds = c.args.decls.now.declarations in
    let cases = c.args.cases.now in
    let case = c.get.result in
    let k = c.loop-k.k in
    let within : k < length cases = omega (arith, c.len-k-end.ensures.len, c.loop-k-test.true) in
    let piece : separator k ∷ case_text ds case ≡ get_or (all_pieces ds cases) k [] =
    ap (λ (x : Case). separator k ∷ case_text ds x) (sym (get_or_from_slice_get cases k case case c.get.ensures)) ∙ sym (piece_at ds cases k case [] within) in
    piece_behind (λ w. w) (all_pieces ds cases) k [] (omega (arith, within, pieces_len ds 32 cases)) c.loop-k.invariant
    (subst (λ (l : List ℕ). Printing g.W.Write.contents (Ok tt) c.loop-k.sink c.print_case.new.sink c.loop-k.page c.print_case.new.page l)
    piece c.in_default.ensures)

pub returns : goal.returns
returns g c =
    let ds = c.args.decls.now.declarations in
    let cases = c.args.cases.now in
    let over : length (all_pieces ds cases) ≤ c.loop-k.k = omega (arith, c.len-k-end.ensures.len, c.loop-k-test.false, pieces_len ds 32 cases) in
    subst (λ (l : List ℕ). Printing g.W.Write.contents (Ok tt) c.args.sink.now c.loop-k.sink c.args.page.now c.loop-k.page l)
    (ap (flat_map (λ w. w)) (take_all c.loop-k.k (all_pieces ds cases) over)
    ∙ pieces_printed ds cases (some_case cases c.if-is_empty.ensures.1)) c.loop-k.invariant
