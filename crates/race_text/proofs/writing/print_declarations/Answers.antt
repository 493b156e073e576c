use Rattle.std.proofs.Common.{◌<◌, Ok, Err, ℕ, List, ap, subst, sym, ◌∙◌, arith, length}
use Rattle.std.proofs.lemmas.Option.{get_or_from_slice_get}
use Rattle.race_records.{specs.{Declarations.Declaration, Page.Printing}, proofs.ListLemmas.slice_get-within}
use Rattle.race_records.proofs.PageLemmas.{piece_behind, piece_breaks_off}
use Rattle.race_text.specs.{Text.{ended, declaration_line}, Writing.text_of}
use Rattle.race_text.proofs.writing.print_declarations.Goals as goal

pub returns-in-Err : goal.returns-in-Err
returns-in-Err g c =
    let ds = c.args.decls.now.declarations in
    let i = c.loop-index.index in
    let within : i < length ds = omega (arith, c.loop-index-test.true, c.len-index-end.ensures.len) in
    let found = slice_get-within ds i within in
    let is = ap text_of found.1 ∙ ap (λ (d : Declaration). ended (declaration_line d)) (sym (get_or_from_slice_get ds i found.0 found.0 found.1)) in
    piece_breaks_off (λ (d : Declaration). ended (declaration_line d)) ds i found.0 within c.loop-index.invariant
    (subst (λ (l : List ℕ). Printing g.W.Write.contents (Err c.in-Err.fault)
    c.loop-index.sink c.print_declaration.new.sink c.loop-index.page c.print_declaration.new.page l)
    is c.in-Err.ensures)

pub loop-index-preserved : goal.loop-index-preserved
loop-index-preserved g c =
    let ds = c.args.decls.now.declarations in
    let i = c.loop-index.index in
    let within : i < length ds = omega (arith, c.loop-index-test.true, c.len-index-end.ensures.len) in
    let found = slice_get-within ds i within in
    let is = ap text_of found.1 ∙ ap (λ (d : Declaration). ended (declaration_line d)) (sym (get_or_from_slice_get ds i found.0 found.0 found.1)) in
    piece_behind (λ (d : Declaration). ended (declaration_line d)) ds i found.0 within c.loop-index.invariant
    (subst (λ (l : List ℕ). Printing g.W.Write.contents (Ok tt) c.loop-index.sink c.print_declaration.new.sink c.loop-index.page c.print_declaration.new.page l)
    is c.in_default.ensures)
