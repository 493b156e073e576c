use Rattle.std.proofs.Common.{ℕ, List, Err, subst}
use Rattle.race_records.{specs.Page.Printing, proofs.PageLemmas.{prints_behind, breaks_off_before}}
use Rattle.race_text.{specs.Writing.number_end, proofs.WritingLemmas.declaration_printed}
use Rattle.race_text.proofs.writing.print_declaration.Goals as goal

pub returns-in-Ok : goal.returns-in-Ok
returns-in-Ok g c =
    let whole = declaration_printed c.args.decls.now.declarations c.args.index c.decl_keyword_text.result.now
    c.declaration-object.result.1.now c.declaration-object.result.0 c.object_says-decl_keyword.result
    c.declaration-object.ensures c.object_says-decl_keyword.ensures c.decl_keyword_text.ensures in
    subst (λ (l : List ℕ). Printing g.W.Write.contents c.print_number.result c.args.sink.now c.print_number.new.sink c.args.page.now c.print_number.new.page l)
    whole (prints_behind c.in-Ok.ensures c.print_number.ensures)

pub returns-in-Err : goal.returns-in-Err
returns-in-Err g c =
    let whole = declaration_printed c.args.decls.now.declarations c.args.index c.decl_keyword_text.result.now
    c.declaration-object.result.1.now c.declaration-object.result.0 c.object_says-decl_keyword.result
    c.declaration-object.ensures c.object_says-decl_keyword.ensures c.decl_keyword_text.ensures in
    subst (λ (l : List ℕ). Printing g.W.Write.contents (Err c.in-Err.fault) c.args.sink.now c.print_first.new.sink c.args.page.now c.print_first.new.page l)
    whole (breaks_off_before (number_end c.object_says-decl_keyword.result.1) c.in-Err.ensures)
