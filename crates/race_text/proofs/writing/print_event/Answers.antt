use Rattle.std.{proofs.Common.{ℕ, List, ◌++◌, ap, ◌∙◌, Err, subst}, specs.{List.list_all, Option.option_map}}
use Rattle.race_records.{specs.{Operands.operand_fits, Page.Printing}, proofs.EventLemmas.second_in_range}
use Rattle.race_records.proofs.PageLemmas.{prints_behind, breaks_off_before}
use Rattle.race_text.{specs.Writing.{operands_text, place_end}, proofs.WritingLemmas.{event_text, who_is_declared}}
use Rattle.race_text.proofs.WritingLemmas.{place_in_range, operands_fit}
use Rattle.race_text.proofs.writing.print_event.Goals as goal

pub returns-in-Ok : goal.returns-in-Ok
returns-in-Ok g c =
    let operands = c.as_slice.result.now in
    let whole = event_text c.args.decls.now c.args.event.now c.op_keyword_text.result.now c.name-who.result.now
    c.place_text-place.result.now (option_map (λ place. place.now) c.second_text-place2.result) c.says-op_keyword.result.0 operands
    c.op_keyword_text.ensures c.says-op_keyword.ensures.keyword (c.as_slice.ensures.value ∙ c.says-op_keyword.ensures.operands)
    c.name-who.ensures c.place_text-place.ensures c.second_text-place2.ensures in
    subst (λ (l : List ℕ). Printing g.W.Write.contents c.print_behind.result c.args.sink.now c.print_behind.new.sink c.args.page.now c.print_behind.new.page l)
    whole (prints_behind c.in-Ok.ensures c.print_behind.ensures)

pub returns-in-Err : goal.returns-in-Err
returns-in-Err g c =
    let ds = c.args.decls.now.declarations in
    let operands = c.says-op_keyword.result.1.items in
    let whole = event_text c.args.decls.now c.args.event.now c.op_keyword_text.result.now c.name-who.result.now
    c.place_text-place.result.now (option_map (λ place. place.now) c.second_text-place2.result) c.says-op_keyword.result.0 operands
    c.op_keyword_text.ensures c.says-op_keyword.ensures.keyword (c.says-op_keyword.ensures.operands) c.name-who.ensures c.place_text-place.ensures c.second_text-place2.ensures in
    subst (λ (l : List ℕ). Printing g.W.Write.contents (Err c.in-Err.fault)
    c.args.sink.now c.print_first.new.sink c.args.page.now c.print_first.new.page l) whole
    (breaks_off_before (operands_text ds operands ++ place_end c.place_text-place.result.now (option_map (λ place. place.now) c.second_text-place2.result))
    c.in-Err.ensures)

pub name-who-requires : goal.name-who-requires
name-who-requires g c = who_is_declared c.args.decls.now c.args.event.now c.requires

pub place_text-place-requires : goal.place_text-place-requires
place_text-place-requires g c = place_in_range c.args.decls.now c.args.event.now c.requires

pub second_text-place2-requires : goal.second_text-place2-requires
second_text-place2-requires g c = second_in_range c.args.decls.now c.args.event.now c.requires

pub print_behind-requires : goal.print_behind-requires
print_behind-requires g c =
    ap (list_all (operand_fits c.args.decls.now.declarations)) (c.as_slice.ensures.value ∙ c.says-op_keyword.ensures.operands)
    ∙ operands_fit c.args.decls.now c.args.event.now c.requires
