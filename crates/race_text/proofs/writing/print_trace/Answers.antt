use Rattle.std.proofs.Common.{◌++◌, ℕ, List, Err, ap, ◌∙◌, subst}
use Rattle.race_records.{specs.Page.Printing, proofs.PageLemmas.{prints_behind, breaks_off_before}}
use Rattle.race_text.specs.{Text.{header, ended}, Writing.body}
use Rattle.race_text.proofs.writing.print_trace.Goals as goal

pub returns-in-Ok : goal.returns-in-Ok
returns-in-Ok g c =
    subst (λ (first : List ℕ). Printing g.W.Write.contents c.print_body.result c.args.sink.now c.print_body.new.sink c.args.page.now c.print_body.new.page
    (first ++ body c.args.decls.now c.args.events.now)) (c.header_line.ensures ∙ ap (λ v. ended (header v)) c.version.ensures)
    (prints_behind c.in-Ok.ensures c.print_body.ensures)

pub returns-in-Err : goal.returns-in-Err
returns-in-Err g c =
    subst (λ (first : List ℕ). Printing g.W.Write.contents (Err c.in-Err.fault) c.args.sink.now c.put.new.sink c.args.page.now c.put.new.self
    (first ++ body c.args.decls.now c.args.events.now)) (c.header_line.ensures ∙ ap (λ v. ended (header v)) c.version.ensures)
    (breaks_off_before (body c.args.decls.now c.args.events.now) c.in-Err.ensures)
