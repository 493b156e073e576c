use Rattle.std.proofs.Common.{Some, Ok, ap, ◌∙◌}
use Rattle.race_records.{specs.declared.sink.WriteFault.WriteFault, proofs.PageLemmas.flushed}
use Rattle.race_explain.proofs.shown.returned.Goals as goal

pub returns : goal.returns
returns g c before blank text none unsent prints =
    let printed = rw c.in-Ok.is at prints in
    ap (λ v. v.items) c.into_writer.ensures
    ∙ flushed (Some before) (Some c.args.sink.writer.items) blank c.args.page.now text none unsent {E = WriteFault} (Ok tt)
    (Some c.flush.new.sink.writer.items) c.flush.new.self printed c.in-Ok-flush.ensures.empty c.in-Ok-flush.ensures.ok
