use Rattle.race_records.proofs.PageLemmas.{prints_behind, breaks_off_before}
use Rattle.race_text.specs.Writing.{events_text}
use Rattle.race_text.proofs.writing.print_body.Goals as goal

pub returns-in-Ok : goal.returns-in-Ok
returns-in-Ok g c = prints_behind c.in-Ok.ensures c.print_events.ensures

pub returns-in-Err : goal.returns-in-Err
returns-in-Err g c = breaks_off_before (events_text c.args.decls.now c.args.events.now) c.in-Err.ensures
