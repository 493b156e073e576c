use Rattle.std.proofs.{lemmas.Grind.common_steps, Common.{Err, IsTrue, subst, sym, arith}}
use Rattle.race_records.specs.{declared.event.Event.Event, Events.fits, Page.Printing}
use Rattle.race_records.proofs.PageLemmas.{piece_breaks_off}
use Rattle.race_text.specs.Text.{ended, event_line}
use Rattle.race_text.proofs.writing.print_events.Goals as goal

pub returns-in-Err : goal.returns-in-Err
returns-in-Err g c = piece_breaks_off (λ (e : Event). ended (event_line c.args.decls.now e))
    c.args.events.now c.loop-event.event-index c.event-item.result c.loop-event-test.true c.loop-event.invariant
    (subst (λ (e : Event). Printing g.W.Write.contents (Err c.in-Err.fault) c.loop-event.sink c.print_event.new.sink
    c.loop-event.page c.print_event.new.page (ended (event_line c.args.decls.now e))) c.event-item.is c.in-Err.ensures)

pub returns : goal.returns
returns c = grind (arith, common_steps) steps 300000

pub print_event-requires : goal.print_event-requires
print_event-requires g c = subst (λ (e : Event). IsTrue (fits c.args.decls.now e)) (sym c.event-item.is)
    (c.requires c.loop-event.event-index c.event-item.result c.loop-event-test.true)
