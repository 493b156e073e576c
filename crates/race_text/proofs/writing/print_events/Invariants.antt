use Rattle.std.proofs.Common.{Ok, take}
use Rattle.race_records.specs.Page.{Printing}
use Rattle.race_text.specs.Writing.{events_text}
use Rattle.race_text.proofs.writing.print_events.Given as goal

-- the events before the index are printed
abbrev pub invariant-loop-event : goal.invariant-loop-event
invariant-loop-event g l = Printing g.W.Write.contents (Ok tt) l.initial.sink l.sink l.initial.page l.page (events_text l.decls (take l.event-index l.events))
