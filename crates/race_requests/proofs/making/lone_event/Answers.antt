-- The event is made of the operation.
use Rattle.std.proofs.Common.{Option, Some, None, ap, ◌∙◌}
use Rattle.race_records.specs.declared.event.{Event.Event, Op.Op}
use Rattle.race_requests.proofs.making.lone_event.Goals as goal

pub returns-in-Some : goal.returns-in-Some
returns-in-Some g c D past S =
    ap (λ (e : Event). Some e) c.event_alone.ensures
    ∙ ap (λ (o : Option Op). elim o [
      | None ↦ None
      | Some op ↦ Some (record { who = c.args.waiter.now.who; op = op; place = c.args.waiter.now.asked.place; place2 = None })
    ]) (c.in-Some.ensures.op D past S)

pub returns-in-None : goal.returns-in-None
returns-in-None g c D past S =
    ap (λ (o : Option Op). elim o [
      | None ↦ None
      | Some op ↦ Some (record { who = c.args.waiter.now.who; op = op; place = c.args.waiter.now.asked.place; place2 = None })
    ]) (c.in-None.ensures.op D past S)
