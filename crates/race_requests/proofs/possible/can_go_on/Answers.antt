-- The event of the request alone breaks no rule just where none is told.
use Rattle.std.proofs.Common.{Option, Some, None, is_none, sym, ap, subst, ◌∙◌}
use Rattle.race_records.specs.{declared.event.{Event.Event, Op.Op}, Declarations.capacity_of}
use Rattle.race_legal.specs.ReplayState.{IsInRange, counts_in}
use Rattle.race_requests.{specs.Choices.is_legal_next, proofs.PossibleLemmas.none_is_told}
use Rattle.race_requests.proofs.possible.can_go_on.Goals as goal

pub breaks-requires : goal.breaks-requires
breaks-requires g c = subst (IsInRange (counts_in c.args.replay.now)) (sym c.event_alone.ensures) (c.requires.who, c.in-Some.ensures.range)

pub returns-in-Some : goal.returns-in-Some
returns-in-Some g c past S =
    let D = c.args.decls.now.declarations in
    let w = c.args.waiter.now in
    none_is_told c.breaks.result c.is_none.result c.is_none.ensures ∙ ap is_none (sym (c.breaks.ensures D past S))
    ∙ ap (is_legal_next (capacity_of D) past)
    (ap (λ (e : Event). Some e) c.event_alone.ensures
    ∙ ap (λ (o : Option Op). elim o [
      | None ↦ None
      | Some op ↦ Some (record { who = w.who; op = op; place = w.asked.place; place2 = None })
    ]) (c.in-Some.ensures.op D past S))

pub returns-in-None : goal.returns-in-None
returns-in-None g c past S =
    let D = c.args.decls.now.declarations in
    let w = c.args.waiter.now in
    ap (λ (o : Option Op). is_legal_next (capacity_of D) past (elim o [
      | None ↦ None
      | Some op ↦ Some (record { who = w.who; op = op; place = w.asked.place; place2 = None })
    ])) (c.in-None.ensures.op D past S)
