use Rattle.std.proofs.Common.{◌∙◌, length, ap, sym, subst}
use Rattle.race_record.specs.Noting.{Notes, no_event, turn}
use Rattle.race_record.proofs.{SerialLemmas.{turn_fewer, turn_keeps, fired_nearer}, NotingLemmas.{notes_on, is_noted_out}}
use Rattle.race_record.proofs.noting.run_noting.Goals as goal

pub events-init : goal.events-init
events-init g c = record {
  notes = subst (λ forks. Notes g.R.Routine.asks c.args.picks.now c.args.hub.now forks c.args.hub.now) (sym c.clear.ensures.items) no_event;
  back = c.requires.back;
}

pub turns-smaller : goal.turns-smaller
turns-smaller g c = turn_fewer g.R.Routine.asks c.turns.hub c.turn_next.new.hub (c.in_ok-turn_next.ensures.turned c.if-branch.true)

pub turns-preserved : goal.turns-preserved
turns-preserved g c =
    let turned = c.in_ok-turn_next.ensures.turned c.if-branch.true in
    let keeps = turn_keeps g.R.Routine.asks c.turns.hub c.turn_next.new.hub turned in
    record {
      notes = turn _ c.turns.hub c.turn_next.new.hub c.turns.invariant.notes turned;
      back = c.in_ok-turn_next.ensures.back c.if-branch.true;
      events = keeps.0 ∙ c.turns.invariant.events;
      limit = keeps.1 ∙ c.turns.invariant.limit;
    }

pub events-smaller : goal.events-smaller
events-smaller g c =
    let idle = (c.in_ok-turn_next.ensures.idle c.if-branch.false).0 in
    fired_nearer c.next_pick-pick.result c.events.hub c.turn_next.new.hub c.fire.new.self (ap (λ h. h.events) idle ∙ c.turns.invariant.events)
    (ap (λ h. h.limit) idle ∙ c.turns.invariant.limit) c.trace-limited.ensures.limited (c.in_ok-fire.ensures.fired c.if-not-branch.false)

pub events-preserved : goal.events-preserved
events-preserved g c =
    let idle = c.in_ok-turn_next.ensures.idle c.if-branch.false in
    let fired = c.in_ok-fire.ensures.fired c.if-not-branch.false in
    let (decls, limit, out, bad) = fired.fires.same in
    record {
      notes = notes_on g.R.Routine.asks c.args.picks.now c.args.hub.now c.events.forks.items _ c.turns.hub c.turn_next.new.hub c.fire.new.self
          c.next_pick-pick.result (length c.as_slice-made.result.now) c.has_choice-more.result c.turns.invariant.notes idle.0 idle.1 (ap length c.as_slice-made.ensures.value) c.next_pick-pick.ensures.is
          c.has_choice-more.ensures fired c.in_ok-push.ensures.items;
      back = out ∙ ap (λ h. h.out) idle.0 ∙ c.turns.invariant.back;
    }

pub returns-then-not-branch : goal.returns-then-not-branch
returns-then-not-branch g c =
    let idle = c.in_ok-turn_next.ensures.idle c.if-branch.false in
    let stuck = c.in_ok-fire.ensures.idle c.if-not-branch.true in
    is_noted_out g.R.Routine.asks c.args.picks.now c.args.hub.now c.events.forks.items c.turns.hub c.turn_next.new.hub c.fire.new.self
    c.turns.invariant.notes c.turns.invariant.back idle.0 idle.1 stuck.0 stuck.1
