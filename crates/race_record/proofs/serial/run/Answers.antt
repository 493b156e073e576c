use Rattle.std.proofs.Common.{◌≡◌, ◌-◌, length, ap, ◌∙◌, arith}
use Rattle.race_record.specs.Serial.{begins, turns}
use Rattle.race_record.proofs.SerialLemmas.{turn_fewer, turn_keeps, comes_longer, fired_nearer, fired_comes, is_run_out}
use Rattle.race_record.proofs.serial.run.Goals as goal

pub events-init : goal.events-init
events-init g c = record { comes = begins; back = c.requires; begun = c.len-begun.ensures.len ∙ ap length c.trace.ensures.events }

pub turns-smaller : goal.turns-smaller
turns-smaller g c = turn_fewer g.R.Routine.asks c.turns.hub c.turn_next.new.hub (c.in_ok-turn_next.ensures.turned c.if-branch.true)

pub turns-preserved : goal.turns-preserved
turns-preserved g c =
    let turned = c.in_ok-turn_next.ensures.turned c.if-branch.true in
    let keeps = turn_keeps g.R.Routine.asks c.turns.hub c.turn_next.new.hub turned in
    record {
      comes = turns c.turns.hub c.turn_next.new.hub c.turns.invariant.comes turned;
      back = c.in_ok-turn_next.ensures.back c.if-branch.true;
      begun = c.turns.invariant.begun;
      events = keeps.0 ∙ c.turns.invariant.events;
      limit = keeps.1 ∙ c.turns.invariant.limit;
    }

pub overflow_sub-made : goal.overflow_sub-made
overflow_sub-made g c =
    let longer = comes_longer g.R.Routine.asks c.args.picks.now c.args.hub.now c.turns.hub c.turns.invariant.comes in
    let idle = (c.in_ok-turn_next.ensures.idle c.if-branch.false).0 in
    let len : c.len.result ≡ length c.turns.hub.events = c.len.ensures.len ∙ ap length c.trace-in-events.ensures.events ∙ ap (λ h. length h.events) idle in
    let begun = c.turns.invariant.begun in
    omega (arith, longer, len, begun)

pub events-smaller : goal.events-smaller
events-smaller g c =
    let idle = (c.in_ok-turn_next.ensures.idle c.if-branch.false).0 in
    fired_nearer c.pick_at.result c.events.hub c.turn_next.new.hub c.fire.new.self (ap (λ h. h.events) idle ∙ c.turns.invariant.events)
    (ap (λ h. h.limit) idle ∙ c.turns.invariant.limit) c.trace-in-events.ensures.limited (c.in_ok-fire.ensures.fired c.if-not-branch.false)

pub events-preserved : goal.events-preserved
events-preserved g c =
    let idle = c.in_ok-turn_next.ensures.idle c.if-branch.false in
    let fired = c.in_ok-fire.ensures.fired c.if-not-branch.false in
    let len : c.len.result ≡ length c.turn_next.new.hub.events = c.len.ensures.len ∙ ap length c.trace-in-events.ensures.events in
    let (decls, limit, out, bad) = fired.fires.same in
    record {
      comes = fired_comes g.R.Routine.asks c.args.picks.now c.args.hub.now c.turns.hub c.turn_next.new.hub c.fire.new.self c.pick_at.result
          (c.len.result - c.len-begun.result) c.turns.invariant.comes idle.0 idle.1 (λ i. len i - c.turns.invariant.begun i) c.pick_at.ensures fired;
      back = out ∙ ap (λ h. h.out) idle.0 ∙ c.turns.invariant.back;
      begun = c.turns.invariant.begun;
    }

pub returns-then-not-branch : goal.returns-then-not-branch
returns-then-not-branch g c =
    let idle = c.in_ok-turn_next.ensures.idle c.if-branch.false in
    let stuck = c.in_ok-fire.ensures.idle c.if-not-branch.true in
    is_run_out g.R.Routine.asks c.args.picks.now c.args.hub.now c.turns.hub c.turn_next.new.hub c.fire.new.self c.turns.invariant.comes c.turns.invariant.back
    idle.0 idle.1 stuck.0 stuck.1
