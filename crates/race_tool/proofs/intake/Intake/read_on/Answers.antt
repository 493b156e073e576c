-- A block is fed, and the reader stands for all that was read.
use Rattle.std.proofs.Common.{length, refl, ap, arith}
use Rattle.race_tool.proofs.{IntakeLemmas.{as_told, at_end, at_enough, at_failure, at_fault, at_limit, on_next, readable_now}, StreamedLemmas.some_begun}
use Rattle.race_tool.proofs.intake.Intake.read_on.Goals as goal

pub feed_round-requires-clause-ready : goal.feed_round-requires-clause-ready
feed_round-requires-clause-ready g c κs within = (c.requires.0, (c.loop-self.invariant.readable c.requires.0 c.requires.1).ready)

pub loop-self-init : goal.loop-self-init
loop-self-init g c =
    record { on = λ k. record { goes = λ start taken. taken; calm = refl }; readable = λ k was. was; later = omega arith; room = c.requires.1.room }

pub returns-in-Err : goal.returns-in-Err
returns-in-Err g c = record {
  each = λ k was. at_failure (c.loop-self.invariant.on k) c.in-Err.ensures.calm c.in-Err.ensures.failed c.in-Err.ensures.kept c.in-Err.ensures.ends;
}

pub returns : goal.returns
returns g c = record {
  each = λ k was. at_limit (c.loop-self.invariant.on k) (omega (arith, (c.loop-self.invariant.readable k was).limit, c.loop-self-test.false));
}

pub returns-in-Ok-Ok-false : goal.returns-in-Ok-Ok-false
returns-in-Ok-Ok-false g c = record {
  each = λ k was.
      let before = c.loop-self.invariant.readable k was in
      let r = c.in-Ok-Ok-false in
      let is = as_told r.field-0-is r.field-0-0-test in
      at_end (c.loop-self.invariant.on k) (r.ensures.ok k) (r.ensures.calm (λ e. cc))
      (readable_now is r.ensures.fine (r.ensures.ready k) before c.loop-self.invariant.room refl before.limit) is;
}

pub returns-in-Ok-Err : goal.returns-in-Ok-Err
returns-in-Ok-Err g c = record {
  each = λ k was. at_fault (c.loop-self.invariant.on k) (c.in-Ok-Err.ensures.ok k) (c.in-Ok-Err.ensures.calm (λ e. cc)) c.in-Ok-Err.fault c.in-Ok-Err.field-0-is;
}

pub returns-then-events-self : goal.returns-then-events-self
returns-then-events-self g c = record {
  each = λ k was.
      let before = c.loop-self.invariant.readable k was in
      let r = c.in-Ok-Ok-true in
      let is = as_told r.field-0-is r.field-0-0-test in
      at_enough (c.loop-self.invariant.on k) (r.ensures.ok k) (r.ensures.calm (λ e. cc))
      (readable_now is r.ensures.fine (r.ensures.ready k) before c.loop-self.invariant.room refl (omega (arith, c.loop-self-test.true)))
      is refl r.ensures.reads c.loop-self.invariant.later
      (some_begun c.feed_round.new.reader.lines.reader (omega (arith, c.if-events-self.true, before.some, ap length c.events.ensures.events)));
}

pub loop-self-preserved : goal.loop-self-preserved
loop-self-preserved g c =
    let held = c.loop-self.invariant in
    let r = c.in-Ok-Ok-true in
    let is = as_told r.field-0-is r.field-0-0-test in
    record {
      on = λ k. on_next (held.on k) (r.ensures.ok k) (r.ensures.calm (λ e. cc)) is refl r.ensures.reads;
      readable = λ k was. readable_now is r.ensures.fine (r.ensures.ready k) (held.readable k was) held.room refl (omega (arith, c.loop-self-test.true));
      later = omega (arith, held.later);
      room = held.room;
    }
