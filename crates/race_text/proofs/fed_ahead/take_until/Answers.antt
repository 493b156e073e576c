-- Each line is taken where it lies.
use Rattle.std.proofs.Common.{◌+◌, ◌<◌, drop, length, sym, subst, arith}
use Rattle.race_text.specs.{Common.{line_in, EndsLine}, Fault.trace_causes, Fed.{TakesBytes, TakesFront}, Grammar.Takes, Stream.{Known, StandsFor}}
use Rattle.race_text.proofs.{AheadLemmas.{later, rest_is}, AheadTaken.{front_taken, then_next, then_none}, FedLemmas.{match_err, next_is, some_taken}}
use Rattle.race_text.proofs.{LinesTaken.{next_told}}
use Rattle.race_text.proofs.fed_ahead.take_until.Goals.{In-Some}
use Rattle.race_text.proofs.fed_ahead.take_until.Goals as goal

module _ (g : _) (c : In-Some g) where
  next : (k : Known) → EndsLine c.bytes_from.result.now c.in-Some.rest.now
      × Takes trace_causes (StandsFor k c.loop-at.reader) (line_in c.bytes_from.result.now) (StandsFor k c.take_other.new.reader)
  next k = next_is trace_causes _ c.bytes_from.result.now _ c.in-Some.is (c.in_ok-take_other.ensures k)

  less : c.loop-at.at + length c.in-Some.rest.now < length c.args.bytes.now
  less = later c.args.bytes.now c.bytes_from.result.now (line_in c.bytes_from.result.now) c.in-Some.rest.now c.loop-at.at c.bytes_from.ensures
      (next c.requires.some.0).0

pub take_other-requires : goal.take_other-requires
take_other-requires g c = (c.requires.some.0, c.loop-at.invariant.some c.requires.some.0 c.requires.some.1)

pub returns-in_err-take_other-clause-taken : goal.returns-in_err-take_other-clause-taken
returns-in_err-take_other-clause-taken g c =
    match_err _ _ c.from_residual.result c.in_err-take_other.field-0.0 c.from_residual.ensures.1
    (λ k. next_told trace_causes _ _ (StandsFor k c.take_other.new.reader) (drop c.args.from c.args.bytes.now) c.bytes_from.result.now
    (subst (TakesBytes trace_causes (StandsFor k c.args.reader.now) (drop c.args.from c.args.bytes.now) (StandsFor k c.loop-at.reader))
    (sym c.bytes_from.ensures)
    (front_taken trace_causes _ _ (StandsFor k c.take_other.new.reader) (drop c.args.from c.args.bytes.now) (drop c.loop-at.at c.args.bytes.now)
    (c.loop-at.invariant.taken k)))
    c.in_err-take_other.field-0.0 (c.in_err-take_other.ensures k))

pub returns-in-None-clause-taken : goal.returns-in-None-clause-taken
returns-in-None-clause-taken g c = λ k.
    then_none trace_causes (StandsFor k c.args.reader.now) (StandsFor k c.loop-at.reader) (StandsFor k c.take_other.new.reader)
    (drop c.args.from c.args.bytes.now) (drop c.loop-at.at c.args.bytes.now) (c.loop-at.invariant.taken k)
    (next_is trace_causes (StandsFor k c.loop-at.reader) c.bytes_from.result.now (StandsFor k c.take_other.new.reader) c.in-None.is
    (c.in_ok-take_other.ensures k)).1

pub overflow_sub-at : goal.overflow_sub-at
overflow_sub-at g c = let l = less g c in omega (arith, l)

pub loop-at-smaller : goal.loop-at-smaller
loop-at-smaller g c =
    let at = (goal.at.loop-at-smaller g c).In-Some in
    let l = less g at in
    let test = c.loop-at-test.true in
    omega (arith, l)

pub loop-at-preserved : goal.loop-at-preserved
loop-at-preserved g c =
    let at = (goal.at.loop-at-preserved g c).In-Some in
    let l = less g at in
    record {
      some = λ k stood. some_taken trace_causes _ (line_in c.bytes_from.result.now) _ (next g at k).1 (c.loop-at.invariant.some k stood);
      taken = λ k.
          subst (TakesFront trace_causes (StandsFor k c.args.reader.now) (drop c.args.from c.args.bytes.now) (StandsFor k c.take_other.new.reader))
          (sym (rest_is c.args.bytes.now c.bytes_from.result.now (line_in c.bytes_from.result.now) c.in-Some.rest.now c.loop-at.at c.bytes_from.ensures (next g at k).0))
          (then_next trace_causes _ _ _ (drop c.args.from c.args.bytes.now) c.bytes_from.result.now
          (subst (TakesFront trace_causes (StandsFor k c.args.reader.now) (drop c.args.from c.args.bytes.now) (StandsFor k c.loop-at.reader))
          (sym c.bytes_from.ensures) (c.loop-at.invariant.taken k)) c.in-Some.rest (next g at k));
      within = omega (arith, l);
    }
