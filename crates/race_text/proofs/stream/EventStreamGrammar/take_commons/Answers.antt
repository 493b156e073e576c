-- Each common line is taken where it lies, and counted.
use Rattle.std.proofs.Common.{◌≡◌, ◌+◌, ◌∷◌, [], length, length-append, Some, None, Ok, subst, arith}
use Rattle.race_text.specs.{Common.{line_in, EndsLine}, Fault.trace_causes, Grammar.{ForEachLines, StandsForSome, Takes, TakesIfTold}}
use Rattle.race_text.specs.Stream.{Known, StandsFor}
use Rattle.race_text.proofs.{FedLemmas.{shorter, some_still, some_taken}, LinesTaken.{front_told, next_taken, none_taken}}
use Rattle.race_text.proofs.{StreamKnown.{common_answered, some_stream}, StreamLemmas.{few_lines, next_line}}
use Rattle.race_text.proofs.stream.EventStreamGrammar.take_commons.Goals as goal

pub line-number-requires : goal.line-number-requires
line-number-requires g c = some_stream c.args.self.now c.requires

pub loop-cause-init : goal.loop-cause-init
loop-cause-init g c =
    let is = c.line-number.ensures c.requires.0.past c.requires.1.lines c.requires.1.stands.stream in
    let all = next_line c.args.self.now c.requires.0.past c.requires.1.lines c.requires.1.stands.stream in
    record { some = λ k stood. stood; taken = λ k whole more t. t; number = omega (arith, is, all); within = omega arith }

pub take_common-requires : goal.take_common-requires
take_common-requires g c = some_stream c.loop-cause.self (c.requires.0, c.loop-cause.invariant.some c.requires.0 c.requires.1)

pub returns-in-Err-clause-taken : goal.returns-in-Err-clause-taken
returns-in-Err-clause-taken g c = λ k.
    let front = c.in-Err.ensures.taken k.past in
    front_told trace_causes _ _ (StandsFor k c.take_common.new.self) c.args.bytes.now c.loop-cause.left.now (c.loop-cause.invariant.taken k) _
    (λ lines S. let all = next_line c.loop-cause.self k.past lines S.stream in let number = c.loop-cause.invariant.number in omega (arith, all, number))
    (record { rest = front.rest; ends = front.ends; least = λ lines S. front.least lines S.stream })

module _ (g : _) (c : goal.In-None g) where
  stays : (k : Known) → ForEachLines (StandsFor k c.loop-cause.self) (StandsFor k c.take_common.new.self)
  stays k =
      subst (λ o. TakesIfTold trace_causes (StandsFor k c.loop-cause.self) c.loop-cause.left.now o (StandsFor k c.take_common.new.self)) c.in-None.is
      (common_answered c.loop-cause.self c.take_common.new.self c.loop-cause.left.now (Ok c.in-Ok.taken) c.in-Ok.ensures.taken c.in-Ok.ensures.declared k)

pub returns-in-None-clause-taken : goal.returns-in-None-clause-taken
returns-in-None-clause-taken g c = λ k.
    none_taken trace_causes _ _ (StandsFor k c.take_common.new.self) c.args.bytes.now c.loop-cause.left.now (c.loop-cause.invariant.taken k) (stays g c k)

pub returns-in-None-clause-some : goal.returns-in-None-clause-some
returns-in-None-clause-some g c = λ k stood. some_still _ _ (stays g c k) (c.loop-cause.invariant.some k stood)

module _ (g : _) (c : goal.In-Some g) where
  next : (k : Known) → EndsLine c.loop-cause.left.now c.in-Some.rest.now
      × Takes trace_causes (StandsFor k c.loop-cause.self) (line_in c.loop-cause.left.now) (StandsFor k c.take_common.new.self)
  next k =
      subst (λ o. TakesIfTold trace_causes (StandsFor k c.loop-cause.self) c.loop-cause.left.now o (StandsFor k c.take_common.new.self)) c.in-Some.is
      (common_answered c.loop-cause.self c.take_common.new.self c.loop-cause.left.now (Ok c.in-Ok.taken) c.in-Ok.ensures.taken c.in-Ok.ensures.declared k)

pub overflow_add-number : goal.overflow_add-number
overflow_add-number g c =
    let some = c.loop-cause.invariant.some c.requires.0 c.requires.1 in
    let few = few_lines c.loop-cause.self (some_stream c.loop-cause.self (c.requires.0, some)) in
    let number = c.loop-cause.invariant.number in
    omega (arith, few, number)

pub loop-cause-smaller : goal.loop-cause-smaller
loop-cause-smaller g c =
    shorter c.loop-cause.left.now (line_in c.loop-cause.left.now) c.in-Some.rest.now (next g c c.requires.0).0

pub loop-cause-preserved : goal.loop-cause-preserved
loop-cause-preserved g c =
    let k = c.requires.0 in
    let stood = c.loop-cause.invariant.some k c.requires.1 in
    let behind = (next g c k).1 stood.lines stood.stands in
    let was = next_line c.loop-cause.self k.past stood.lines stood.stands.stream in
    let now = next_line c.take_common.new.self k.past _ behind.stands.stream in
    let one = length-append stood.lines (line_in c.loop-cause.left.now ∷ []) in
    let number = c.loop-cause.invariant.number in
    let less = shorter c.loop-cause.left.now (line_in c.loop-cause.left.now) c.in-Some.rest.now (next g c k).0 in
    let within = c.loop-cause.invariant.within in
    record {
      some = λ k some. some_taken trace_causes _ (line_in c.loop-cause.left.now) _ (next g c k).1 (c.loop-cause.invariant.some k some);
      taken = λ k.
          next_taken trace_causes _ _ _ c.args.bytes.now c.loop-cause.left.now (c.loop-cause.invariant.taken k) c.in-Some.rest (next g c k);
      number = omega (arith, was, now, one, number);
      within = omega (arith, less, within);
    }
