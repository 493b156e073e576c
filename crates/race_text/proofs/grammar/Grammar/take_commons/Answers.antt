-- Each common line is taken where it lies.
use Rattle.std.proofs.Common.{◌≤◌, length, subst, arith}
use Rattle.race_text.specs.{Common.{line_in, EndsLine}, Grammar.{ForEachLines, Takes, TakesIfTold}}
use Rattle.race_text.proofs.{FedLemmas.{shorter, some_still, some_taken}, LinesTaken.{front_told, next_taken, none_taken}}
use Rattle.race_text.proofs.grammar.Grammar.take_commons.Goals as goal

pub line-number-requires : goal.line-number-requires
line-number-requires g c = (c.requires.0, c.loop-cause.invariant.some c.requires.0 c.requires.1)

pub take_common-requires : goal.take_common-requires
take_common-requires g c = (c.requires.0, c.loop-cause.invariant.some c.requires.0 c.requires.1)

pub returns-in-Err-clause-taken : goal.returns-in-Err-clause-taken
returns-in-Err-clause-taken g c = λ k.
    front_told g.Self.Grammar.causes _ _ (g.Self.Grammar.stands_for k c.take_common.new.self) c.args.bytes.now c.loop-cause.left.now (c.loop-cause.invariant.taken k) _
    (c.line-number.ensures k) (c.in-Err.ensures k)

module _ (g : _) (c : goal.In-None g) where
  stays : (k : g.Self.Grammar.Known) → ForEachLines (g.Self.Grammar.stands_for k c.loop-cause.self) (g.Self.Grammar.stands_for k c.take_common.new.self)
  stays k =
      subst (λ o. TakesIfTold g.Self.Grammar.causes (g.Self.Grammar.stands_for k c.loop-cause.self) c.loop-cause.left.now o
      (g.Self.Grammar.stands_for k c.take_common.new.self)) c.in-None.is (c.in-Ok.ensures k)

pub returns-in-None-clause-taken : goal.returns-in-None-clause-taken
returns-in-None-clause-taken g c = λ k.
    none_taken g.Self.Grammar.causes _ _ (g.Self.Grammar.stands_for k c.take_common.new.self) c.args.bytes.now c.loop-cause.left.now (c.loop-cause.invariant.taken k)
    (stays g c k)

pub returns-in-None-clause-some : goal.returns-in-None-clause-some
returns-in-None-clause-some g c = λ k stood. some_still _ _ (stays g c k) (c.loop-cause.invariant.some k stood)

module _ (g : _) (c : goal.In-Some g) where
  next : (k : g.Self.Grammar.Known) → EndsLine c.loop-cause.left.now c.in-Some.rest.now
      × Takes g.Self.Grammar.causes (g.Self.Grammar.stands_for k c.loop-cause.self) (line_in c.loop-cause.left.now) (g.Self.Grammar.stands_for k c.take_common.new.self)
  next k =
      subst (λ o. TakesIfTold g.Self.Grammar.causes (g.Self.Grammar.stands_for k c.loop-cause.self) c.loop-cause.left.now o
      (g.Self.Grammar.stands_for k c.take_common.new.self)) c.in-Some.is (c.in-Ok.ensures k)

pub loop-cause-smaller : goal.loop-cause-smaller
loop-cause-smaller g c =
    shorter c.loop-cause.left.now (line_in c.loop-cause.left.now) c.in-Some.rest.now (next g c c.requires.0).0

pub loop-cause-preserved : goal.loop-cause-preserved
loop-cause-preserved g c =
    let less = shorter c.loop-cause.left.now (line_in c.loop-cause.left.now) c.in-Some.rest.now (next g c c.requires.0).0 in
    let within = c.loop-cause.invariant.within in
    record {
      some = λ k stood. some_taken g.Self.Grammar.causes _ (line_in c.loop-cause.left.now) _ (next g c k).1 (c.loop-cause.invariant.some k stood);
      taken = λ k.
          next_taken g.Self.Grammar.causes _ _ _ c.args.bytes.now c.loop-cause.left.now (c.loop-cause.invariant.taken k) c.in-Some.rest (next g c k);
      within = omega (arith, less, within);
    }
