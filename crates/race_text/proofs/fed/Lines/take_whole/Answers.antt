-- Each line is taken where it lies, and the last part is kept.
use Rattle.std.proofs.Common.{◌≤◌, ◌<◌, length, arith}
use Rattle.race_text.specs.{Common.{line_in, EndsLine}, Fed.TakesBytes, Grammar.{StandsForSome, Takes}}
use Rattle.race_text.proofs.{FedLemmas.{next_is, shorter, match_err, some_still, some_taken}, LinesTaken.{left_told, next_taken, next_told, kept_told}}
use Rattle.race_text.proofs.fed.Lines.take_whole.Goals.{In_ok-rest}
use Rattle.race_text.proofs.fed.Lines.take_whole.Goals as goal

module _ (g : _) (c : goal.In_ok-rest g) where
  mid : (k : g.G.Grammar.Known)
      → TakesBytes g.G.Grammar.causes (g.G.Grammar.stands_for k c.args.self.now.reader) c.args.bytes.now
      (g.G.Grammar.stands_for k c.take_commons.new.self) c.in_ok-rest.rest.now
  mid k = λ whole more t. c.in_ok-rest.ensures.taken k whole more (c.loop-rest.invariant.taken k whole more t)

  some : (k : g.G.Grammar.Known) → StandsForSome (g.G.Grammar.stands_for k c.args.self.now.reader) → StandsForSome (g.G.Grammar.stands_for k c.take_commons.new.self)
  some k stood = c.in_ok-rest.ensures.some k (c.loop-rest.invariant.some k stood)

pub take_commons-requires : goal.take_commons-requires
take_commons-requires g c = (c.requires.some.0, c.loop-rest.invariant.some c.requires.some.0 c.requires.some.1)

pub returns-in_err-rest-clause-taken : goal.returns-in_err-rest-clause-taken
returns-in_err-rest-clause-taken g c =
    match_err _ _ c.from_residual.result c.in_err-rest.field-0.0 c.from_residual.ensures.1
    (λ k. left_told g.G.Grammar.causes _ _ (g.G.Grammar.stands_for k c.take_commons.new.self) c.args.bytes.now c.loop-rest.left.now
    (c.loop-rest.invariant.taken k) c.in_err-rest.field-0.0 (c.in_err-rest.ensures.taken k))

pub take_other-requires : goal.take_other-requires
take_other-requires g c =
    let at = (goal.at.take_other-requires g c).In_ok-rest in
    (c.requires.some.0, some g at c.requires.some.0 c.requires.some.1)

pub returns-in_err-take_other-clause-taken : goal.returns-in_err-take_other-clause-taken
returns-in_err-take_other-clause-taken g c =
    let at = (goal.at.returns-in_err-take_other-clause-taken g c).In_ok-rest in
    match_err _ _ c.from_residual-in_err-take_other.result c.in_err-take_other.field-0.0 c.from_residual-in_err-take_other.ensures.1
    (λ k. next_told g.G.Grammar.causes _ _ (g.G.Grammar.stands_for k c.take_other.new.reader) c.args.bytes.now c.in_ok-rest.rest.now (mid g at k)
    c.in_err-take_other.field-0.0 (c.in_err-take_other.ensures k))

pub keep-requires : goal.keep-requires
keep-requires g c =
    let at = (goal.at.keep-requires g c).In_ok-rest in
    let k = c.requires.some.0 in
    let none = next_is g.G.Grammar.causes (g.G.Grammar.stands_for k c.take_commons.new.self) c.in_ok-rest.rest.now
    (g.G.Grammar.stands_for k c.take_other.new.reader) c.in-None.is (c.in_ok-take_other.ensures k) in
    (k, some_still _ _ none.1 (some g at k c.requires.some.1))

pub returns-in_err-keep-in-None-clause-taken : goal.returns-in_err-keep-in-None-clause-taken
returns-in_err-keep-in-None-clause-taken g c =
    let at = (goal.at.returns-in_err-keep-in-None-clause-taken g c).In_ok-rest in
    match_err _ _ c.from_residual-in_err-keep-in-None.result c.in_err-keep-in-None.field-0.0 c.from_residual-in_err-keep-in-None.ensures.1
    (λ k. kept_told g.G.Grammar.causes _ _ _ c.args.bytes.now c.in_ok-rest.rest.now (mid g at k) c.in_err-keep-in-None.field-0.0
    (next_is g.G.Grammar.causes _ c.in_ok-rest.rest.now _ c.in-None.is (c.in_ok-take_other.ensures k)) (c.in_err-keep-in-None.ensures.told k))

module _ (g : _) (c : goal.In-Some g) where
  next : (k : g.G.Grammar.Known) → EndsLine c.in_ok-rest.rest.now c.in-Some.others.now
      × Takes g.G.Grammar.causes (g.G.Grammar.stands_for k c.take_commons.new.self) (line_in c.in_ok-rest.rest.now) (g.G.Grammar.stands_for k c.take_other.new.reader)
  next k = next_is g.G.Grammar.causes _ c.in_ok-rest.rest.now _ c.in-Some.is (c.in_ok-take_other.ensures k)

pub loop-rest-smaller : goal.loop-rest-smaller
loop-rest-smaller g c =
    let less = shorter c.in_ok-rest.rest.now (line_in c.in_ok-rest.rest.now) c.in-Some.others.now (next g c c.requires.some.0).0 in
    let within = c.in_ok-rest.ensures.within in
    omega (arith, less, within)

pub loop-rest-preserved : goal.loop-rest-preserved
loop-rest-preserved g c =
    let mid_at = (goal.at.loop-rest-preserved g c).In_ok-rest in
    record {
      some = λ k stood. some_taken g.G.Grammar.causes _ (line_in c.in_ok-rest.rest.now) _ (next g c k).1 (some g mid_at k stood);
      none = c.loop-rest.invariant.none;
      taken = λ k.
          next_taken g.G.Grammar.causes _ _ _ c.args.bytes.now c.in_ok-rest.rest.now (mid g mid_at k) c.in-Some.others (next g c k);
    }
