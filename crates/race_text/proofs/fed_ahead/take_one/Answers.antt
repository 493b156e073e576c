use Rattle.std.proofs.Common.{drop, sym, subst}
use Rattle.race_text.specs.{Fault.trace_causes, Fed.{TakesFront, TellsOfWhole}, Stream.StandsFor}
use Rattle.race_text.proofs.{AheadTaken.{then_taken, then_told}, FedLemmas.match_err}
use Rattle.race_text.proofs.fed_ahead.take_one.Goals as goal

pub returns-in_err-take_this-clause-taken : goal.returns-in_err-take_this-clause-taken
returns-in_err-take_this-clause-taken g c =
    match_err _ _ c.from_residual-in_err-take_this.result c.in_err-take_this.field-0.0 c.from_residual-in_err-take_this.ensures.1
    (λ k. then_told trace_causes _ _ (StandsFor k c.take_this.new.reader) (drop c.args.from c.args.bytes.now) (drop c.in_ok-at.at c.args.bytes.now)
    (c.in_ok-at.ensures.taken k) c.in_err-take_this.field-0.0
    (subst (λ n. TellsOfWhole trace_causes (StandsFor k c.take_until.new.reader) (drop n c.args.bytes.now) c.in_err-take_this.field-0.0)
    (sym c.if-at-line.true) (c.in_err-take_this.ensures.taken k)))

pub returns-in_ok-take_this-clause-taken : goal.returns-in_ok-take_this-clause-taken
returns-in_ok-take_this-clause-taken g c = λ k.
    then_taken trace_causes _ _ _ (drop c.args.from c.args.bytes.now) (drop c.in_ok-at.at c.args.bytes.now) (c.in_ok-at.ensures.taken k)
    (drop c.args.line.end c.args.bytes.now)
    (subst (λ n. TakesFront trace_causes (StandsFor k c.take_until.new.reader) (drop n c.args.bytes.now) (StandsFor k c.take_this.new.reader)
    (drop c.args.line.end c.args.bytes.now)) (sym c.if-at-line.true) (c.in_ok-take_this.ensures.taken k))
