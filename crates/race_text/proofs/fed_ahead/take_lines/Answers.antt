use Rattle.std.proofs.Common.{drop}
use Rattle.race_text.specs.{Fault.trace_causes, Stream.StandsFor}
use Rattle.race_text.proofs.{AheadTaken.{then_taken, then_told}, FedLemmas.match_err}
use Rattle.race_text.proofs.fed_ahead.take_lines.Goals as goal

pub returns-in_err-at-clause-taken : goal.returns-in_err-at-clause-taken
returns-in_err-at-clause-taken g c =
    match_err _ _ c.from_residual.result c.in_err-at.field-0.0 c.from_residual.ensures.1
    (λ k. then_told trace_causes _ _ (StandsFor k c.take_one.new.reader) (drop c.args.from c.args.bytes.now) (drop c.loop-line.at c.args.bytes.now)
    (c.loop-line.invariant.taken k) c.in_err-at.field-0.0 (c.in_err-at.ensures.taken k))

pub loop-line-preserved : goal.loop-line-preserved
loop-line-preserved g c = record {
  some = λ k stood. c.in_ok-at.ensures.some k (c.loop-line.invariant.some k stood);
  taken = λ k.
      then_taken trace_causes _ _ _ (drop c.args.from c.args.bytes.now) (drop c.loop-line.at c.args.bytes.now) (c.loop-line.invariant.taken k) _
      (c.in_ok-at.ensures.taken k);
  within = c.in_ok-at.ensures.within;
}
