-- The lines so far are taken.
use Rattle.std.proofs.Common.{◌≤◌, drop, length}
use Rattle.race_text.specs.{Fault.trace_causes, Fed.TakesFront, Grammar.StandsForSome, Stream.{Known, StandsFor}}
use Rattle.race_text.proofs.fed_ahead.take_lines.Given as goal

abbrev pub invariant-loop-line : goal.invariant-loop-line
invariant-loop-line g l = record {
  some : (k : Known) → StandsForSome (StandsFor k l.fn.reader) → StandsForSome (StandsFor k l.reader);
  taken : (k : Known) → TakesFront trace_causes (StandsFor k l.fn.reader) (drop l.from l.bytes) (StandsFor k l.reader) (drop l.at l.bytes);
  within : l.at ≤ length l.bytes;
}
