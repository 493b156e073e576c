-- The parts so far are taken.
use Rattle.std.proofs.Common.{◌≤◌, drop, length}
use Rattle.race_text.specs.{Fault.trace_causes, Fed.TakesFront, Grammar.StandsForSome, Stream.{Known, StandsFor}}
use Rattle.race_text.proofs.fed_ahead.take_parts.Given as goal

abbrev pub invariant-loop-lines : goal.invariant-loop-lines
invariant-loop-lines g l = record {
  some : (k : Known) → StandsForSome (StandsFor k l.fn.reader) → StandsForSome (StandsFor k l.reader);
  taken : (k : Known) → TakesFront trace_causes (StandsFor k l.fn.reader) l.bytes (StandsFor k l.reader) (drop l.at l.bytes);
  within : l.at ≤ length l.bytes;
}
