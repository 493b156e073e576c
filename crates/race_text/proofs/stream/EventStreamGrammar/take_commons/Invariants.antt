-- What is left behind the lines that were taken, and the number of the next line.
use Rattle.std.proofs.Common.{◌≡◌, ◌+◌, ◌≤◌, length}
use Rattle.race_text.specs.{Fault.trace_causes, Fed.TakesBytes, Grammar.StandsForSome, Reader.lines_read, Stream.{Known, StandsFor}}
use Rattle.race_text.proofs.stream.EventStreamGrammar.take_commons.Given as goal

abbrev pub invariant-loop-cause : goal.invariant-loop-cause
invariant-loop-cause g l = record {
  some : (k : Known) → StandsForSome (StandsFor k l.fn.self) → StandsForSome (StandsFor k l.self);
  taken : (k : Known) → TakesBytes trace_causes (StandsFor k l.fn.self) l.bytes (StandsFor k l.self) l.left;
  number : l.number ≡ length (lines_read l.self.reader.has_header l.self.reader.decls l.self.reader.trace) + l.self.before + 1;
  within : length l.left ≤ length l.bytes;
}

abbrev pub decreases-loop-cause : goal.decreases-loop-cause
decreases-loop-cause g l = length l.left
