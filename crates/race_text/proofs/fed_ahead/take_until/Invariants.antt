-- Lines are taken up to this place.
use Rattle.std.proofs.Common.{◌-◌, ◌≤◌, drop, length}
use Rattle.race_text.specs.{Fault.trace_causes, Fed.TakesFront, Grammar.StandsForSome, Stream.{Known, StandsFor}}
use Rattle.race_text.proofs.fed_ahead.take_until.Given as goal

abbrev pub invariant-loop-at : goal.invariant-loop-at
invariant-loop-at g l = record {
  some : (k : Known) → StandsForSome (StandsFor k l.fn.reader) → StandsForSome (StandsFor k l.reader);
  taken : (k : Known) → TakesFront trace_causes (StandsFor k l.fn.reader) (drop l.from l.bytes) (StandsFor k l.reader) (drop l.at l.bytes);
  within : l.at ≤ length l.bytes;
}

abbrev pub decreases-loop-at : goal.decreases-loop-at
decreases-loop-at g l = length l.bytes - l.at
