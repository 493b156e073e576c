-- What is left behind the lines that were taken.
use Rattle.std.proofs.Common.{◌≤◌, length}
use Rattle.race_text.specs.{Grammar.StandsForSome, Fed.TakesBytes}
use Rattle.race_text.proofs.grammar.Grammar.take_commons.Given as goal

abbrev pub invariant-loop-cause : goal.invariant-loop-cause
invariant-loop-cause g l = record {
  some : (k : g.Self.Grammar.Known) → StandsForSome (g.Self.Grammar.stands_for k l.fn.self) → StandsForSome (g.Self.Grammar.stands_for k l.self);
  taken : (k : g.Self.Grammar.Known) → TakesBytes g.Self.Grammar.causes (g.Self.Grammar.stands_for k l.fn.self) l.bytes (g.Self.Grammar.stands_for k l.self) l.left;
  within : length l.left ≤ length l.bytes;
}

abbrev pub decreases-loop-cause : goal.decreases-loop-cause
decreases-loop-cause g l = length l.left
