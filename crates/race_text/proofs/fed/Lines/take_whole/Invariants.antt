-- What is left behind the lines that were taken.
use Rattle.std.proofs.Common.{◌≡◌, [], length}
use Rattle.race_text.specs.{Grammar.StandsForSome, Fed.TakesBytes}
use Rattle.race_text.proofs.fed.Lines.take_whole.Given as goal

abbrev pub invariant-loop-rest : goal.invariant-loop-rest
invariant-loop-rest g l = record {
  some : (k : g.G.Grammar.Known) → StandsForSome (g.G.Grammar.stands_for k l.fn.self.reader) → StandsForSome (g.G.Grammar.stands_for k l.self.reader);
  none : l.self.part.items ≡ [];
  taken : (k : g.G.Grammar.Known)
      → TakesBytes g.G.Grammar.causes (g.G.Grammar.stands_for k l.fn.self.reader) l.bytes (g.G.Grammar.stands_for k l.self.reader) l.left;
}

abbrev pub decreases-loop-rest : goal.decreases-loop-rest
decreases-loop-rest g l = length l.left
