use Rattle.std.proofs.Common.{◌≤◌, ◌-◌, vec_len}
use Rattle.race_text.specs.Stream.{Known, StandsFor}
use Rattle.race_tool.specs.{declared.input.TheConstants.MAX_TURNS, Input.IsRoom, Intake.IsReadable}
use Rattle.race_tool.proofs.IntakeLemmas.{IsOn}
use Rattle.race_tool.proofs.intake.Intake.read_on.Given as goal

-- what was taken since any time before is taken still, with the blocks that were read here, and no read failed
abbrev pub invariant-loop-self : goal.invariant-loop-self
invariant-loop-self g l = record {
  on : (k : Known) → IsOn g.R.Read.remaining (StandsFor k) l.initial.source l.source l.initial.self l.self;
  readable : (k : Known) → IsReadable (StandsFor k) l.initial.self → IsReadable (StandsFor k) l.self;
  later : l.initial.self.turns ≤ l.self.turns;
  room : IsRoom (vec_len l.self.block);
}

abbrev pub decreases-loop-self : goal.decreases-loop-self
decreases-loop-self g l = MAX_TURNS - l.self.turns
