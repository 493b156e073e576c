use Rattle.std.proofs.Common.{◌-◌}
use Rattle.race_tool.specs.declared.input.TheConstants.{MAX_TURNS}
use Rattle.race_tool.proofs.IntakeTurns.{IsAt}
use Rattle.race_tool.proofs.intake.read_judged.Given as goal

-- what was read was fed after what was handed on, and no read failed
abbrev pub invariant-loop-intake : goal.invariant-loop-intake
invariant-loop-intake g l = IsAt g.R.Read.remaining l.initial.source l.source l.intake l.handed

abbrev pub decreases-loop-intake : goal.decreases-loop-intake
decreases-loop-intake g l = MAX_TURNS - l.intake.turns
