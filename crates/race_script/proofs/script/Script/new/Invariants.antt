-- The copies so far.
use Rattle.std.proofs.Common.{◌≡◌, take}
use Rattle.race_script.proofs.script.Script.new.Given as goal

abbrev pub invariant-loop-step : goal.invariant-loop-step
invariant-loop-step g l = l.whole.items ≡ take l.step l.body.items
