-- The judge's verdict as the memory model has it.
use Rattle.std.specs.Prelude.{map}
use Rattle.race_verdict.specs.{declared.verdict.Verdict.Verdict, Races.race_of}
use Rattle.race_legal.specs.Rules.{number_of}
use Rattle.race_model.specs.Verdict as model

-- what the verdict says
abbrev pub verdict_of : {A : Type 0} → Verdict A → model.Verdict
verdict_of (Verdict.Illegal illegal) = model.Illegal illegal.at (number_of illegal.rule)
verdict_of Verdict.Clean = model.Clean
verdict_of (Verdict.Races races) = model.Races (map race_of races)
