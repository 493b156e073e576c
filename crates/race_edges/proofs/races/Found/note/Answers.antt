use Rattle.std.proofs.{lemmas.Grind.common_steps, Common.{arith, refl}}
use Rattle.race_edges.proofs.races.Found.note.Goals as goal

pub returns-then-is_some-clause-noted : goal.returns-then-is_some-clause-noted
returns-then-is_some-clause-noted g c = grind (arith, common_steps) steps 300000

pub returns-then-is_some-clause-len : goal.returns-then-is_some-clause-len
returns-then-is_some-clause-len g c = refl
