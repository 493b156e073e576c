use Rattle.std.proofs.Common.{refl}
use Rattle.race_record.proofs.shared.Shared.fire_next.Goals as goal

pub returns-in-Ok-true-clause-keeps : goal.returns-in-Ok-true-clause-keeps
returns-in-Ok-true-clause-keeps g c = λ never. absurd (never _ refl)
