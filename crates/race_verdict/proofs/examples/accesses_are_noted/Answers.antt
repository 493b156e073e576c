use Rattle.std.proofs.Common.{refl}
use Rattle.race_records.specs.declared.event.Op.TheVariants.{Read, Write}
use Rattle.race_verdict.specs.Examples.{does}
use Rattle.race_verdict.proofs.examples.accesses_are_noted.Goals as goal

pub returns-clause-write : goal.returns-clause-write
returns-clause-write c = record { event = does 1 (Write 0 7) 1; stands = refl; access = refl; write = refl; who = refl; place = refl }

pub returns-clause-read : goal.returns-clause-read
returns-clause-read c = record { event = does 0 (Read 0 7) 2; stands = refl; access = refl; write = refl; who = refl; place = refl }
