use Rattle.std.proofs.Common.{arith, rules}
use Rattle.race_records.proofs.declarations.Decls.add_place.Goals as goal

pub returns-in-Some-clause-allowed : goal.returns-in-Some-clause-allowed
returns-in-Some-clause-allowed g c = omega arith

pub returns-in-Some-clause-known : goal.returns-in-Some-clause-known
returns-in-Some-clause-known g c = search rules steps 100000
