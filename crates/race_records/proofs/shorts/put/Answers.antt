use Rattle.std.proofs.lemmas.List.Elements.{All-set}
use Rattle.race_records.specs.Shorts.{IsNoted}
use Rattle.race_records.proofs.shorts.put.Goals as goal

pub returns-in-Some-clause-noted : goal.returns-in-Some-clause-noted
returns-in-Some-clause-noted g c = λ rows noted one. All-set (IsNoted rows) c.args.slots.now.items c.in-Some.i c.args.short one noted
