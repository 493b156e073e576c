use Rattle.race_access.proofs.accesses.Accesses.is_raced.Goals as goal

pub returns-in-Raced : goal.returns-in-Raced
returns-in-Raced g c = cc
