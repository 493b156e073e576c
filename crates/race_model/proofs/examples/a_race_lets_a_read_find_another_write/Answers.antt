use Rattle.race_model.proofs.examples.a_race_lets_a_read_find_another_write.Goals as goal
use Rattle.race_model.proofs.ReadFirst.{read_first}

pub returns-clause-reordering : goal.returns-clause-reordering
returns-clause-reordering c = read_first
