use Rattle.std.proofs.Common.{[], refl, arith}
use Rattle.std.proofs.lemmas.Bool.{both_ways}
use Rattle.race_records.specs.declared.event.Op.TheVariants.{Write}
use Rattle.race_model.specs.Examples.{main, w, x, does}
use Rattle.race_exchange.specs.{Independent.are_independent, Examples.{w_writes, main_writes, main_exits, greater_first, lesser_first}}
use Rattle.race_exchange.specs.Examples.{on_one_variable_turned}
use Rattle.race_exchange.proofs.ExampleTests.{three_at_least, first_two}
use Rattle.race_exchange.proofs.examples.the_last_two_never_change_places.Goals as goal

pub returns-clause-something_follows : goal.returns-clause-something_follows
returns-clause-something_follows c = record {
  before = [];
  a = w_writes;
  b = main_writes;
  next = main_exits;
  after = [];
  independent = refl;
  one_is = refl;
  other_is = refl;
}

pub returns-clause-last_two : goal.returns-clause-last_two
returns-clause-last_two c = λ is. let more = three_at_least greater_first lesser_first is in absurd (omega (arith, more))

pub returns-clause-dependent : goal.returns-clause-dependent
returns-clause-dependent c = λ is.
    both_ways (are_independent (does w (Write x 1)) (does main (Write x 2))) refl
    (first_two (does w (Write x 1)) (does main (Write x 2)) main_exits on_one_variable_turned is)
