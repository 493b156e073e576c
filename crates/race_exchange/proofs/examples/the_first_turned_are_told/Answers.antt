use Rattle.std.proofs.Common.{refl, arith}
use Rattle.std.proofs.lemmas.Bool.{both_ways}
use Rattle.race_exchange.specs.{Independent.are_turned, Examples.{v_writes, w_writes, main_writes}}
use Rattle.race_exchange.proofs.InOrder.{order_two}
use Rattle.race_exchange.proofs.examples.the_first_turned_are_told.Goals as goal

pub returns-clause-first : goal.returns-clause-first
returns-clause-first c = record {
  before = 0;
  a = v_writes;
  b = w_writes;
  last_two = refl;
  at_a = refl;
  at_b = refl;
  turned = refl;
  more = omega arith;
  first = order_two are_turned v_writes w_writes;
}

pub returns-clause-later : goal.returns-clause-later
returns-clause-later c = λ is. both_ways (are_turned v_writes w_writes) (is.first 0 v_writes w_writes main_writes refl refl refl) refl
