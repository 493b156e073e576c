use Rattle.std.proofs.Common.{[], ◌∷◌, refl}
use Rattle.std.proofs.lemmas.Bool.{both_ways}
use Rattle.race_exchange.specs.{Independent.are_turned, Examples.{v_writes, w_writes, main_writes, main_exits}}
use Rattle.race_exchange.proofs.InOrder.{order_on, order_two}
use Rattle.race_exchange.proofs.examples.turned_neighbours_are_out_of_order.Goals as goal

pub returns-clause-turned : goal.returns-clause-turned
returns-clause-turned c = λ order. both_ways (are_turned w_writes main_writes) (order 0 w_writes main_writes main_exits refl refl refl) refl

pub returns-clause-three : goal.returns-clause-three
returns-clause-three c = order_on are_turned main_writes w_writes (v_writes ∷ main_exits ∷ []) refl
    (order_on are_turned w_writes v_writes (main_exits ∷ []) refl (order_two are_turned v_writes main_exits))
