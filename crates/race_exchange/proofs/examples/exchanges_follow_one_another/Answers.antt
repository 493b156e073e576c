use Rattle.std.proofs.Common.{[], ◌∷◌, refl, ap, arith}
use Rattle.race_records.specs.declared.event.Event.{Event}
use Rattle.race_exchange.specs.{Exchange.{same, exchanged}, Examples.{v_writes, w_writes, main_writes, main_exits}}
use Rattle.race_exchange.proofs.ExampleTests.{first_changes}
use Rattle.race_exchange.proofs.examples.exchanges_follow_one_another.Goals as goal

pub returns-clause-none : goal.returns-clause-none
returns-clause-none c = same

-- w before v, then main before v, then main before w
pub returns-clause-three : goal.returns-clause-three
returns-clause-three c =
    exchanged {other = w_writes ∷ v_writes ∷ main_writes ∷ main_exits ∷ []} (record {
      before = [];
      a = v_writes;
      b = w_writes;
      next = main_writes;
      after = main_exits ∷ [];
      independent = refl;
      one_is = refl;
      other_is = refl;
    }) (exchanged {other = w_writes ∷ main_writes ∷ v_writes ∷ main_exits ∷ []} (record {
      before = w_writes ∷ [];
      a = v_writes;
      b = main_writes;
      next = main_exits;
      after = [];
      independent = refl;
      one_is = refl;
      other_is = refl;
    }) (exchanged (record {
      before = [];
      a = w_writes;
      b = main_writes;
      next = v_writes;
      after = main_exits ∷ [];
      independent = refl;
      one_is = refl;
      other_is = refl;
    }) same))

pub returns-clause-one_is_not_enough : goal.returns-clause-one_is_not_enough
returns-clause-one_is_not_enough c = λ is.
    let same = first_changes v_writes w_writes main_writes (main_writes ∷ main_exits ∷ []) (w_writes ∷ v_writes ∷ main_exits ∷ []) is
    (λ first. absurd (omega (arith, ap (λ (e : Event). e.who) first))) in
    absurd (omega (arith, ap (λ (e : Event). e.who) same))
