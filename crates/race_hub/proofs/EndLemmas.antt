-- When the hub has ended.
use Rattle.std.proofs.Common.{◌≡◌, ◌==◌, ◌&&◌, ℕ, ◌%◌, Bool, true, false, if◌then◌else◌, List, [], ◌∷◌, length, Option}
use Rattle.std.proofs.{Common.{Some, None, refl, ap, slice_get, arith}, lemmas.Bool.Decides.nat_tests}
use Rattle.std.{proofs.lemmas.Option.slice_get_within, specs.{List.list_any, Prelude.is_some}}
use Rattle.race_requests.specs.{declared.choice.Choice.Choice, Search.picked}
use Rattle.race_hub.specs.{declared.ending.End.End, Hub.{HubState, stop_of, end_of, is_deadlock, choices_of}}

end_by : (stop : Option End) (dead : Bool) → stop ≡ None → dead ≡ false
    → ◌≡◌ {A = Option End} (elim stop [ Some e ↦ Some e | None ↦ if dead then Some End.Deadlock else None ]) None
end_by stop dead p q = rw (p, q) refl

some_left : {X : Type 0} (xs : List X) (i : ℕ) (x : X) → slice_get xs i ≡ Some x → (length xs == 0) ≡ false
some_left xs i x is = let less = slice_get_within xs i x is in grind (arith, nat_tests)

last_false : (a b c : Bool) → c ≡ false → (a && (b && c)) ≡ false
last_false true true c is = is
last_false true false c is = refl
last_false false b c is = refl

module _ {R : Type 0} where
  -- where nothing stops the hub and there is a choice it hasn't ended
  pub runs_on : (h : HubState R) (pick : ℕ) (t : Choice) → stop_of h ≡ None → picked pick (choices_of h) ≡ Some t → end_of h ≡ None
  runs_on h pick t on is =
      end_by (stop_of h) (is_deadlock h) on (last_false _ _ _ (some_left (choices_of h) (pick % length (choices_of h)) t is))

-- whoever is among those that are out keeps the hub from a deadlock
among_some : {X : Type 0} (p : X → Bool) (xs : List X) → list_any p xs ≡ true → (length xs == 0) ≡ false
among_some p [] is = absurd cc
among_some p (x ∷ xs) is = grind (arith, nat_tests)

middle_false : (a b c : Bool) → b ≡ false → (a && (b && c)) ≡ false
middle_false true b c is = rw is refl
middle_false false b c is = refl

by_dead : (stop : Option End) (dead : Bool) → dead ≡ false
    → ◌≡◌ {A = Option End} (elim stop [ Some e ↦ Some e | None ↦ if dead then Some End.Deadlock else None ]) stop
by_dead (Some e) dead is = refl
by_dead None dead is = rw is refl

module _ {R : Type 0} where
  pub end_while_out : (h : HubState R) (p : ℕ → Bool) → list_any p h.out ≡ true → end_of h ≡ stop_of h
  end_while_out h p is = by_dead (stop_of h) (is_deadlock h) (middle_false _ _ _ (among_some p h.out is))

  pub end_while_ready : (h : HubState R) → (length h.ready == 0) ≡ false → end_of h ≡ stop_of h
  end_while_ready h is = by_dead (stop_of h) (is_deadlock h) (ap (λ b. b && ((length h.out == 0) && (length (choices_of h) == 0))) is)

-- what isn't there is nothing
pub none_of : {X : Type 0} (o : Option X) → is_some o ≡ false → o ≡ None
none_of None is = refl
none_of (Some x) is = absurd cc
