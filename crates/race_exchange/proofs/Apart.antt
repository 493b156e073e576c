-- What independent events have to do with each other: nothing.
use Rattle.std.proofs.Common.{◌≡◌, ℕ, ◌==◌, ◌&&◌, not, Bool, true, false, Option, Some, None, refl, sym, ap, ◌∙◌}
use Rattle.std.proofs.{Common.{subst, inl, inr, arith, eqb-true, eq-eqb}, lemmas.Bool.{and_parts, and_from, or_parts}}
use Rattle.std.proofs.lemmas.Bool.{or_cases, or_from, or_left, or_right, not-true, both_ways, not_from_false, false_from_ne_true}
use Rattle.std.specs.Option.{option_map_or}
use Rattle.race_records.specs.declared.event.{Event.Event, Op.{Op, TheVariants.{Read}}}
use Rattle.race_model.specs.Events.{partner, gives, takes_part}
use Rattle.race_exchange.specs.Independent.{Thing, OfVariable, OfChannel, OfLock, OfOnce, thing_of, same_thing, both_on_one}
use Rattle.race_exchange.specs.Independent.{collide, share_goroutine, stays, are_independent}

-- neither stays, no goroutine takes part in both, and they don't collide
pub record Apart (a b : Event) : Type 0 where
  pub a_moves : stays a ≡ false
  pub b_moves : stays b ≡ false
  pub no_goroutine : (g : ℕ) → takes_part g a ≡ true → takes_part g b ≡ true → ⊥
  pub no_thing : collide a.op b.op ≡ false

-- g is the number that is given
given : (o : Option ℕ) (g : ℕ) → gives o g ≡ true → o ≡ Some g
given None g is = cc
given (Some m) g is = ap Some (eqb-true m g is)

gives_back : (o : Option ℕ) (g : ℕ) → o ≡ Some g → gives o g ≡ true
gives_back o g is = subst (λ o. gives o g ≡ true) (sym is) (eq-eqb g g refl)

-- who does a, and its second participant, take no part in b
unshared : (a b : Event) → share_goroutine a b ≡ false → (g : ℕ) → takes_part g a ≡ true → takes_part g b ≡ true → ⊥
unshared a b none g in_a in_b = elim (or_cases (a.who == g) (gives (partner a.op) g) in_a) [
  | inl who ↦ both_ways (takes_part g b) (subst (λ g. takes_part g b ≡ false) (eqb-true a.who g who) parts.0) in_b
  | inr second ↦ both_ways (takes_part g b) (subst (λ o. option_map_or (λ g. takes_part g b) o false ≡ false) (given (partner a.op) g second) parts.1) in_b
]
  where
    parts : (takes_part a.who b ≡ false) × (option_map_or (λ g. takes_part g b) (partner a.op) false ≡ false)
    parts = or_parts (takes_part a.who b) (option_map_or (λ g. takes_part g b) (partner a.op) false) none

shares_none : (a b : Event) → ((g : ℕ) → takes_part g a ≡ true → takes_part g b ≡ true → ⊥) → share_goroutine a b ≡ false
shares_none a b none = or_from (takes_part a.who b) (option_map_or (λ g. takes_part g b) (partner a.op) false)
    (false_from_ne_true (takes_part a.who b) (none a.who (or_left (a.who == a.who) (gives (partner a.op) a.who) (eq-eqb a.who a.who refl))))
    (by (partner a.op) refl)
  where
    by : (o : Option ℕ) → partner a.op ≡ o → option_map_or (λ g. takes_part g b) o false ≡ false
    by None is = refl
    by (Some g) is = false_from_ne_true (takes_part g b) (none g (or_right (a.who == g) (gives (partner a.op) g) (gives_back (partner a.op) g is)))

-- independent events are apart
pub apart : (a b : Event) → are_independent a b ≡ true → Apart a b
apart a b is =
    let both = and_parts (not (stays a) && not (stays b)) (not (share_goroutine a b) && not (collide a.op b.op)) is in
    let move = and_parts (not (stays a)) (not (stays b)) both.0 in
    let rest = and_parts (not (share_goroutine a b)) (not (collide a.op b.op)) both.1 in
    record {
      a_moves = not-true (stays a) move.0;
      b_moves = not-true (stays b) move.1;
      no_goroutine = unshared a b (not-true (share_goroutine a b) rest.0);
      no_thing = not-true (collide a.op b.op) rest.1;
    }

-- and what is apart is independent
pub independent_from : (a b : Event) → Apart a b → are_independent a b ≡ true
independent_from a b is = and_from (not (stays a) && not (stays b)) (not (share_goroutine a b) && not (collide a.op b.op))
    (and_from (not (stays a)) (not (stays b)) (not_from_false (stays a) is.a_moves) (not_from_false (stays b) is.b_moves))
    (and_from (not (share_goroutine a b)) (not (collide a.op b.op))
    (not_from_false (share_goroutine a b) (shares_none a b is.no_goroutine)) (not_from_false (collide a.op b.op) is.no_thing))

-- a thing is the same one the other way
same_number : (m n : ℕ) → (m == n) ≡ (n == m)
same_number m n = grind arith

same_thing_other_way : (s t : Thing) → same_thing s t ≡ same_thing t s
same_thing_other_way (OfVariable x) (OfVariable y) = same_number x y
same_thing_other_way (OfChannel c) (OfChannel d) = same_number c d
same_thing_other_way (OfLock l) (OfLock m) = same_number l m
same_thing_other_way (OfOnce o) (OfOnce p) = same_number o p
same_thing_other_way _ _ = refl

on_one_other_way : (s t : Option Thing) → both_on_one s t ≡ both_on_one t s
on_one_other_way (Some s) (Some t) = same_thing_other_way s t
on_one_other_way None None = refl
on_one_other_way None (Some t) = refl
on_one_other_way (Some s) None = refl

-- a read of a variable
abbrev pub is_read : Op → Bool
is_read (Read x v) = true
is_read _ = false

-- two reads don't collide, and all others do where they are on one thing
pub collide_is : (o p : Op) → collide o p ≡ (not (is_read o && is_read p) && both_on_one (thing_of o) (thing_of p))
collide_is (Read x v) (Read y w) = refl
collide_is (Read x v) _ = refl
collide_is _ p = refl

collide_other_way : (o p : Op) → collide o p ≡ collide p o
collide_other_way o p = collide_is o p
    ∙ (λ i. not (and_other_way (is_read o) (is_read p) i) && on_one_other_way (thing_of o) (thing_of p) i)
    ∙ sym (collide_is p o)
  where
    and_other_way : (b c : Bool) → (b && c) ≡ (c && b)
    and_other_way true true = refl
    and_other_way true false = refl
    and_other_way false true = refl
    and_other_way false false = refl

pub apart_other_way : (a b : Event) → Apart a b → Apart b a
apart_other_way a b is = record {
  a_moves = is.b_moves;
  b_moves = is.a_moves;
  no_goroutine = λ g in_b in_a. is.no_goroutine g in_a in_b;
  no_thing = collide_other_way b.op a.op ∙ is.no_thing;
}

-- independence goes both ways
pub independent_other_way : (a b : Event) → are_independent a b ≡ true → are_independent b a ≡ true
independent_other_way a b is = independent_from b a (apart_other_way a b (apart a b is))

-- a thing is itself
same_thing_itself : (t : Thing) → same_thing t t ≡ true
same_thing_itself (OfVariable x) = eq-eqb x x refl
same_thing_itself (OfChannel c) = eq-eqb c c refl
same_thing_itself (OfLock l) = eq-eqb l l refl
same_thing_itself (OfOnce o) = eq-eqb o o refl

-- where both are on one thing and don't collide, both are reads
pub both_read : (o p : Op) (t : Thing) → collide o p ≡ false → thing_of o ≡ Some t → thing_of p ≡ Some t → is_read o ≡ false → ⊥
both_read o p t free on_o on_p other =
    let collides : collide o p ≡ true = collide_is o p
    ∙ (λ i. not (other i && is_read p) && both_on_one (on_o i) (on_p i)) ∙ same_thing_itself t in
    both_ways (collide o p) free collides
