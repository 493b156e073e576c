-- The choices of two lists of requests in which each goroutine waits for the same: they correspond.
use Rattle.std.proofs.Common.{ℕ, zero, suc, ◌≡◌, ◌==◌, ◌<◌, ◌+◌, ◌-◌, ◌⊎◌, ◌&&◌, ◌||◌, not, Bool, true, false, cond, List, [], ◌∷◌}
use Rattle.std.proofs.Common.{length, filter, Option, Some, None, is_none, refl, sym, ap, ◌∙◌, subst, arith, slice_get, inl, inr, true≢false, eq-eqb, eqb-true}
use Rattle.std.proofs.lemmas.{Bool.Decides.nat_tests, Option.{none-some, same_Some, slice_get_within}}
use Rattle.race_model.{specs.Legal.broken, proofs.Indexes.at_below}
use Rattle.race_records.specs.declared.event.{Event.Event, Op.Op}
use Rattle.race_requests.specs.declared.{choice.Choice.Choice, request.{Ask.Ask, Waiter.Waiter}}
use Rattle.race_requests.specs.Choices.{choice, op_of, lone_event, meet_event, event_of, is_legal_next, is_possible, branches, branches_at, tuples_of}
use Rattle.race_requests.specs.Choices.{is_default_of, is_default, stands_in, is_move, can_move, is_choice, choices}
use Rattle.race_explore.proofs.WaiterLemmas.{waits_of, WaitOnce, IsIn, as_number, count_cons, found_in, in_found, counted, once_rest, any_in, any_from}
use Rattle.race_explore.proofs.TupleLemmas.{IsTupleOf, IsPartner, one_less_is, filter_has, filter_only, tuple_there, tuple_only, choice_has, choice_only}

-- who stands before the others doesn't wait among them
twice : (x : Waiter) (ws : List Waiter) → WaitOnce (x ∷ ws) → (w : Waiter) → IsIn w ws → x.who ≡ w.who → ⊥
twice x ws once w there same =
    let sum = count_cons w.who x ws in
    let one : as_number (x.who == w.who) ≡ 1 = ap as_number (eq-eqb x.who w.who same) in
    let all = once w.who in
    let some = counted ws w there in
    absurd (omega (arith, sum, one, all, some))

-- nobody waits at two places
pub one_place : (ws : List Waiter) → WaitOnce ws → (i j : ℕ) (v w : Waiter) → slice_get ws i ≡ Some v → slice_get ws j ≡ Some w → v.who ≡ w.who → i ≡ j
one_place [] once i j v w v_at w_at same = absurd (none-some v v_at)
one_place (x ∷ ws) once zero zero v w v_at w_at same = refl
one_place (x ∷ ws) once zero (suc j) v w v_at w_at same = absurd (twice x ws once w (j, w_at) (ap (λ (y : Waiter). y.who) (same_Some x v v_at) ∙ same))
one_place (x ∷ ws) once (suc i) zero v w v_at w_at same =
    absurd (twice x ws once v (i, v_at) (ap (λ (y : Waiter). y.who) (same_Some x w w_at) ∙ sym same))
one_place (x ∷ ws) once (suc i) (suc j) v w v_at w_at same = ap suc (one_place ws (once_rest x ws once) i j v w v_at w_at same)

-- t meets nobody, and u; or both meet the same request
abbrev pub MeetTheSame : List Waiter → List Waiter → ℕ → ℕ → Type 0
MeetTheSame ws vs p q =
    ((p ≡ 0) × (q ≡ 0)) ⊎ ((0 < p) × (0 < q) × (r : Waiter) × (slice_get ws (p - 1) ≡ Some r) × (slice_get vs (q - 1) ≡ Some r))

-- t of the one list and u of the other are of the same requests by the same branches
pub record AreSame (ws vs : List Waiter) (t u : Choice) : Type 0 where
  pub w : Waiter
  pub asks : slice_get ws t.place ≡ Some w
  pub asks_too : slice_get vs u.place ≡ Some w
  pub offer : u.offer ≡ t.offer
  pub partner : MeetTheSame ws vs t.partner u.partner
  pub partner_offer : u.partner_offer ≡ t.partner_offer

other_way : (ws vs : List Waiter) (p q : ℕ) → MeetTheSame ws vs p q → MeetTheSame vs ws q p
other_way ws vs p q (inl (none, none2)) = inl (none2, none)
other_way ws vs p q (inr (some, some2, r, at, at2)) = inr (some2, some, r, at2, at)

pub same_other_way : (ws vs : List Waiter) (t u : Choice) → AreSame ws vs t u → AreSame vs ws u t
same_other_way ws vs t u same = record {
  w = same.w;
  asks = same.asks_too;
  asks_too = same.asks;
  offer = sym same.offer;
  partner = other_way ws vs t.partner u.partner same.partner;
  partner_offer = sym same.partner_offer;
}

-- what the request makes by that branch, alone or with a partner
abbrev pub made_by : List Event → Waiter → ℕ → Bool → Option Waiter → ℕ → Option Event
made_by past w k alone r q = cond alone (lone_event past w k) (elim r [ None ↦ None | Some v ↦ meet_event w k v q ])

pub event_is : (past : List Event) (ws : List Waiter) (t : Choice) (w : Waiter) → slice_get ws t.place ≡ Some w
    → event_of past ws t ≡ made_by past w t.offer (t.partner == 0) (slice_get ws (t.partner - 1)) (t.partner_offer - 1)
event_is past ws t w at = ap (λ (o : Option Waiter). elim o [
  | None ↦ None
  | Some w ↦ cond (t.partner == 0) (lone_event past w t.offer) (elim (slice_get ws (t.partner - 1)) [
    | None ↦ None
    | Some r ↦ meet_event w t.offer r (t.partner_offer - 1)
  ])
]) at

positive : (p : ℕ) → 0 < p → (p == 0) ≡ false
positive p some = grind (arith, nat_tests)

-- both make the same event, where the request does the same alone
pub same_event : (past later : List Event) (ws vs : List Waiter) (t u : Choice) (same : AreSame ws vs t u)
    → (t.partner ≡ 0 → op_of past same.w.asked.ask t.offer ≡ op_of later same.w.asked.ask t.offer) → event_of past ws t ≡ event_of later vs u
same_event past later ws vs t u same alone =
    event_is past ws t same.w same.asks
    ∙ by same.partner
    ∙ sym (λ i. made_by later same.w (same.offer i) (u.partner == 0) (slice_get vs (u.partner - 1)) (same.partner_offer i - 1))
    ∙ sym (event_is later vs u same.w same.asks_too)
  where
    by : MeetTheSame ws vs t.partner u.partner
        → made_by past same.w t.offer (t.partner == 0) (slice_get ws (t.partner - 1)) (t.partner_offer - 1)
        ≡ made_by later same.w t.offer (u.partner == 0) (slice_get vs (u.partner - 1)) (t.partner_offer - 1)
    by (inl (none, none2)) =
        ap (λ (b : Bool). made_by past same.w t.offer b (slice_get ws (t.partner - 1)) (t.partner_offer - 1)) (eq-eqb t.partner 0 none)
        ∙ ap (λ (o : Option Op). elim o [
          | None ↦ None
          | Some op ↦ Some (record { who = same.w.who; op = op; place = same.w.asked.place; place2 = None })
        ]) (alone none)
        ∙ ap (λ (b : Bool). made_by later same.w t.offer b (slice_get vs (u.partner - 1)) (t.partner_offer - 1)) (sym (eq-eqb u.partner 0 none2))
    by (inr (some, some2, r, at, at2)) =
        (λ i. made_by past same.w t.offer (positive t.partner some i) (at i) (t.partner_offer - 1))
        ∙ sym (λ i. made_by later same.w t.offer (positive u.partner some2 i) (at2 i) (t.partner_offer - 1))

branches_are : (ws : List Waiter) (i : ℕ) (w : Waiter) → slice_get ws i ≡ Some w → branches_at ws i ≡ branches w.asked.ask
branches_are ws i w at = ap (λ (o : Option Waiter). elim o [ Some w ↦ branches w.asked.ask | None ↦ 0 ]) at

-- what is a tuple in the one list is one in the other
pub same_tuple : (ws vs : List Waiter) (t u : Choice) → AreSame ws vs t u → IsTupleOf ws t → IsTupleOf vs u
same_tuple ws vs t u same is = record {
  place = slice_get_within vs u.place same.w same.asks_too;
  branch = subst (λ n. u.offer < n) (branches_are ws t.place same.w same.asks ∙ sym (branches_are vs u.place same.w same.asks_too))
      (subst (λ k. k < branches_at ws t.place) (sym same.offer) is.branch);
  partner = by same.partner is.partner;
}
  where
    by : MeetTheSame ws vs t.partner u.partner → IsPartner (length ws) (branches_at ws) t.partner t.partner_offer
        → IsPartner (length vs) (branches_at vs) u.partner u.partner_offer
    by (inl (none, none2)) (inl (alone, no_branch)) = inl (none2, same.partner_offer ∙ no_branch)
    by (inl (none, none2)) (inr (some, some_branch, less, within)) = absurd (omega (arith, none, some))
    by (inr (some, some2, r, at, at2)) (inl (none, none_too)) = absurd (omega (arith, none, some))
    by (inr (some, some2, r, at, at2)) (inr (more, some_branch, less, within)) = inr (
      some2,
      subst (λ k. 0 < k) (sym same.partner_offer) some_branch,
      slice_get_within vs (u.partner - 1) r at2,
      subst (λ n. u.partner_offer - 1 < n) (branches_are ws (t.partner - 1) r at ∙ sym (branches_are vs (u.partner - 1) r at2))
          (subst (λ k. k - 1 < branches_at ws (t.partner - 1)) (sym same.partner_offer) within),
    )

-- a tuple has its like in a list that has its requests
pub like_there : (ws vs : List Waiter) (t : Choice) → IsTupleOf ws t → ((w : Waiter) → slice_get ws t.place ≡ Some w → IsIn w vs)
    → ((r : Waiter) → 0 < t.partner → slice_get ws (t.partner - 1) ≡ Some r → IsIn r vs) → (u : Choice) × AreSame ws vs t u
like_there ws vs t is asker partner = by is.partner
  where
    w : Waiter
    w = (at_below ws t.place is.place).0

    asks : slice_get ws t.place ≡ Some w
    asks = (at_below ws t.place is.place).1

    by : IsPartner (length ws) (branches_at ws) t.partner t.partner_offer → (u : Choice) × AreSame ws vs t u
    by (inl (none, no_branch)) =
        let (i, at) = asker w asks in (
          choice i t.offer 0 t.partner_offer,
          record { w = w; asks = asks; asks_too = at; offer = refl; partner = inl (none, refl); partner_offer = refl },
        )
    by (inr (some, some_branch, less, within)) =
        let (i, at) = asker w asks in
        let (r, r_at) = at_below ws (t.partner - 1) less in
        let (j, at2) = partner r some r_at in (
          choice i t.offer (j + 1) t.partner_offer,
          record {
            w = w;
            asks = asks;
            asks_too = at;
            offer = refl;
            partner = inr (some, omega arith, r, r_at, subst (λ m. slice_get vs m ≡ Some r) (sym (one_less_is j)) at2);
            partner_offer = refl;
          },
        )

default_is : (ws : List Waiter) (t : Choice) (w : Waiter) → slice_get ws t.place ≡ Some w → is_default ws t ≡ is_default_of w.asked.ask t.offer
default_is ws t w at = ap (λ (o : Option Waiter). elim o [ None ↦ false | Some w ↦ is_default_of w.asked.ask t.offer ]) at

pub same_default : (ws vs : List Waiter) (t u : Choice) → AreSame ws vs t u → is_default ws t ≡ is_default vs u
same_default ws vs t u same =
    default_is ws t same.w same.asks ∙ ap (λ k. is_default_of same.w.asked.ask k) (sym same.offer) ∙ sym (default_is vs u same.w same.asks_too)

both_by : (a b : Bool) → (a && b) ≡ true → (a ≡ true) × (b ≡ true)
both_by true b is = (refl, is)
both_by false b is = absurd (true≢false (sym is))

either_by : (a b : Bool) → (a || b) ≡ true → (a ≡ true) ⊎ (b ≡ true)
either_by true b is = inl refl
either_by false b is = inr is

-- the request at one place of the one list stands at a place of the other, and so in like tuples
same_stands : (ws vs : List Waiter) → WaitOnce vs → (i j : ℕ) (w : Waiter) → slice_get ws i ≡ Some w → slice_get vs j ≡ Some w → (t u : Choice)
    → AreSame ws vs t u → stands_in i t ≡ true → stands_in j u ≡ true
same_stands ws vs once i j w at at2 t u same stands = by (either_by (t.place == i) (t.partner == i + 1) stands)
  where
    or_true : (a b : Bool) → b ≡ true → (a || b) ≡ true
    or_true true b is = refl
    or_true false b is = is

    met : MeetTheSame ws vs t.partner u.partner → t.partner ≡ i + 1 → u.partner ≡ j + 1
    met (inl (none, none2)) is = absurd (omega (arith, none, is))
    met (inr (some, some2, r, r_at, r_at2)) is =
        let less : t.partner - 1 ≡ i = omega (arith, is) in
        let who : r ≡ w = same_Some r w (sym r_at ∙ ap (slice_get ws) less ∙ at) in
        let place : u.partner - 1 ≡ j = one_place vs once (u.partner - 1) j r w r_at2 at2 (ap (λ (x : Waiter). x.who) who) in
        omega (arith, place, some2)

    by : ((t.place == i) ≡ true) ⊎ ((t.partner == i + 1) ≡ true) → stands_in j u ≡ true
    by (inl is) =
        let who : same.w ≡ w = same_Some same.w w (sym same.asks ∙ ap (slice_get ws) (eqb-true t.place i is) ∙ at) in
        let place : u.place ≡ j = one_place vs once u.place j same.w w same.asks_too at2 (ap (λ (x : Waiter). x.who) who) in
        ap (λ b. b || (u.partner == j + 1)) (eq-eqb u.place j place)
    by (inr is) = or_true (u.place == j) (u.partner == j + 1) (eq-eqb u.partner (j + 1) (met same.partner (eqb-true t.partner (i + 1) is)))

-- each goroutine waits for the same in both lists, and the events say the same to those who ask
pub record AskTheSame (past later : List Event) (ws vs : List Waiter) : Type 0 where
  pub broken : (caps : ℕ → ℕ) (e : Event) → broken caps past e ≡ broken caps later e
  pub does : (ask : Ask) (k : ℕ) → op_of past ask k ≡ op_of later ask k
  pub waits : (g : ℕ) → waits_of g ws ≡ waits_of g vs
  pub once : WaitOnce ws
  pub once_too : WaitOnce vs

pub ask_other_way : (past later : List Event) (ws vs : List Waiter) → AskTheSame past later ws vs → AskTheSame later past vs ws
ask_other_way past later ws vs ask = record {
  broken = λ caps e. sym (ask.broken caps e);
  does = λ asked k. sym (ask.does asked k);
  waits = λ g. sym (ask.waits g);
  once = ask.once_too;
  once_too = ask.once;
}

pub waits_too : (past later : List Event) (ws vs : List Waiter) → AskTheSame past later ws vs → (w : Waiter) → IsIn w ws → IsIn w vs
waits_too past later ws vs ask w there = (found_in w.who vs w (sym (ask.waits w.who) ∙ in_found ws ask.once w there)).0

module _ (caps : ℕ → ℕ) where
  pub same_possible : (past later : List Event) (ws vs : List Waiter) → AskTheSame past later ws vs → (t u : Choice) → AreSame ws vs t u
      → is_possible caps past ws t ≡ is_possible caps later vs u
  same_possible past later ws vs ask t u same =
      ap (is_legal_next caps past) (same_event past later ws vs t u same (λ alone. ask.does same.w.asked.ask t.offer)) ∙ by (event_of later vs u)
    where
      by : (o : Option Event) → is_legal_next caps past o ≡ is_legal_next caps later o
      by None = refl
      by (Some e) = ap is_none (ask.broken caps e)

  like_of : (past later : List Event) (ws vs : List Waiter) → AskTheSame past later ws vs → (t : Choice) → IsTupleOf ws t → (u : Choice) × AreSame ws vs t u
  like_of past later ws vs ask t is =
      like_there ws vs t is (λ w at. waits_too past later ws vs ask w (t.place, at)) (λ r some at. waits_too past later ws vs ask r (t.partner - 1, at))

  same_move : (past later : List Event) (ws vs : List Waiter) → AskTheSame past later ws vs → (i j : ℕ) (w : Waiter) → slice_get ws i ≡ Some w
      → slice_get vs j ≡ Some w → can_move caps past ws i ≡ true → can_move caps later vs j ≡ true
  same_move past later ws vs ask i j w at at2 can =
      let (t, there, stands) = any_in (stands_in i) (filter (is_move caps past ws) (tuples_of ws)) can in
      let (old, moves) = filter_only (is_move caps past ws) (tuples_of ws) t there in
      let tuple = tuple_only (length ws) (branches_at ws) t old in
      let (u, same) = like_of past later ws vs ask t tuple in
      let moves_too : is_move caps later vs u ≡ true =
      sym (λ i. same_possible past later ws vs ask t u same i && not (same_default ws vs t u same i)) ∙ moves in
      any_from (stands_in j) (filter (is_move caps later vs) (tuples_of vs)) u
      (filter_has (is_move caps later vs) (tuples_of vs) u (tuple_there (length vs) (branches_at vs) u (same_tuple ws vs t u same tuple)) moves_too)
      (same_stands ws vs ask.once_too i j w at at2 t u same stands)

  -- what is a choice in the one list is one in the other
  pub same_choice : (past later : List Event) (ws vs : List Waiter) → AskTheSame past later ws vs → (t u : Choice) → AreSame ws vs t u
      → is_choice caps past ws t ≡ true → is_choice caps later vs u ≡ true
  same_choice past later ws vs ask t u same is =
      let parts = both_by (is_possible caps past ws t) (not (is_default ws t && can_move caps past ws t.place)) is in
      (λ i. (sym (same_possible past later ws vs ask t u same) ∙ parts.0) i && stays i)
    where
      by : (d m n : Bool) → (n ≡ true → m ≡ true) → not (d && m) ≡ true → not (d && n) ≡ true
      by false m n back is = refl
      by true m false back is = refl
      by true m true back is = sym (ap (λ b. not b) (back refl)) ∙ is

      stays : not (is_default vs u && can_move caps later vs u.place) ≡ true
      stays =
          ap (λ b. not (b && can_move caps later vs u.place)) (sym (same_default ws vs t u same))
          ∙ by (is_default ws t) (can_move caps past ws t.place) (can_move caps later vs u.place)
          (same_move later past vs ws (ask_other_way past later ws vs ask) u.place t.place same.w same.asks_too same.asks)
          (both_by (is_possible caps past ws t) (not (is_default ws t && can_move caps past ws t.place)) is).1

  pub like_choice : (past later : List Event) (ws vs : List Waiter) → AskTheSame past later ws vs → (t : Choice) → IsIn t (choices caps past ws)
      → (u : Choice) × AreSame ws vs t u × IsIn u (choices caps later vs)
  like_choice past later ws vs ask t there =
      let (tuple, is) = choice_only caps past ws t there in
      let (u, same) = like_of past later ws vs ask t tuple in
      (u, same, choice_has caps later vs u (same_tuple ws vs t u same tuple) (same_choice past later ws vs ask t u same is))
