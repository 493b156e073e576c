-- Who left, one step on, and what becomes of a bad request.
use Rattle.std.proofs.Common.{◌≡◌, ◌==◌, ◌||◌, ◌&&◌, not, ℕ, ◌<◌, ◌≤◌, ◌+◌, ◌++◌, Bool, true, false, cond, List, []}
use Rattle.std.proofs.Common.{◌∷◌, Some, None, refl, sym, ap, ◌∙◌, arith, true≢false, eq-eqb, zero, suc, length, subst}
use Rattle.std.proofs.lemmas.List.{Folds.{find-append, list_any-append}, Elements.filter-append}
use Rattle.std.specs.{List.{count_by, find, list_any}, Option.option_or}
use Rattle.race_records.specs.{declared.event.Event.Event, Declarations.DeclsState}
use Rattle.race_model.{specs.Events.{is_exit, is_fault, has_exited}, proofs.CountSteps.{as_number, has_exited_push}}
use Rattle.race_requests.specs.declared.request.{Ask.Ask, Waiter.Waiter}
use Rattle.race_requests.specs.Sound.{asks_to_start, is_sound, is_out_of_turn, is_bad_among}
use Rattle.race_hub.specs.{Hub.HubState, Kept.{is_active, has_failed, has_left, StandOnce, HavePlaces}}
use Rattle.race_hub.{specs.Recording.{others_of, HasBadRequest}, proofs.OnceLemmas.{at_most_one, count_cons, has_failed_push}}

pub not_not : (b : Bool) → not (not b) ≡ b
not_not true = refl
not_not false = refl

-- who stands in a list hasn't left
pub standing_stays : (v x f : Bool) (n : ℕ) → n ≡ cond ((v && not x) && not f) 1 0 → 0 < n → (x || f) ≡ false
standing_stays true false false n is more = refl
standing_stays true false true n is more = absurd (omega (arith, is, more))
standing_stays true true f n is more = absurd (omega (arith, is, more))
standing_stays false x f n is more = absurd (omega (arith, is, more))

-- one step of the count: x says that g exited, f that it failed, q that the event is its own
leaves_once : (x f q lx lf : Bool) (m n : ℕ) → m ≡ cond (x || f) 1 0 → n ≡ m + as_number ((lx || lf) && q) → (q ≡ true → (x || f) ≡ false)
    → n ≡ cond ((x || (q && lx)) || (f || (q && lf))) 1 0
leaves_once true f true lx lf m n old sum stays = absurd (true≢false (stays refl))
leaves_once false true true lx lf m n old sum stays = absurd (true≢false (stays refl))
leaves_once false false true true lf m n old sum stays = omega (arith, old, sum)
leaves_once false false true false true m n old sum stays = omega (arith, old, sum)
leaves_once false false true false false m n old sum stays = omega (arith, old, sum)
leaves_once true f false true lf m n old sum stays = omega (arith, old, sum)
leaves_once true f false false true m n old sum stays = omega (arith, old, sum)
leaves_once true f false false false m n old sum stays = omega (arith, old, sum)
leaves_once false true false true lf m n old sum stays = omega (arith, old, sum)
leaves_once false true false false true m n old sum stays = omega (arith, old, sum)
leaves_once false true false false false m n old sum stays = omega (arith, old, sum)
leaves_once false false false true lf m n old sum stays = omega (arith, old, sum)
leaves_once false false false false true m n old sum stays = omega (arith, old, sum)
leaves_once false false false false false m n old sum stays = omega (arith, old, sum)

pub left_push : (g : ℕ) (past : List Event) (e : Event) (m n : ℕ) → m ≡ cond (has_left g past) 1 0
    → n ≡ m + as_number ((is_exit e.op || is_fault e.op) && (e.who == g)) → ((e.who == g) ≡ true → has_left g past ≡ false)
    → n ≡ cond (has_left g (past ++ e ∷ [])) 1 0
left_push g past e m n old sum stays =
    leaves_once (has_exited g past) (has_failed g past) (e.who == g) (is_exit e.op) (is_fault e.op) m n old sum stays
    ∙ sym (λ i. cond (has_exited_push g past e i || has_failed_push g past e i) 1 0)

-- Requests.

pub kept_by : (b : Bool) → as_number b ≡ 0 → b ≡ false
kept_by true is = absurd (omega (arith, is))
kept_by false is = refl

-- without g's request the requests of all but g are all
pub no_others : (g : ℕ) (waiting : List Waiter) → count_by (λ (w : Waiter). w.who == g) waiting ≡ 0 → others_of g waiting ≡ waiting
no_others g [] none = refl
no_others g (w ∷ waiting) none =
    let parts = count_cons (λ (w : Waiter). w.who == g) w waiting in
    let here : (w.who == g) ≡ false = kept_by (w.who == g) (omega (arith, parts, none)) in
    let rest = no_others g waiting (omega (arith, parts, none)) in
    ap (λ b. cond (not b) (w ∷ others_of g waiting) (others_of g waiting)) here ∙ ap (λ ws. w ∷ ws) rest

pub not_found : (g : ℕ) (waiting : List Waiter) → count_by (λ (w : Waiter). w.who == g) waiting ≡ 0 → find (λ (w : Waiter). w.who == g) waiting ≡ None
not_found g [] none = refl
not_found g (w ∷ waiting) none =
    let parts = count_cons (λ (w : Waiter). w.who == g) w waiting in
    let here : (w.who == g) ≡ false = kept_by (w.who == g) (omega (arith, parts, none)) in
    ap (λ b. cond b (Some w) (find (λ (w : Waiter). w.who == g) waiting)) here ∙ not_found g waiting (omega (arith, parts, none))

others_by : (g : ℕ) (w : Waiter) (ws : List Waiter) (b : Bool) → (w.who == g) ≡ b → others_of g (w ∷ ws) ≡ cond (not b) (w ∷ others_of g ws) (others_of g ws)
others_by g w ws b is = ap (λ b. cond (not b) (w ∷ others_of g ws) (others_of g ws)) is

others_len : (g : ℕ) (ws : List Waiter) → length (others_of g ws) + count_by (λ (w : Waiter). w.who == g) ws ≡ length ws
others_len g [] = refl
others_len g (w ∷ ws) = by (others_len g ws) (w.who == g) refl
  where
    by : length (others_of g ws) + count_by (λ (w : Waiter). w.who == g) ws ≡ length ws → (b : Bool) → (w.who == g) ≡ b
        → length (others_of g (w ∷ ws)) + count_by (λ (w : Waiter). w.who == g) (w ∷ ws) ≡ length (w ∷ ws)
    by rest true is =
        let sum = count_cons (λ (w : Waiter). w.who == g) w ws in
        let one = ap as_number is in
        let len = ap length (others_by g w ws true is) in
        omega (arith, sum, one, len, rest)
    by rest false is =
        let sum = count_cons (λ (w : Waiter). w.who == g) w ws in
        let one = ap as_number is in
        let len = ap length (others_by g w ws false is) in
        omega (arith, sum, one, len, rest)

others_fewer : (k g : ℕ) (ws : List Waiter)
    → (count_by (λ (w : Waiter). w.who == k) (others_of g ws) ≤ count_by (λ (w : Waiter). w.who == k) ws) × (count_by (λ (w : Waiter). w.who == g) (others_of g ws) ≡ 0)
others_fewer k g [] = (omega arith, refl)
others_fewer k g (w ∷ ws) = by (others_fewer k g ws).0 (others_fewer k g ws).1 (w.who == g) refl
  where
    by : count_by (λ (w : Waiter). w.who == k) (others_of g ws) ≤ count_by (λ (w : Waiter). w.who == k) ws
        → count_by (λ (w : Waiter). w.who == g) (others_of g ws) ≡ 0 → (b : Bool) → (w.who == g) ≡ b
        → (count_by (λ (w : Waiter). w.who == k) (others_of g (w ∷ ws)) ≤ count_by (λ (w : Waiter). w.who == k) (w ∷ ws))
        × (count_by (λ (w : Waiter). w.who == g) (others_of g (w ∷ ws)) ≡ 0)
    by rest none true is =
        let sum = count_cons (λ (w : Waiter). w.who == k) w ws in
        let same = ap (count_by (λ (w : Waiter). w.who == k)) (others_by g w ws true is) in
        let own = ap (count_by (λ (w : Waiter). w.who == g)) (others_by g w ws true is) in
        (omega (arith, sum, same, rest), omega (arith, own, none))
    by rest none false is =
        let sum = count_cons (λ (w : Waiter). w.who == k) w ws in
        let more = count_cons (λ (w : Waiter). w.who == k) w (others_of g ws) in
        let mine = count_cons (λ (w : Waiter). w.who == g) w (others_of g ws) in
        let zero = ap as_number is in
        let same = ap (count_by (λ (w : Waiter). w.who == k)) (others_by g w ws false is) in
        let own = ap (count_by (λ (w : Waiter). w.who == g)) (others_by g w ws false is) in
        (omega (arith, sum, more, same, rest), omega (arith, own, mine, zero, none))

-- where each waits once at most, and is one of so many, no more wait
few_by : (n : ℕ) (ws : List Waiter) → ((g : ℕ) → count_by (λ (w : Waiter). w.who == g) ws ≤ 1)
    → ((g : ℕ) → 0 < count_by (λ (w : Waiter). w.who == g) ws → g < n) → length ws ≤ n
few_by zero [] once below = omega arith
few_by zero (w ∷ ws) once below =
    let sum = count_cons (λ (v : Waiter). v.who == w.who) w ws in
    let one : as_number (w.who == w.who) ≡ 1 = ap as_number (eq-eqb w.who w.who refl) in
    let less = below w.who (omega (arith, sum, one)) in
    absurd (omega (arith, less))
few_by (suc n) ws once below =
    let len = others_len n ws in
    let one = once n in
    let rest = few_by n (others_of n ws) each below_n in
    omega (arith, len, one, rest)
  where
    each : (g : ℕ) → count_by (λ (w : Waiter). w.who == g) (others_of n ws) ≤ 1
    each g = let fewer = (others_fewer g n ws).0 in let one = once g in omega (arith, fewer, one)

    below_n : (g : ℕ) → 0 < count_by (λ (w : Waiter). w.who == g) (others_of n ws) → g < n
    below_n g some =
        let fewer = (others_fewer g n ws).0 in
        let less = below g (omega (arith, fewer, some)) in
        let other : g ≡ n → ⊥ = λ same.
        let none = (others_fewer n n ws).1 in
        let there = subst (λ k. 0 < count_by (λ (w : Waiter). w.who == k) (others_of n ws)) same some in
        absurd (omega (arith, none, there)) in
        omega (arith, less, other)

-- no more requests wait than there are goroutines
pub few_wait : {R : Type 0} (h : HubState R) → StandOnce h → HavePlaces h → length h.waiting ≤ length h.routines
few_wait h once places =
    few_by (length h.routines) h.waiting
    (λ g. let all = once g in let one = at_most_one (is_active g h.events) in omega (arith, all, one))
    (λ g some. places g (omega (arith, some)))

or_stays : (a b c d : Bool) → c ≡ (b || d) → (a || b) ≡ true → (a || c) ≡ true
or_stays true b c d more is = refl
or_stays false true c d more is = more
or_stays false false c d more is = absurd cc

-- what is out of turn stays so with more requests beside it
turn_stays : (past : List Event) (ws vs : List Waiter) (g : ℕ) (ask : Ask) → is_out_of_turn past ws g ask ≡ true → is_out_of_turn past (ws ++ vs) g ask ≡ true
turn_stays past ws vs g (Ask.Go h) is =
    in_or (h == 0) (λ more. or_stays _ _ _ (list_any (λ (w : Waiter). asks_to_start h w.asked.ask) vs)
    (list_any-append (λ (w : Waiter). asks_to_start h w.asked.ask) ws vs) more) is
  where
    in_or : (a : Bool) {b c : Bool} → (b ≡ true → c ≡ true) → (a || b) ≡ true → (a || c) ≡ true
    in_or true f is = refl
    in_or false f is = f is
turn_stays past ws vs g _ is = is

bad_beside : (decls : DeclsState) (past : List Event) (ws vs : List Waiter) (w : Waiter) → is_bad_among decls past ws w ≡ true
    → is_bad_among decls past (ws ++ vs) w ≡ true
bad_beside decls past ws vs w is = by (not (is_sound decls w)) is
  where
    by : (a : Bool) → (a || is_out_of_turn past ws w.who w.asked.ask) ≡ true → (a || is_out_of_turn past (ws ++ vs) w.who w.asked.ask) ≡ true
    by true is = refl
    by false is = turn_stays past ws vs w.who w.asked.ask is

-- a bad request stays so, whoever waits behind it
pub bad_stays : (decls : DeclsState) (past : List Event) (ws vs : List Waiter) (g : ℕ) → HasBadRequest decls past ws g → HasBadRequest decls past (ws ++ vs) g
bad_stays decls past ws vs g bad = (
  bad.0,
  find-append (λ (w : Waiter). w.who == g) ws vs ∙ ap (λ o. option_or o (find (λ (w : Waiter). w.who == g) vs)) bad.1,
  ap (λ others. is_bad_among decls past others bad.0) (filter-append (λ (w : Waiter). not (w.who == g)) ws vs)
      ∙ bad_beside decls past (others_of g ws) (others_of g vs) bad.0 bad.2,
)

-- one that is bad as it joins the others is bad beside them
pub bad_joins : (decls : DeclsState) (past : List Event) (ws : List Waiter) (w : Waiter) → count_by (λ (v : Waiter). v.who == w.who) ws ≡ 0
    → is_bad_among decls past ws w ≡ true → HasBadRequest decls past (ws ++ w ∷ []) w.who
bad_joins decls past ws w none bad =
    let own : (w.who == w.who) ≡ true = eq-eqb w.who w.who refl in
    let alone : others_of w.who (w ∷ []) ≡ [] = ap (λ b. cond (not b) (w ∷ []) []) own in
    let found : find (λ (v : Waiter). v.who == w.who) (w ∷ []) ≡ Some w = ap (λ b. cond b (Some w) None) own in (
      w,
      find-append (λ (v : Waiter). v.who == w.who) ws (w ∷ []) ∙ (λ i. option_or (not_found w.who ws none i) (found i)),
      ap (λ others. is_bad_among decls past others w) (filter-append (λ (v : Waiter). not (v.who == w.who)) ws (w ∷ [])
          ∙ (λ i. no_others w.who ws none i ++ alone i))
          ∙ bad_beside decls past ws [] w bad,
    )

-- whose job is out waits for nothing
pub out_waits_not : {R : Type 0} (h : HubState R) (g more : ℕ) → StandOnce h → count_by (λ o. o == g) h.out ≡ more + 1
    → count_by (λ (w : Waiter). w.who == g) h.waiting ≡ 0
out_waits_not h g more once out =
    let sum = once g in
    let one = at_most_one (is_active g h.events) in
    omega (arith, sum, out, one)
