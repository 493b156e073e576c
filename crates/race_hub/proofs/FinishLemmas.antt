-- How a hub has ended.
use Rattle.std.proofs.Common.{◌≡◌, ◌==◌, ◌&&◌, ℕ, ◌<◌, Bool, true, false, cond, if◌then◌else◌, List, [], ◌∷◌, length}
use Rattle.std.proofs.Common.{Option, Some, None, refl, sym, ap, arith}
use Rattle.std.proofs.lemmas.{Bool.Decides.nat_tests, Option.none-some}
use Rattle.std.specs.{List.{find, count_by}, Prelude.IsSome}
use Rattle.race_model.proofs.CountSteps.{as_number}
use Rattle.race_requests.specs.declared.request.{Answer.Answer, Waiter.Waiter}
use Rattle.race_requests.proofs.ChoiceLemmas.{some_is}
use Rattle.race_hub.specs.{declared.ending.End.End, Hub.{HubState, stop_by, stop_of, end_of, is_deadlock, choices_of}}
use Rattle.race_hub.specs.{Kept.{is_active, StandOnce}, Recording.{AllWait, IsEnd}}
use Rattle.race_hub.proofs.{TableLemmas.both_true, OnceLemmas.count_cons}

is_zero : (n : ℕ) → (n == 0) ≡ true → n ≡ 0
is_zero n is = grind (arith, nat_tests)

no_length : {X : Type 0} (xs : List X) → length xs ≡ 0 → xs ≡ []
no_length [] is = refl
no_length (x ∷ xs) is = absurd (omega (arith, is))

first_found : (g : ℕ) (w : Waiter) (ws : List Waiter) → 0 < count_by (λ (w : Waiter). w.who == g) (w ∷ ws)
    → (0 < count_by (λ (w : Waiter). w.who == g) ws → IsSome (find (λ (w : Waiter). w.who == g) ws)) → (b : Bool) → (w.who == g) ≡ b
    → IsSome (cond b (Some w) (find (λ (w : Waiter). w.who == g) ws))
first_found g w ws some rest true is = refl
first_found g w ws some rest false is =
    let sum = count_cons (λ (w : Waiter). w.who == g) w ws in
    let none : as_number (w.who == g) ≡ 0 = ap as_number is in
    rest (omega (arith, some, sum, none))

found_by : (g : ℕ) (ws : List Waiter) → 0 < count_by (λ (w : Waiter). w.who == g) ws → IsSome (find (λ (w : Waiter). w.who == g) ws)
found_by g [] some = absurd (omega (arith, some))
found_by g (w ∷ ws) some = first_found g w ws some (found_by g ws) (w.who == g) refl

all_wait : {R : Type 0} (h : HubState R) → StandOnce h → length h.ready ≡ 0 → length h.out ≡ 0 → AllWait h.events h.waiting
all_wait h once ready out g active =
    let sum = once g in
    let one : as_number (is_active g h.events) ≡ 1 = ap as_number active in
    let jobs = ap (count_by (λ (r : ℕ × Answer). r.0 == g)) (no_length h.ready ready) in
    let outs = ap (count_by (λ o. o == g)) (no_length h.out out) in
    found_by g h.waiting (omega (arith, sum, one, jobs, outs))

pub end_is : {R : Type 0} (h : HubState R) (end : End) → StandOnce h → end_of h ≡ Some end
    → IsEnd h.decls h.events h.waiting (stop_by h.events h.limit h.bad) end
end_is h end once is = by (stop_of h) (is_deadlock h) refl is
  where
    by : (stop : Option End) (dead : Bool) → is_deadlock h ≡ dead
        → ◌≡◌ {A = Option End} (elim stop [ Some e ↦ Some e | None ↦ if dead then Some End.Deadlock else None ]) (Some end)
        → IsEnd h.decls h.events h.waiting stop end
    by (Some stop) dead test is = sym (some_is is)
    by None false test is = absurd (none-some end is)
    by None true test is =
        let first = both_true (length h.ready == 0) ((length h.out == 0) && (length (choices_of h) == 0)) test in
        let rest = both_true (length h.out == 0) (length (choices_of h) == 0) first.1 in
        (sym (some_is is), all_wait h once (is_zero _ first.0) (is_zero _ rest.0), is_zero _ rest.1)
