-- What a goroutine waits for, in a list of requests in which each goroutine has one at most.
use Rattle.std.proofs.Common.{ℕ, zero, suc, ◌≡◌, ◌==◌, ◌<◌, ◌≤◌, ◌+◌, ◌++◌, ◌||◌, Bool, true, false, cond, List, [], ◌∷◌}
use Rattle.std.proofs.Common.{Option, Some, None, refl, sym, ap, ◌∙◌, arith, eq-eqb, eqb-true, true≢false, slice_get}
use Rattle.std.proofs.lemmas.{Option.{none-some, same_Some}, List.{Sums.sum_by-cons, Folds.find-append}}
use Rattle.std.specs.{List.{remove, count_by, find, list_any}, Option.option_or}
use Rattle.race_requests.specs.declared.request.Waiter.{Waiter}

-- what g waits for
abbrev pub waits_of : ℕ → List Waiter → Option Waiter
waits_of g ws = find (λ w. w.who == g) ws

-- nobody waits twice
abbrev pub WaitOnce : List Waiter → Type 0
WaitOnce ws = (g : ℕ) → count_by (λ w. w.who == g) ws ≤ 1

-- it stands somewhere in the list
abbrev pub IsIn : {X : Type 0} → X → List X → Type 0
IsIn x xs = (i : ℕ) × (slice_get xs i ≡ Some x)

abbrev pub as_number : Bool → ℕ
as_number b = cond b 1 0

pub in_more : {X : Type 0} (x y : X) (xs : List X) → IsIn x xs → IsIn x (y ∷ xs)
in_more x y xs (i, at) = (suc i, at)

pub first_in : {X : Type 0} (x : X) (xs : List X) → IsIn x (x ∷ xs)
first_in x xs = (0, refl)

find_by : (g : ℕ) (v : Waiter) (ws : List Waiter) (b : Bool) → (v.who == g) ≡ b → waits_of g (v ∷ ws) ≡ cond b (Some v) (waits_of g ws)
find_by g v ws b is = ap (λ b. cond b (Some v) (waits_of g ws)) is

pub count_cons : (g : ℕ) (v : Waiter) (ws : List Waiter) → count_by (λ (w : Waiter). w.who == g) (v ∷ ws) ≡ as_number (v.who == g) + count_by (λ (w : Waiter). w.who == g) ws
count_cons g v ws = sum_by-cons (λ (w : Waiter). cond (w.who == g) 1 0) v ws

-- what is found waits, and is of that goroutine
pub found_in : (g : ℕ) (ws : List Waiter) (w : Waiter) → waits_of g ws ≡ Some w → IsIn w ws × (w.who ≡ g)
found_in g [] w is = absurd (none-some w is)
found_in g (v ∷ ws) w is = by (v.who == g) refl (found_in g ws w)
  where
    by : (b : Bool) → (v.who == g) ≡ b → (waits_of g ws ≡ Some w → IsIn w ws × (w.who ≡ g)) → IsIn w (v ∷ ws) × (w.who ≡ g)
    by true test rest =
        let same : v ≡ w = same_Some v w (sym (find_by g v ws true test) ∙ is) in
        ((0, ap Some same), ap (λ (x : Waiter). x.who) (sym same) ∙ eqb-true v.who g test)
    by false test rest = let (there, who) = rest (sym (find_by g v ws false test) ∙ is) in (in_more w v ws there, who)

-- who waits is counted
pub counted : (ws : List Waiter) (w : Waiter) → IsIn w ws → 0 < count_by (λ v. v.who == w.who) ws
counted [] w (i, at) = absurd (none-some w at)
counted (v ∷ ws) w (zero, at) =
    let sum = count_cons w.who v ws in
    let one : as_number (v.who == w.who) ≡ 1 = ap as_number (eq-eqb v.who w.who (ap (λ (x : Waiter). x.who) (same_Some v w at))) in
    omega (arith, sum, one)
counted (v ∷ ws) w (suc i, at) = let sum = count_cons w.who v ws in let rest = counted ws w (i, at) in omega (arith, sum, rest)

pub once_rest : (v : Waiter) (ws : List Waiter) → WaitOnce (v ∷ ws) → WaitOnce ws
once_rest v ws once g = let sum = count_cons g v ws in let all = once g in omega (arith, sum, all)

-- where nobody waits twice, what waits is found
pub in_found : (ws : List Waiter) → WaitOnce ws → (w : Waiter) → IsIn w ws → waits_of w.who ws ≡ Some w
in_found [] once w (i, at) = absurd (none-some w at)
in_found (v ∷ ws) once w (zero, at) =
    let same = same_Some v w at in
    find_by w.who v ws true (eq-eqb v.who w.who (ap (λ (x : Waiter). x.who) same)) ∙ ap Some same
in_found (v ∷ ws) once w (suc i, at) = by (v.who == w.who) refl (in_found ws (once_rest v ws once) w (i, at))
  where
    by : (b : Bool) → (v.who == w.who) ≡ b → waits_of w.who ws ≡ Some w → waits_of w.who (v ∷ ws) ≡ Some w
    by true test rest =
        let sum = count_cons w.who v ws in
        let one = ap as_number test in
        let all = once w.who in
        let some = counted ws w (i, at) in
        absurd (omega (arith, sum, one, all, some))
    by false test rest = find_by w.who v ws false test ∙ rest

-- it is the one at that goroutine
pub one_waits : (ws : List Waiter) → WaitOnce ws → (v w : Waiter) → IsIn v ws → IsIn w ws → v.who ≡ w.who → v ≡ w
one_waits ws once v w v_in w_in same =
    same_Some v w (sym (in_found ws once v v_in) ∙ ap (λ g. waits_of g ws) same ∙ in_found ws once w w_in)

-- with more behind
pub waits_append : (g : ℕ) (ws vs : List Waiter) → waits_of g (ws ++ vs) ≡ option_or (waits_of g ws) (waits_of g vs)
waits_append g ws vs = find-append (λ w. w.who == g) ws vs

-- without the request of another
pub waits_remove : (g : ℕ) (ws : List Waiter) (i : ℕ) (w : Waiter) → slice_get ws i ≡ Some w → (w.who == g) ≡ false
    → waits_of g (remove ws i) ≡ waits_of g ws
waits_remove g [] i w at other = absurd (none-some w at)
waits_remove g (v ∷ ws) zero w at other =
    let test : (v.who == g) ≡ false = ap (λ (x : Waiter). x.who == g) (same_Some v w at) ∙ other in
    sym (find_by g v ws false test)
waits_remove g (v ∷ ws) (suc i) w at other = ap (λ o. cond (v.who == g) (Some v) o) (waits_remove g ws i w at other)

-- nobody of that number is counted, so none is found
pub none_found : (g : ℕ) (ws : List Waiter) → count_by (λ (w : Waiter). w.who == g) ws ≡ 0 → waits_of g ws ≡ None
none_found g [] none = refl
none_found g (v ∷ ws) none = by (v.who == g) refl (none_found g ws)
  where
    by : (b : Bool) → (v.who == g) ≡ b → (count_by (λ (w : Waiter). w.who == g) ws ≡ 0 → waits_of g ws ≡ None) → waits_of g (v ∷ ws) ≡ None
    by true test rest = let sum = count_cons g v ws in let one = ap as_number test in absurd (omega (arith, sum, one, none))
    by false test rest = let sum = count_cons g v ws in let zero_here = ap as_number test in find_by g v ws false test ∙ rest (omega (arith, sum, zero_here, none))

-- where one passes, it stands somewhere
pub any_in : {X : Type 0} (p : X → Bool) (xs : List X) → list_any p xs ≡ true → (x : X) × IsIn x xs × (p x ≡ true)
any_in p [] is = absurd (true≢false (sym is))
any_in {X} p (y ∷ xs) is = by (p y) refl (any_in p xs)
  where
    by : (b : Bool) → p y ≡ b → (list_any p xs ≡ true → (x : X) × IsIn x xs × (p x ≡ true)) → (x : X) × IsIn x (y ∷ xs) × (p x ≡ true)
    by true test rest = (y, first_in y xs, test)
    by false test rest =
        let (x, there, passes) = rest (sym (ap (λ b. b || list_any p xs) test) ∙ is) in (x, in_more x y xs there, passes)

pub any_from : {X : Type 0} (p : X → Bool) (xs : List X) (x : X) → IsIn x xs → p x ≡ true → list_any p xs ≡ true
any_from p [] x (i, at) passes = absurd (none-some x at)
any_from p (y ∷ xs) x (zero, at) passes = ap (λ b. b || list_any p xs) (ap p (same_Some y x at) ∙ passes)
any_from p (y ∷ xs) x (suc i, at) passes = by (p y) (any_from p xs x (i, at) passes)
  where
    by : (b : Bool) → list_any p xs ≡ true → (b || list_any p xs) ≡ true
    by true rest = refl
    by false rest = rest
