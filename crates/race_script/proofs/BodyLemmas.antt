-- Where a body ends, and where the functions of its onces do.
use Rattle.std.proofs.Common.{◌≡◌, ℕ, zero, suc, ◌+◌, ◌-◌, ◌<◌, ◌≤◌, ◌==◌, ◌&&◌, Bool, true, false, true≢false, nat_lt}
use Rattle.std.proofs.Common.{nat_le, if◌then◌else◌, List, [], ◌∷◌, length, drop, get_or, slice_get, Option, Some, None}
use Rattle.std.proofs.{Common.{refl, sym, ap, ◌∙◌, arith}, lemmas.{Bool.Decides.nat_tests, Option.none-some}}
use Rattle.std.proofs.lemmas.Option.{same_Some, slice_get_within, get_or_from_slice_get}
use Rattle.std.{proofs.lemmas.List.{length-map, get_or-map, drop_all, Sums.AllPass-from_list_all}, specs.List.list_all}
use Rattle.std.specs.Option.{option_map_or}
use Rattle.race_requests.specs.declared.request.{Ask.Ask, Request.Request}
use Rattle.race_text.proofs.WordLemmas.{both}
use Rattle.race_script.specs.{declared.program.TheConstants.MAX_STEPS, Bodies.{is_exit, is_do, after_ask, ends}}
use Rattle.race_script.specs.{Bodies.{is_body, is_end, is_behind_do, steps_to_end}, Program.{ProgramState, IsProgram}}
use Rattle.race_script.specs.Program.{asks_of, request_fits, is_body_of}

-- the asks from an index on
asks_from : (body : List Request) (i : ℕ) (d : Request) → i < length body → drop i (asks_of body) ≡ (get_or body i d).ask ∷ drop (i + 1) (asks_of body)
asks_from (r ∷ rs) zero d less = refl
asks_from (r ∷ rs) (suc i) d less =
    let e : suc (i + 1) ≡ suc i + 1 = omega arith in
    asks_from rs i d (omega (arith, less)) ∙ ap (λ n. (get_or rs i d).ask ∷ drop n (asks_of (r ∷ rs))) e
asks_from [] i d less = absurd (omega (arith, less))

-- the ask at an index, and those behind it
pub asks_at : (body : List Request) (i : ℕ) (r : Request) → slice_get body i ≡ Some r → drop i (asks_of body) ≡ r.ask ∷ drop (i + 1) (asks_of body)
asks_at body i r is =
    asks_from body i r (slice_get_within body i r is)
    ∙ ap (λ (s : Request). s.ask ∷ drop (i + 1) (asks_of body)) (get_or_from_slice_get body i r r is)

-- behind the last step there is no end
pub none_behind : (body : List Request) (i depth : ℕ) → length body ≤ i → steps_to_end depth (drop i (asks_of body)) ≡ 0
none_behind body i depth past =
    let len = length-map body (λ (r : Request). r.ask) in
    ap (steps_to_end depth) (drop_all i (asks_of body) (omega (arith, past, len)))

-- an ask may go on, with these functions open
goes_on : (o : Option (List ℕ)) (asks : List Ask) → option_map_or (λ inside. ends inside asks) o false ≡ true
    → (inside : List ℕ) × (o ≡ Some inside) × (ends inside asks ≡ true)
goes_on None asks h = absurd (true≢false (sym h))
goes_on (Some inside) asks h = (inside, refl, h)

no_asks : (asks : List Ask) → (length asks == 0) ≡ true → asks ≡ []
no_asks [] h = refl
no_asks (a ∷ more) h = absurd (let z : length (a ∷ more) ≡ 0 = grind (arith, nat_tests) in omega (arith, z))

-- behind an ask that is no exit there is another
pub exit_is_last : (onces : List ℕ) (ask : Ask) (asks : List Ask) → ends onces (ask ∷ asks) ≡ true → is_exit ask ≡ false
    → (inside : List ℕ) × (after_ask onces ask ≡ Some inside) × (ends inside asks ≡ true)
exit_is_last onces ask asks h other =
    goes_on (after_ask onces ask) asks
    (sym (ap (λ b. if b then (length onces == 0) && (length asks == 0) else option_map_or (λ inside. ends inside asks) (after_ask onces ask) false) other) ∙ h)

pub ends_some : (onces : List ℕ) (asks : List Ask) → ends onces asks ≡ true → 0 < length asks
ends_some onces [] h = absurd (true≢false (sym h))
ends_some onces (ask ∷ asks) h = omega arith

-- where the ask at an index is no exit, the body goes on behind it
pub goes_on_at : (onces : List ℕ) (asks : List Ask) (i : ℕ) (d : Ask) → ends onces asks ≡ true
    → i < length asks → is_exit (get_or asks i d) ≡ false → i + 1 < length asks
goes_on_at onces [] i d h less other = absurd (omega (arith, less))
goes_on_at onces (ask ∷ asks) zero d h less other =
    let on = exit_is_last onces ask asks h other in
    let some = ends_some on.0 asks on.2 in
    omega (arith, some)
goes_on_at onces (ask ∷ asks) (suc i) d h less other = by (is_exit ask) refl (λ inside more. goes_on_at inside asks i d more (omega (arith, less)) other)
  where
    by : (b : Bool) → is_exit ask ≡ b → ((inside : List ℕ) → ends inside asks ≡ true → i + 1 < length asks) → suc i + 1 < length (ask ∷ asks)
    by true exit rest =
        let last = both (length onces == 0) (length asks == 0)
        (sym (ap (λ b. if b then (length onces == 0) && (length asks == 0) else option_map_or (λ inside. ends inside asks) (after_ask onces ask) false) exit)
        ∙ h) in
        let none = ap length (no_asks asks last.1) in
        absurd (omega (arith, less, none))
    by false more rest =
        let on = exit_is_last onces ask asks h more in
        omega (arith, rest on.0 on.2)

same_test : (p o : ℕ) (onces inside : List ℕ) → (if p == o then Some onces else None) ≡ Some inside → inside ≡ onces
same_test p o onces inside h = by (p == o) h
  where
    by : (b : Bool) → (if b then Some onces else None) ≡ Some inside → inside ≡ onces
    by true h = sym (same_Some onces inside h)
    by false h = absurd (none-some inside h)

-- a function that is open ends before the body does
pub ends_within : (depth : ℕ) (onces : List ℕ) (asks : List Ask) → depth < length onces → ends onces asks ≡ true → steps_to_end depth asks < length asks
ends_within depth onces [] deep h = absurd (true≢false (sym h))
ends_within depth onces (Ask.Exit ∷ asks) deep h =
    let empty = (both (length onces == 0) (length asks == 0) h).0 in
    let none : length onces ≡ 0 = grind (arith, nat_tests, empty) in
    absurd (omega (arith, deep, none))
ends_within depth onces (Ask.Do o ∷ asks) deep h =
    let rest = ends_within (depth + 1) (o ∷ onces) asks (omega (arith, deep)) h in
    omega (arith, rest)
ends_within depth [] (Ask.EndDo o ∷ asks) deep h = absurd (omega (arith, deep))
ends_within depth (p ∷ onces) (Ask.EndDo o ∷ asks) deep h = by (depth == 0) refl (λ inside less more. ends_within (depth - 1) inside asks less more)
  where
    on : (inside : List ℕ) × ((if p == o then Some onces else None) ≡ Some inside) × (ends inside asks ≡ true)
    on = goes_on (if p == o then Some onces else None) asks h

    by : (b : Bool) → (depth == 0) ≡ b
        → ((inside : List ℕ) → depth - 1 < length inside → ends inside asks ≡ true → steps_to_end (depth - 1) asks < length asks)
        → (if b then 1 else 1 + steps_to_end (depth - 1) asks) < length (Ask.EndDo o ∷ asks)
    by true none rest = let some = ends_some on.0 asks on.2 in omega (arith, some)
    by false other rest =
        let is = same_test p o onces on.0 on.1 in
        let more : 0 < depth = grind (arith, nat_tests) in
        let len = ap length is in
        let before = rest on.0 (omega (arith, deep, more, len)) on.2 in
        omega (arith, before)
ends_within depth onces (_ ∷ asks) deep h = let rest = ends_within depth onces asks deep h in omega (arith, rest)

abbrev begins : Option Ask → Bool
begins o = option_map_or is_do o false

-- so it is with the requests of a body
pub script_goes_on : (body : List Request) (i : ℕ) (r : Request) → is_body (asks_of body) ≡ true → r ≡ get_or body i r → i < length body
    → is_exit r.ask ≡ false → i + 1 < length body
script_goes_on body i r h is less other =
    let len = length-map body (λ (r : Request). r.ask) in
    let at : get_or (asks_of body) i r.ask ≡ r.ask = get_or-map (λ (r : Request). r.ask) body i r r.ask less ∙ ap (λ (x : Request). x.ask) (sym is) in
    let more = goes_on_at [] (asks_of body) i r.ask h (omega (arith, less, len)) (ap is_exit at ∙ other) in
    omega (arith, more, len)

pub script_begins : (body : List Request) → is_body (asks_of body) ≡ true → 0 < length body
script_begins body h = let some = ends_some [] (asks_of body) h in let len = length-map body (λ (r : Request). r.ask) in omega (arith, some, len)

-- behind a Do the end of its function stands before the end of the body
pub done_within : (onces : List ℕ) (asks : List Ask) (k : ℕ) → ends onces asks ≡ true → begins (slice_get asks k) ≡ true
    → suc k + steps_to_end 0 (drop (suc k) asks) < length asks
done_within onces [] k h does = absurd (true≢false (sym does))
done_within onces (ask ∷ asks) zero h does = by ask h does
  where
    by : (a : Ask) → ends onces (a ∷ asks) ≡ true → is_do a ≡ true → suc zero + steps_to_end 0 asks < length (ask ∷ asks)
    by (Ask.Do o) h does = let rest = ends_within 0 (o ∷ onces) asks (omega arith) h in omega (arith, rest)
    by _ h does = absurd (true≢false (sym does))
done_within onces (ask ∷ asks) (suc k) h does = by (is_exit ask) refl (λ inside more. done_within inside asks k more does)
  where
    by : (b : Bool) → is_exit ask ≡ b → ((inside : List ℕ) → ends inside asks ≡ true → suc k + steps_to_end 0 (drop (suc k) asks) < length asks)
        → suc (suc k) + steps_to_end 0 (drop (suc k) asks) < length (ask ∷ asks)
    by true exit rest =
        let last = both (length onces == 0) (length asks == 0)
        (sym (ap (λ b. if b then (length onces == 0) && (length asks == 0) else option_map_or (λ inside. ends inside asks) (after_ask onces ask) false) exit)
        ∙ h) in
        absurd (true≢false (sym does ∙ ap (λ l. begins (slice_get l k)) (no_asks asks last.1)))
    by false more rest =
        let on = exit_is_last onces ask asks h more in
        let before = rest on.0 on.2 in
        omega (arith, before)

-- where the answer is that it was done
pub behind_do_within : (asks : List Ask) (n : ℕ) → is_body asks ≡ true → is_behind_do asks n ≡ true → n + steps_to_end 0 (drop n asks) < length asks
behind_do_within asks n h behind = by n (both (nat_lt 0 n) (begins (slice_get asks (n - 1))) behind)
  where
    by : (n : ℕ) → (nat_lt 0 n ≡ true) × (begins (slice_get asks (n - 1)) ≡ true) → n + steps_to_end 0 (drop n asks) < length asks
    by zero two = let some : 0 < 0 = grind (arith, nat_tests, two.0) in absurd (omega (arith, some))
    by (suc k) two = done_within [] asks k h (let e : k ≡ suc k - 1 = omega arith in ap (λ i. begins (slice_get asks i)) e ∙ two.1)

-- one more step, by its kind
pub steps_do : (depth : ℕ) (ask : Ask) (asks : List Ask) → is_do ask ≡ true → steps_to_end depth (ask ∷ asks) ≡ 1 + steps_to_end (depth + 1) asks
steps_do depth (Ask.Do o) asks h = refl
steps_do depth _ asks h = absurd (true≢false (sym h))

pub steps_end : (depth : ℕ) (ask : Ask) (asks : List Ask) → is_end ask ≡ true
    → steps_to_end depth (ask ∷ asks) ≡ (if depth == 0 then 1 else 1 + steps_to_end (depth - 1) asks)
steps_end depth (Ask.EndDo o) asks h = refl
steps_end depth _ asks h = absurd (true≢false (sym h))

pub steps_other : (depth : ℕ) (ask : Ask) (asks : List Ask) → is_do ask ≡ false
    → is_end ask ≡ false → steps_to_end depth (ask ∷ asks) ≡ 1 + steps_to_end depth asks
steps_other depth (Ask.Do o) asks h k = absurd (true≢false h)
steps_other depth (Ask.EndDo o) asks h k = absurd (true≢false k)
steps_other depth Ask.Exit asks h k = refl
steps_other depth (Ask.Go g) asks h k = refl
steps_other depth _ asks h k = refl

-- a body of a program nests and ends
module _ (p : ProgramState) (is : IsProgram p) (g : ℕ) (body : List Request) (at : slice_get p.bodies g ≡ Some body) where
  body_fits : is_body_of p.decls body ≡ true
  body_fits =
      let less = slice_get_within p.bodies g body at in
      ap (is_body_of p.decls) (sym (get_or_from_slice_get p.bodies g body body at)) ∙ AllPass-from_list_all (is_body_of p.decls) p.bodies is.bodies g body less

  pub body_is : is_body (asks_of body) ≡ true
  body_is =
      let all = list_all (request_fits p.decls) body in
      let most = nat_le (length body) MAX_STEPS in
      (both all (is_body (asks_of body)) (both (all && is_body (asks_of body)) most body_fits).0).1
