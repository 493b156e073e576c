-- Two states of a hub in which each goroutine stands the same, and whose events say the same: they go on alike.
use Rattle.std.proofs.Common.{ℕ, zero, suc, ◌≡◌, ◌≢◌, ◌==◌, ◌<◌, ◌≤◌, ◌+◌, ◌-◌, ◌++◌, ◌&&◌, ◌||◌, Bool, true, false, if◌then◌else◌}
use Rattle.std.proofs.Common.{List, [], ◌∷◌, length, Option, Some, None, refl, sym, ap, ◌∙◌, subst, arith, slice_get, true≢false}
use Rattle.std.proofs.Common.{nat_lt}
use Rattle.std.proofs.lemmas.{Bool.Decides.nat_tests, Option.{none-some}}
use Rattle.std.specs.List.{remove}
use Rattle.race_model.{specs.{Events.is_fault, State.{started, innermost}, Legal.broken}, proofs.Indexes.at_below}
use Rattle.race_records.specs.{declared.event.Event.Event, Declarations.{DeclsState, capacity_of}}
use Rattle.race_requests.specs.declared.{choice.Choice.Choice, request.{Ask.Ask, Waiter.Waiter}}
use Rattle.race_requests.specs.{Choices.{op_of, choices}}
use Rattle.race_hub.specs.{declared.ending.End.End, Hub.{HubState, choices_of, stop_by, stop_of, is_last, is_main_exit, end_of}}
use Rattle.race_hub.specs.Fires.{without, partner_of, is_asker}
use Rattle.race_hub.specs.Kept.{IsKept, is_active}
use Rattle.race_hub.proofs.OnceLemmas.{at_most_one, count_without, passes, is_waiter}
use Rattle.race_explore.proofs.WaiterLemmas.{waits_of, WaitOnce, IsIn, as_number, waits_remove, none_found}
use Rattle.race_explore.proofs.MatchLemmas.{AskTheSame, ask_other_way, like_choice}

-- where the events come to the same place: what is asked there, what breaks a rule, and what ends the run
pub record SayTheSame (past later : List Event) : Type 0 where
  pub broken : (caps : ℕ → ℕ) (e : Event) → broken caps past e ≡ broken caps later e
  pub does : (ask : Ask) (k : ℕ) → op_of past ask k ≡ op_of later ask k
  pub started : (g : ℕ) → started g past ≡ started g later
  pub innermost : (g : ℕ) → innermost g past ≡ innermost g later
  pub length : length past ≡ length later
  pub main_exit : is_last is_main_exit past ≡ is_last is_main_exit later
  pub fault : is_last (λ e. is_fault e.op) past ≡ is_last (λ e. is_fault e.op) later

-- so it is whatever comes behind them
abbrev pub GoOnTheSame : List Event → List Event → Type 0
GoOnTheSame past later = (rest : List Event) → SayTheSame (past ++ rest) (later ++ rest)

-- each goroutine stands the same in both
pub record Alike {R : Type 0} (h k : HubState R) : Type 0 where
  pub decls : k.decls ≡ h.decls
  pub limit : k.limit ≡ h.limit
  pub events : GoOnTheSame h.events k.events
  pub routines : k.routines ≡ h.routines
  pub ready : k.ready ≡ h.ready
  pub waits : (g : ℕ) → waits_of g h.waiting ≡ waits_of g k.waiting
  pub out : k.out ≡ h.out
  pub bad : k.bad ≡ h.bad
  pub kept : IsKept h
  pub kept_too : IsKept k

-- Who waits, without who takes part in a choice.

remove_before : {X : Type 0} (xs : List X) (j i : ℕ) → i < j → slice_get (remove xs j) i ≡ slice_get xs i
remove_before xs zero i less = absurd (omega (arith, less))
remove_before [] (suc j) i less = refl
remove_before (x ∷ xs) (suc j) zero less = refl
remove_before (x ∷ xs) (suc j) (suc i) less = remove_before xs j i (omega (arith, less))

-- g waited and takes part
abbrev pub takes : ℕ → Waiter → Option Waiter → Bool
takes g w o = (w.who == g) || is_asker g o

neither : (a b : Bool) → (a || b) ≡ false → (a ≡ false) × (b ≡ false)
neither true b is = absurd (true≢false is)
neither false b is = (refl, is)

counts_one : (g : ℕ) (w : Waiter) (o : Option Waiter) → takes g w o ≡ true → 0 < as_number (w.who == g) + passes (is_waiter g) o
counts_one g w None is = let one = ap as_number (some (w.who == g) is) in omega (arith, one)
  where
    some : (b : Bool) → (b || false) ≡ true → b ≡ true
    some true is = refl
    some false is = is
counts_one g w (Some v) is = by (w.who == g) (v.who == g) is
  where
    by : (a b : Bool) → (a || b) ≡ true → 0 < as_number a + as_number b
    by true b is = omega arith
    by false true is = omega arith
    by false false is = absurd (true≢false (sym is))

module _ (t : Choice) (ws : List Waiter) (w : Waiter) (asks : slice_get ws t.place ≡ Some w) (partner : t.partner ≤ length ws)
    (apart : t.partner ≢ t.place + 1)
  where
    -- who takes part waits no more
    pub taken_out : WaitOnce ws → (g : ℕ) → takes g w (partner_of t ws) ≡ true → waits_of g (without t ws) ≡ None
    taken_out once g is =
        let sum = count_without (is_waiter g) t ws w asks partner apart in
        let one = counts_one g w (partner_of t ws) is in
        let most = once g in
        none_found g (without t ws) (omega (arith, sum, one, most))

    -- who doesn't waits for the same
    pub left_in : (g : ℕ) → takes g w (partner_of t ws) ≡ false → waits_of g (without t ws) ≡ waits_of g ws
    left_in g is = by (t.partner == 0) (nat_lt t.place (t.partner - 1)) refl refl (neither (w.who == g) (is_asker g (partner_of t ws)) is).1
      where
        mine : (w.who == g) ≡ false
        mine = (neither (w.who == g) (is_asker g (partner_of t ws)) is).0

        other : (alone : Bool) → (t.partner == 0) ≡ alone → alone ≡ false → (v : Waiter) × (slice_get ws (t.partner - 1) ≡ Some v)
        other alone test not_alone =
            let some : 0 < t.partner = (let off = test ∙ not_alone in grind (arith, nat_tests)) in
            at_below ws (t.partner - 1) (omega (arith, some, partner))

        not_its : (v : Waiter) → slice_get ws (t.partner - 1) ≡ Some v → is_asker g (slice_get ws (t.partner - 1)) ≡ false → (v.who == g) ≡ false
        not_its v at off = ap (λ o. is_asker g o) (sym at) ∙ off

        by : (alone before : Bool) → (t.partner == 0) ≡ alone → nat_lt t.place (t.partner - 1) ≡ before
            → is_asker g (if alone then None else slice_get ws (t.partner - 1)) ≡ false
            → waits_of g (if alone then remove ws t.place else (if before then remove (remove ws (t.partner - 1)) t.place
            else remove (remove ws t.place) (t.partner - 1))) ≡ waits_of g ws
        by true before none test off = waits_remove g ws t.place w asks mine
        by false true none test off =
            let less : t.place < t.partner - 1 = grind (arith, nat_tests) in
            let (v, at) = other false none refl in
            waits_remove g (remove ws (t.partner - 1)) t.place w (remove_before ws (t.partner - 1) t.place less ∙ asks) mine
            ∙ waits_remove g ws (t.partner - 1) v at (not_its v at off)
        by false false none test off =
            let least : t.partner - 1 ≤ t.place = grind (arith, nat_tests) in
            let some : 0 < t.partner = grind (arith, nat_tests) in
            let (v, at) = other false none refl in
            waits_remove g (remove ws t.place) (t.partner - 1) v (remove_before ws t.place (t.partner - 1) (omega (arith, least, some, apart)) ∙ at) (not_its v at off)
            ∙ waits_remove g ws t.place w asks mine

-- How the state ends.

no_more : (past : List Event) → past ++ [] ≡ past
no_more [] = refl
no_more (e ∷ past) = ap (λ es. e ∷ es) (no_more past)

pub say_now : (past later : List Event) → GoOnTheSame past later → SayTheSame past later
say_now past later same = subst (λ es. SayTheSame es later) (no_more past) (subst (λ es. SayTheSame (past ++ []) es) (no_more later) (same []))

empty_by : {X : Type 0} (xs ys : List X) → ((x : X) → IsIn x xs → (y : X) × IsIn y ys) → ((x : X) → IsIn x ys → (y : X) × IsIn y xs)
    → (length xs == 0) ≡ (length ys == 0)
empty_by [] [] there back = refl
empty_by [] (y ∷ ys) there back = let (x, (i, at)) = back y (0, refl) in absurd (none-some x at)
empty_by (x ∷ xs) [] there back = let (y, (i, at)) = there x (0, refl) in absurd (none-some y at)
empty_by (x ∷ xs) (y ∷ ys) there back = let one : (length (x ∷ xs) == 0) ≡ false = grind (arith, nat_tests) in
    let two : (length (y ∷ ys) == 0) ≡ false = grind (arith, nat_tests) in one ∙ sym two

module _ {R : Type 0} where
  pub wait_once : (h : HubState R) → IsKept h → WaitOnce h.waiting
  wait_once h kept g = let all = kept.once g in let most = at_most_one (is_active g h.events) in omega (arith, all, most)

  pub ask_same : (h k : HubState R) → Alike h k → AskTheSame h.events k.events h.waiting k.waiting
  ask_same h k alike =
      let now = say_now h.events k.events alike.events in record {
        broken = now.broken;
        does = now.does;
        waits = alike.waits;
        once = wait_once h alike.kept;
        once_too = wait_once k alike.kept_too;
      }

  pub stop_same : (h k : HubState R) → Alike h k → stop_of h ≡ stop_of k
  unfolding stop_by
  stop_same h k alike =
      let now = say_now h.events k.events alike.events in
      λ i. if now.main_exit i then Some End.Main
      else (if now.fault i then Some End.Fault
      else elim (sym alike.bad i) [
        | Some g ↦ Some (End.Bad g)
        | None ↦ if now.length i == sym alike.limit i then Some End.Limit else None
      ])

  choices_same : (h k : HubState R) → Alike h k → (length (choices_of h) == 0) ≡ (length (choices_of k) == 0)
  choices_same h k alike =
      empty_by (choices_of h) (choices (capacity_of h.decls.declarations) k.events k.waiting)
      (λ t there. let (u, same, there_too) = like_choice (capacity_of h.decls.declarations) h.events k.events h.waiting k.waiting (ask_same h k alike) t there
      in (u, there_too))
      (λ t there. let (u, same, there_too) = like_choice (capacity_of h.decls.declarations) k.events h.events k.waiting h.waiting
      (ask_other_way h.events k.events h.waiting k.waiting (ask_same h k alike)) t there in (u, there_too))
      ∙ ap (λ (d : DeclsState). length (choices (capacity_of d.declarations) k.events k.waiting) == 0) (sym alike.decls)

  -- they end alike
  pub end_same : (h k : HubState R) → Alike h k → end_of h ≡ end_of k
  end_same h k alike =
      λ i. elim (stop_same h k alike i) [
        | Some e ↦ Some e
        | None ↦ if (length (sym alike.ready i) == 0) && ((length (sym alike.out i) == 0) && choices_same h k alike i) then Some End.Deadlock else None
      ]
