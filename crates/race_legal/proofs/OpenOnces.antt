-- The onces that a goroutine began and that haven't ended, as a list of numbers.
use Rattle.std.proofs.Common.{◌≡◌, ℕ, suc, ◌+◌, ◌-◌, ◌<◌, ◌≤◌, ◌==◌, ◌||◌, ◌&&◌, not, cond, if◌then◌else◌, Bool, true}
use Rattle.std.proofs.Common.{false, List, [], ◌∷◌, ◌++◌, length, take, slice_get, Option, Some, None, filter_map}
use Rattle.std.proofs.Common.{count_by, refl, sym, ap, ◌∙◌, arith, take_all, append-nil}
use Rattle.std.proofs.lemmas.{Bool.{eqb-true, eq-eqb}, List.Elements.{filter-append, filter_map-append}}
use Rattle.std.proofs.lemmas.{List.Sums.{sum_by-cons, sum_by_push}, Option.{slice_get_within, slice_get-get_or}}
use Rattle.std.specs.{List.{cons_option, filter}, Option.option_to_list}
use Rattle.race_records.specs.declared.event.{Event.Event, Op.{Op, TheVariants.OnceBegin}}
use Rattle.race_model.specs.{Events.{gives, once_begins, count, last_of}, State.{is_ended, unended_once}}
use Rattle.race_model.proofs.CountSteps.{as_number, count_cons}
use Rattle.race_legal.proofs.Fronts.{take_next}

-- the once that the operation begins, where who is g and the once isn't ended
abbrev pub entered : ℕ → (ℕ → Bool) → ℕ → Op → Option ℕ
entered g ended who (OnceBegin p) = if (who == g) && not (ended p) then Some p else None
entered g ended who _ = None

-- those of the events
abbrev pub open_onces : ℕ → (ℕ → Bool) → List Event → List ℕ
open_onces g ended events = filter_map (λ e. entered g ended e.who e.op) events

entered_is : (g who : ℕ) (past : List Event) (o : Op) → unended_once g past who o ≡ entered g (λ p. is_ended p past) who o
entered_is g who past (OnceBegin p) = refl
entered_is g who past _ = refl

-- the memory model's onces, with those that ended as a function
pub open_is : (g : ℕ) (past events : List Event) → filter_map (λ e. unended_once g past e.who e.op) events ≡ open_onces g (λ p. is_ended p past) events
open_is g past events = λ i. filter_map (λ e. entered_is g e.who past e.op i) events

-- one event more begins one once more at most
pub open_push : (g : ℕ) (ended : ℕ → Bool) (past : List Event) (e : Event)
    → open_onces g ended (past ++ e ∷ []) ≡ open_onces g ended past ++ option_to_list (entered g ended e.who e.op)
open_push g ended past e = filter_map-append (λ e. entered g ended e.who e.op) past (e ∷ [])
    ∙ ap (λ ps. open_onces g ended past ++ ps) (alone (entered g ended e.who e.op))
  where
    alone : (o : Option ℕ) → cons_option o [] ≡ option_to_list o
    alone None = refl
    alone (Some p) = refl

-- how often q stands in the list
abbrev pub times : ℕ → List ℕ → ℕ
times q ps = count_by (λ p. p == q) ps

-- of two goroutines' lists, q stands in each no more often than it was begun, and so in both together
module _ (q g h : ℕ) (ended : ℕ → Bool) (differ : g ≡ h → ⊥) where
  in_one : (p : ℕ) (a b c : Bool) → (a ≡ true → b ≡ true → ⊥)
      → as_number (gives (if a && c then Some p else None) q) + as_number (gives (if b && c then Some p else None) q) ≤ as_number (p == q)
  in_one p true true c never = absurd (never refl refl)
  in_one p true false true never = omega arith
  in_one p true false false never = omega arith
  in_one p false true true never = omega arith
  in_one p false true false never = omega arith
  in_one p false false c never = omega arith

  in_event : (who : ℕ) (o : Op) → as_number (gives (entered g ended who o) q) + as_number (gives (entered h ended who o) q) ≤ as_number (once_begins q o)
  in_event who (OnceBegin p) = in_one p (who == g) (who == h) (not (ended p)) (λ a b. differ (sym (eqb-true who g a) ∙ eqb-true who h b))
  in_event who _ = omega arith

  times_option : (o : Option ℕ) (ps : List ℕ) → times q (cons_option o ps) ≡ as_number (gives o q) + times q ps
  times_option None ps = omega arith
  times_option (Some p) ps = sum_by-cons (λ p. cond (p == q) 1 0) p ps

  pub open_apart : (events : List Event) → times q (open_onces g ended events) + times q (open_onces h ended events) ≤ count (once_begins q) events
  open_apart [] = omega arith
  open_apart (e ∷ events) =
      let one = in_event e.who e.op in
      let first = times_option (entered g ended e.who e.op) (open_onces g ended events) in
      let second = times_option (entered h ended e.who e.op) (open_onces h ended events) in
      let total = count_cons (once_begins q) e events in
      let rest = open_apart events in
      omega (arith, one, first, second, total, rest)

-- so q stands in one list no more often than it was begun
pub open_begun : (q g : ℕ) (ended : ℕ → Bool) (events : List Event) → times q (open_onces g ended events) ≤ count (once_begins q) events
open_begun q g ended events = let both = open_apart q g (suc g) ended (λ same. omega (arith, same)) events in omega (arith, both)

-- the list without q
abbrev pub without : ℕ → List ℕ → List ℕ
without q ps = filter (λ p. not (q == p)) ps

-- with q ended too it is gone from the list
pub open_without : (q g : ℕ) (ended : ℕ → Bool) (events : List Event) → open_onces g (λ p. ended p || (q == p)) events ≡ without q (open_onces g ended events)
open_without q g ended [] = refl
open_without q g ended (e ∷ events) = ap (cons_option (entered g (λ p. ended p || (q == p)) e.who e.op)) (open_without q g ended events) ∙ one e.op
  where
    rest : List ℕ
    rest = open_onces g ended events

    kept : (p : ℕ) (same : Bool) → cons_option (if not same then Some p else None) (without q rest) ≡ cond (not same) (p ∷ without q rest) (without q rest)
    kept p true = refl
    kept p false = refl

    begin : (p : ℕ) (own done : Bool) → cons_option (if own && not (done || (q == p)) then Some p else None) (without q rest)
        ≡ without q (cons_option (if own && not done then Some p else None) rest)
    begin p true true = refl
    begin p true false = kept p (q == p)
    begin p false done = refl

    one : (o : Op) → cons_option (entered g (λ p. ended p || (q == p)) e.who o) (without q rest) ≡ without q (cons_option (entered g ended e.who o) rest)
    one (OnceBegin p) = begin p (e.who == g) (ended p)
    one _ = refl

-- a list in which q isn't stays
pub without_none : (q : ℕ) (ps : List ℕ) → times q ps ≡ 0 → without q ps ≡ ps
without_none q [] none = refl
without_none q (p ∷ ps) none = go (q == p) refl (without_none q ps)
  where
    total : times q (p ∷ ps) ≡ as_number (p == q) + times q ps
    total = sum_by-cons (λ p. cond (p == q) 1 0) p ps

    go : (same : Bool) → (q == p) ≡ same → (times q ps ≡ 0 → without q ps ≡ ps) → cond (not same) (p ∷ without q ps) (without q ps) ≡ p ∷ ps
    go true is rest = let one : as_number (p == q) ≡ 1 = ap as_number (eq-eqb p q (sym (eqb-true q p is))) in absurd (omega (arith, one, total, none))
    go false is rest = ap (λ ps. p ∷ ps) (rest (omega (arith, total, none)))

-- the last element of a list
abbrev pub last : List ℕ → Option ℕ
last ps = slice_get ps (length ps - 1)

-- a list that ends with q is what stands before it, and q
module _ (q : ℕ) (ps : List ℕ) (is : last ps ≡ Some q) where
  abbrev front : List ℕ
  front = take (length ps - 1) ps

  parted : ps ≡ front ++ q ∷ []
  parted =
      let within : length ps - 1 < length ps = slice_get_within ps (length ps - 1) q is in
      sym (take_all (length ps - 1 + 1) ps (omega arith)) ∙ take_next ps (length ps - 1) q is

  counted : times q ps ≡ times q front + 1
  counted = ap (times q) parted ∙ sum_by_push (λ p. cond (p == q) 1 0) front q ∙ ap (λ b. times q front + cond b 1 0) (eq-eqb q q refl)

  -- so q stands in it
  pub stands_in : 1 ≤ times q ps
  stands_in = let sum = counted in omega (arith, sum)

  -- and where it stands there once, it is gone with the last element
  pub without_last : times q ps ≤ 1 → without q ps ≡ take (length ps - 1) ps
  without_last once =
      let sum = counted in
      ap (without q) parted
      ∙ filter-append (λ p. not (q == p)) front (q ∷ [])
      ∙ ap (λ b. without q front ++ cond (not b) (q ∷ []) []) (eq-eqb q q refl)
      ∙ append-nil (without q front)
      ∙ without_none q front (omega (arith, sum, once))

-- the last element stays where one is put in front
last_behind : (p r : ℕ) (ps : List ℕ) → last (p ∷ r ∷ ps) ≡ last (r ∷ ps)
last_behind p r ps = let here : length (p ∷ r ∷ ps) - 1 ≡ suc (length (r ∷ ps) - 1) = omega arith in ap (slice_get (p ∷ r ∷ ps)) here

-- what is given first is last where nothing is given behind it
last_option : (o : Option ℕ) (ps : List ℕ) → (elim (last ps) [ Some a ↦ Some a | None ↦ o ]) ≡ last (cons_option o ps)
last_option None ps = same (last ps)
  where
    same : (o : Option ℕ) → (elim o [ Some a ↦ Some a | None ↦ None ]) ≡ o
    same None = refl
    same (Some a) = refl
last_option (Some p) [] = refl
last_option (Some p) (r ∷ ps) = there (last (r ∷ ps)) (slice_get-get_or (r ∷ ps) (length (r ∷ ps) - 1) 0 (omega arith)) ∙ sym (last_behind p r ps)
  where
    there : {a : ℕ} (o : Option ℕ) → o ≡ Some a → (elim o [ Some a ↦ Some a | None ↦ Some p ]) ≡ o
    there None is = cc
    there (Some a) is = refl

pub last_of_is : {X : Type 0} (f : X → Option ℕ) (xs : List X) → last_of f xs ≡ last (filter_map f xs)
last_of_is f [] = refl
last_of_is f (x ∷ xs) = ap (λ (o : Option ℕ). elim o [ Some a ↦ Some a | None ↦ f x ]) (last_of_is f xs) ∙ last_option (f x) (filter_map f xs)
