-- What the hub owes to a firing, and what its choice says of it.
use Rattle.std.proofs.Common.{◌≡◌, ◌&&◌, ℕ, ◌<◌, ◌%◌, nat_lt, Bool, true, false, List, [], length, All}
use Rattle.std.proofs.Common.{IsTrue, Option, Some, None, IsNone, refl, sym, ap, ◌∙◌, subst, arith, slice_get, eq-eqb}
use Rattle.std.proofs.lemmas.Bool.Decides.{nat_tests}
use Rattle.race_records.specs.declared.{event.{Event.Event, Op.{Op, TheVariants.Go}}, kind.Kind.Kind}
use Rattle.race_records.specs.{Declarations.{DeclsState, capacity_of, count_of}, Events.{fits, is_in_range}}
use Rattle.race_records.specs.Events.{is_right_kind, op_fits}
use Rattle.race_model.specs.{Events.starts, Legal.broken}
use Rattle.race_requests.specs.{declared.choice.Choice.Choice, Choices.event_of, Search.picked, Sound.is_sound}
use Rattle.race_requests.proofs.ChoiceLemmas.{some_is, none_picked, IsPossible, listed_is_possible}
use Rattle.race_hub.specs.{declared.firing.Firing.Firing, Hub.{HubState, choices_of}, Kept.IsKept}
use Rattle.race_hub.specs.{Fires.{started_by, HasRoutine}, Firing.{HasRows, HasSomeRows, IsFiring}}
use Rattle.race_hub.proofs.{ChoiceRows.rows_of, FitLemmas.choice_fits, OnceLemmas.started_fresh, KeptLemmas.fresh_routine}
use Rattle.race_hub.proofs.TableLemmas.{both_true}

pub second : (a b c d : Bool) → (a && b && c && d) ≡ true → b ≡ true
second true true c d is = refl
second true false c d is = absurd cc
second false b c d is = absurd cc

pub below : (m n : ℕ) → nat_lt m n ≡ true → m < n
below m n is = grind (arith, nat_tests)

-- an event that fits names an operation that does
op_is_in_range_by : (decls : DeclsState) (e : Event) → IsTrue (fits decls e) → op_fits decls.declarations e.op ≡ true
unfolding fits
op_is_in_range_by decls e is =
    second _ _ _ _ (both_true (is_in_range decls e) (is_right_kind decls e.op) is).0

go_in_range : (decls : DeclsState) (e : Event) (h : ℕ) → IsTrue (fits decls e) → e.op ≡ Go h → h < count_of Kind.Goroutine decls.declarations
go_in_range decls e h is goes =
    below h _ (both_true _ true (subst (λ op. op_fits decls.declarations op ≡ true) goes (op_is_in_range_by decls e is))).0

module _ {R : Type 0} (h : HubState R) where
  -- whom a legal event that fits starts has its routine
  routine_of : (e : Event) (op : Op) → e.op ≡ op → IsKept h → length h.routines ≡ count_of Kind.Goroutine h.decls.declarations
      → IsTrue (fits h.decls e) → broken (capacity_of h.decls.declarations) h.events e ≡ None → HasRoutine h.routines (started_by op)
  routine_of e (Go g) is kept count fit legal =
      let starts : starts g e.op ≡ true = ap (starts g) is ∙ eq-eqb g g refl in
      let fresh = started_fresh (capacity_of h.decls.declarations) h.events e g kept.legal legal starts in
      let less = go_in_range h.decls e g fit is in
      fresh_routine h g kept (subst (λ n. g < n) (sym count) less) fresh.main fresh.exited fresh.failed
  routine_of e _ is kept count fit legal = tt

  -- the picked choice is possible
  pub picked_is_possible : (pick : ℕ) (t : Choice) → picked pick (choices_of h) ≡ Some t → IsPossible (capacity_of h.decls.declarations) h.events h.waiting t
  picked_is_possible pick t is =
      listed_is_possible (capacity_of h.decls.declarations) h.events h.waiting (pick % length (choices_of h)) t is

  -- a choice that makes an event makes it
  made_event : (t : Choice) (e : Event) (p : IsPossible (capacity_of h.decls.declarations) h.events h.waiting t)
      → event_of h.events h.waiting t ≡ Some e → p.e ≡ e
  made_event t e p makes = some_is (sym p.makes ∙ makes)

  pub picked_rows : (pick : ℕ) (t : Choice) (e : Event) → picked pick (choices_of h) ≡ Some t → event_of h.events h.waiting t ≡ Some e
      → HasSomeRows h.waiting t e
  picked_rows pick t e is makes =
      let p = picked_is_possible pick t is in
      let same = made_event t e p makes in
      rows_of (capacity_of h.decls.declarations) h.events h.waiting t e
      (subst (λ e. broken (capacity_of h.decls.declarations) h.events e ≡ None) same p.legal) p.branch makes

  pub picked_firing : (pick : ℕ) (f : Firing) → picked pick (choices_of h) ≡ Some f.choice → event_of h.events h.waiting f.choice ≡ Some f.event
      → HasRows h.waiting f.choice f.event f.told f.partner
      → All (λ w. IsTrue (is_sound h.decls w)) h.waiting → IsKept h → length h.routines ≡ count_of Kind.Goroutine h.decls.declarations → IsFiring h f
  picked_firing pick f is makes rows sound kept count =
      let p = picked_is_possible pick f.choice is in
      let same = made_event f.choice f.event p makes in
      let legal = subst (λ e. broken (capacity_of h.decls.declarations) h.events e ≡ None) same p.legal in
      let fit = choice_fits h.decls h.events h.waiting f.choice f.event sound makes in
      record { rows = rows; makes = makes; legal = legal; fits = fit; routine = routine_of f.event f.event.op refl kept count fit legal }

-- from nothing alone nothing is picked
pub none_by : {X : Type 0} (found : Option X) (xs : List X) (pick : ℕ) → found ≡ slice_get xs (pick % length xs) → IsNone found → xs ≡ []
none_by None xs pick is none = none_picked xs pick is
none_by (Some x) xs pick is none = absurd cc

pub nothing_by : {X : Type 0} (found : Option X) (xs : List X) (pick : ℕ) → found ≡ slice_get xs (pick % length xs) → found ≡ None → xs ≡ []
nothing_by found xs pick is none = none_picked xs pick (sym none ∙ is)
