-- Where a goroutine is stuck, by its log.
use Rattle.std.proofs.Common.{◌≡◌, ℕ, zero, suc, List, [], ◌∷◌, length, filter, take, cond, Bool, true, false}
use Rattle.std.proofs.Common.{slice_get, Option, Some, None, inl, inr, refl, sym, ap, subst, ◌∙◌, ◌+◌, ◌&&◌, not, arith}
use Rattle.std.proofs.lemmas.List.{take_all}
use Rattle.std.proofs.lemmas.Option.{slice_get_within}
use Rattle.race_records.{proofs.ListLemmas.slice_get-within, specs.declared.event.{Cause.Cause, Event.Event}}
use Rattle.race_model.specs.Events.{takes_part, starts}
use Rattle.race_legal.proofs.Fronts.{take_next}
use Rattle.race_requests.specs.{declared.request.{Request.Request, Step.Step}, Table.Fits}
use Rattle.race_hub.specs.Part.{part_of, IsPart}
use Rattle.race_script.specs.Certificate.{after_event, behind, FitsAt, Follows, WaitsAt, IsRun, IsStuckAt}
use Rattle.race_script.{specs.{Course.{FailsBy, IsPassed}, Program.{Instruction, asked_by}}, proofs.CourseLemmas.behind_push}
use Rattle.race_script.proofs.CourseLemmas.{follows_none, follows_push}

-- what passes a test stood in the list
pub in_list : {X : Type 0} (p : X → Bool) (xs : List X) (k : ℕ) (x : X) → slice_get (filter p xs) k ≡ Some x → (n : ℕ) × (slice_get xs n ≡ Some x)
in_list p [] k x at = let within = slice_get_within [] k x at in absurd (omega (arith, within))
in_list p (y ∷ ys) k x at = by (p y) k at (λ k at. in_list p ys k x at)
  where
    by : (b : Bool) (k : ℕ) → slice_get (cond b (y ∷ filter p ys) (filter p ys)) k ≡ Some x
        → ((k : ℕ) → slice_get (filter p ys) k ≡ Some x → (n : ℕ) × (slice_get ys n ≡ Some x)) → (n : ℕ) × (slice_get (y ∷ ys) n ≡ Some x)
    by true zero at rest = (0, at)
    by true (suc k) at rest = let found = rest k at in (suc found.0, found.1)
    by false k at rest = let found = rest k at in (suc found.0, found.1)

-- the event of a step of a log, which fails by the cause of its run
pub event_of : (g : ℕ) (log : List Step) (events : List Event) (fault : Option Cause) (k : ℕ) (s : Step) → IsPart g log events
    → ((n : ℕ) (e : Event) → slice_get events n ≡ Some e → FailsBy fault e.op) → slice_get log k ≡ Some s
    → (e : Event) × (slice_get (part_of g events) k ≡ Some e) × Fits g s e × FailsBy fault e.op
event_of g log events fault k s part fails at =
    let within = slice_get_within log k s at in
    let many = part.as_many in
    let found = slice_get-within (part_of g events) k (omega (arith, within, many)) in
    let there = in_list (λ (e : Event). takes_part g e && not (starts g e.op)) events k found.0 found.1 in
    (found.0, found.1, part.each k s found.0 at found.1, fails there.0 found.0 there.1)

module _ (body : List Instruction) (places : List (List ℕ)) (g : ℕ) (part : List Event) where
  -- so many events of the part follow the body, up to the position
  pub record IsAlong (k p : ℕ) : Type 0 where
    pub follows : Follows body places g (take k part)
    pub position : p ≡ behind (asked_by body) (take k part)

  pub along_none : IsAlong 0 0
  along_none = record { follows = follows_none body places g; position = refl }

  -- one step passes, or doesn't
  pub along_next : (k p q : ℕ) (e : Event) → slice_get part k ≡ Some e → IsAlong k p → IsPassed body places g p e (Some q) → IsAlong (k + 1) q
  along_next k p q e at along fits =
      let next = take_next part k e at in
      let here = along.position in
      record {
        follows = subst (Follows body places g) (sym next)
            (follows_push body places g (take k part) e along.follows (subst (λ p. FitsAt body places g p e) here fits.0));
        position = fits.1 ∙ ap (λ p. after_event (asked_by body) p e.op) here ∙ sym (behind_push (asked_by body) (take k part) e)
            ∙ ap (behind (asked_by body)) (sym next);
      }

  pub stuck_inside : (waiting : Option Request) (k p : ℕ) (e : Event) → slice_get part k ≡ Some e → IsAlong k p → IsPassed body places g p e None
      → IsStuckAt body places g part waiting p
  stuck_inside waiting k p e at along misfit = inl (k, e, at, along.follows, along.position, misfit)

  -- all pass, and what waits is asked behind them or isn't
  module _ (waiting : Option Request) (k p : ℕ) (all : length part ≡ k) (along : IsAlong k p) where
    pub stuck_behind : (WaitsAt body places g p waiting → ⊥) → IsStuckAt body places g part waiting p
    stuck_behind other =
        let whole = take_all k part (omega (arith, all)) in
        inr (subst (Follows body places g) whole along.follows, along.position ∙ ap (behind (asked_by body)) whole, other)

    pub runs : WaitsAt body places g p waiting → IsRun body places g part waiting
    runs waits =
        let whole = take_all k part (omega (arith, all)) in
        record {
          follows = subst (Follows body places g) whole along.follows;
          waits = subst (λ p. WaitsAt body places g p waiting) (along.position ∙ ap (behind (asked_by body)) whole) waits;
        }
