-- Each run of a hub is kept.
use Rattle.std.proofs.Common.{◌≡◌, ℕ, zero, suc, Bool, if◌then◌else◌, List, [], ◌∷◌, Option, Some, None, refl, sym, inl, inr}
use Rattle.std.proofs.{Common.{slice_get, subst}, lemmas.Option.none-some}
use Rattle.race_hub.specs.{declared.ending.End.End, Hub.{HubState, opening, stop_of, is_deadlock}}
use Rattle.race_hub.specs.{Kept.IsKept, Runs.{IsStep, AreSteps, EachRunIsKept}}
use Rattle.race_hub.proofs.{KeptLemmas.{taken_kept, submitted_kept, fired_kept}, OpeningLemmas.opening_kept}
use Rattle.race_hub.proofs.{FiringLemmas.picked_rows, PerformLemmas.below_limit}
use Rattle.race_requests.proofs.ChoiceLemmas.{some_is}

on_of : (stop : Option End) (dead : Bool)
    → ◌≡◌ {A = Option End} (elim stop [ Some e ↦ Some e | None ↦ if dead then Some End.Deadlock else None ]) None → stop ≡ None
on_of (Some e) dead is = absurd (none-some e (sym is))
on_of None dead is = refl

module _ {R : Type 0} where
  step_kept : (old new : HubState R) → IsStep old new → IsKept old → IsKept new
  step_kept old new (inl (job, on, t)) kept = taken_kept old new job t kept
  step_kept old new (inr (inl (job, back, t))) kept = submitted_kept old new job back t kept
  step_kept old new (inr (inr (pick, fired))) kept =
      let found = (picked_rows old pick fired.t fired.fires.e fired.chosen fired.fires.makes).rows in
      fired_kept old new fired.t fired.fires found.partner found.apart
      (below_limit old (on_of (stop_of old) (is_deadlock old) fired.running) kept.limited) kept

  steps_kept : (old : HubState R) (states : List (HubState R)) → IsKept old → AreSteps old states → (i : ℕ) (h : HubState R)
      → slice_get states i ≡ Some h → IsKept h
  steps_kept old [] kept steps i h at = absurd (none-some h at)
  steps_kept old (next ∷ rest) kept steps zero h at = subst IsKept (some_is at) (step_kept old next steps.0 kept)
  steps_kept old (next ∷ rest) kept steps (suc i) h at = steps_kept next rest (step_kept old next steps.0 kept) steps.1 i h at

pub each_run_is_kept : (R : Type 0) → EachRunIsKept R
each_run_is_kept R decls limit main others states steps i h at =
    steps_kept (opening decls limit main others) states (opening_kept decls limit main others) steps i h at
