-- A body's step makes an event exactly where the tests of the code hold.
use Rattle.std.proofs.Common.{◌≡◌, ◌↔◌, ℕ, Bool, IsTrue, List, slice_get, Option, Some, None, option_map, sym, ap}
use Rattle.std.proofs.Common.{subst, ◌∙◌}
use Rattle.race_records.specs.declared.event.{Cause.Cause, Event.Event, Op.Op}
use Rattle.race_requests.specs.{declared.request.{Ask.Ask, Request.Request, Step.Step}, Table.{done_by, Fits, IsRow}}
use Rattle.race_requests.specs.Table.{CanMake}
use Rattle.race_text.specs.Text.{place_text}
use Rattle.race_script.specs.{Certificate.after_event, Course.{made_in, FailsBy, IsPassed}, Program.Instruction}
use Rattle.race_script.specs.Program.{asks_of, instruction, spelled}
use Rattle.race_script.proofs.{CourseLemmas.{asks_spelled, spelled_at, spelled_past}, MadeLemmas.{row_made, done_again}}
use Rattle.race_script.proofs.MadeLemmas.{after_done, fails_done}

-- what is made of what was done is made of the event
can_make_done : (g : ℕ) (ask : Ask) (op : Op) → CanMake g ask (done_by g op) → CanMake g ask op
can_make_done g ask op (k, told, row) = (k, told, subst (λ o. IsRow ask k o told) (done_again g op) row)

can_make_event : (g : ℕ) (ask : Ask) (op : Op) → CanMake g ask op → CanMake g ask (done_by g op)
can_make_event g ask op (k, told, row) = (k, told, subst (λ o. IsRow ask k o told) (sym (done_again g op)) row)

-- what was made in the step is what g did in the event
pub made_is : (g : ℕ) (step : Step) (fault : Option Cause) (e : Event) → Fits g step e → FailsBy fault e.op
    → made_in step.asked.ask step.told fault ≡ Some (done_by g e.op)
made_is g step fault e fits fails = row_made step.asked.ask fits.1.0 (done_by g e.op) step.told fault fits.1.1 (fails_done fault g e.op fails)

module _ (places recorded : List (List ℕ)) (body : List Request) (g p : ℕ) (step : Step) (e : Event) (fits : Fits g step e) where
  -- the body has no step there
  pub passes_no_step : slice_get body p ≡ None → IsPassed (spelled places body) recorded g p e None
  passes_no_step none (i, at, placed, makes) = let past = spelled_past places body p none in cc

  -- both tests hold
  pub passes_step : (r : Request) (made : Op) (q : ℕ) → slice_get body p ≡ Some r → made ≡ done_by g e.op → CanMake g r.ask made
      → place_text recorded step.asked.place ≡ place_text places r.place → q ≡ after_event (asks_of body) p made
      → IsPassed (spelled places body) recorded g p e (Some q)
  passes_step r made q at is can alike there = (
    (
      instruction places r,
      spelled_at places body p r at,
      ap (option_map (place_text recorded)) fits.0 ∙ ap Some alike,
      can_make_done g r.ask e.op (subst (CanMake g r.ask) is can),
    ),
    there ∙ ap (after_event (asks_of body) p) is ∙ after_done (asks_of body) p g e.op ∙ ap (λ asks. after_event asks p e.op) (sym (asks_spelled places body)),
  )

  -- one of them doesn't
  pub passes_no_fit : (r : Request) (made : Op) → slice_get body p ≡ Some r → made ≡ done_by g e.op
      → (CanMake g r.ask made → place_text recorded step.asked.place ≡ place_text places r.place → ⊥)
      → IsPassed (spelled places body) recorded g p e None
  passes_no_fit r made at is misfit (i, found, placed, can) =
      let same : i ≡ instruction places r = let there = spelled_at places body p r at in cc in
      let made_so = subst (CanMake g r.ask) (sym is) (can_make_event g r.ask e.op (subst (λ (i : Instruction). CanMake g i.ask e.op) same can)) in
      let stands = ap (option_map (place_text recorded)) (sym fits.0) ∙ placed ∙ ap (λ (i : Instruction). Some i.place) same in
      misfit made_so cc

-- what waits is the body's step at the position
module _ (places recorded : List (List ℕ)) (body : List Request) (p : ℕ) (request : Request) where
  -- exactly where it asks the same at the same place
  pub waits_here : (r : Request) → slice_get body p ≡ Some r → r.ask ≡ request.ask → (alike : Bool)
      → IsTrue alike ↔ (place_text recorded request.place ≡ place_text places r.place)
      → IsTrue alike ↔ (slice_get (spelled places body) p ≡ Some (instruction recorded request))
  waits_here r at same alike tells =
      let there = spelled_at places body p r at in (
        (λ yes. let stands = sym (tells.0 yes) in there ∙ (λ i. Some (record { ask = same i; place = stands i }))),
        (λ is. let one : instruction places r ≡ instruction recorded request = cc in tells.1 (sym (ap (λ (i : Instruction). i.place) one))),
      )

  pub waits_not : (r : Request) → slice_get body p ≡ Some r → (r.ask ≡ request.ask → ⊥)
      → slice_get (spelled places body) p ≡ Some (instruction recorded request) → ⊥
  waits_not r at other is =
      let there = spelled_at places body p r at in
      let one : instruction places r ≡ instruction recorded request = cc in
      other (ap (λ (i : Instruction). i.ask) one)

  pub waits_past : slice_get body p ≡ None → slice_get (spelled places body) p ≡ Some (instruction recorded request) → ⊥
  waits_past none is = let past = spelled_past places body p none in cc
