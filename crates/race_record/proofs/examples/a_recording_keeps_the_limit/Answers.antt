use Rattle.std.proofs.Common.{◌≡◌, ℕ, zero, suc, List, [], ◌∷◌, Some, None, slice_get, refl, subst, arith}
use Rattle.std.proofs.lemmas.Option.{none-some}
use Rattle.race_records.specs.{declared.event.{Event.Event, Op.TheVariants.Exit}, Declarations.capacity_of}
use Rattle.race_model.{specs.Examples.does, proofs.LegalSteps.{legal_none, legal_by}}
use Rattle.race_requests.specs.{declared.request.Step.Step, Table.Fits}
use Rattle.race_hub.specs.{Part.{IsPart, part_of}, Hub.stop_by}
use Rattle.race_record.specs.Examples.{exits, main_returns}
use Rattle.race_record.proofs.examples.a_recording_keeps_the_limit.Goals as goal

each_fits : (k : ℕ) (s : Step) (e : Event) → slice_get (exits ∷ []) k ≡ Some s → slice_get (part_of 0 main_returns.events) k ≡ Some e → Fits 0 s e
each_fits zero s e step event =
    let same : exits ≡ s = cc in
    let done : does 0 Exit ≡ e = cc in
    let fits : Fits 0 exits (does 0 Exit) = (refl, (0, refl)) in
    subst (λ (x : Step). Fits 0 x e) same (subst (λ (x : Event). Fits 0 exits x) done fits)
each_fits (suc k) s e step event = absurd (none-some _ step)

are_parts : (g : ℕ) (log : List Step) → slice_get main_returns.logs g ≡ Some log → IsPart g log main_returns.events
are_parts zero log there =
    let same : exits ∷ [] ≡ log = cc in
    subst (λ (l : List Step). IsPart 0 l main_returns.events) same (record { as_many = refl; each = each_fits })
are_parts (suc g) log there = absurd (none-some _ there)

pub returns-clause-within : goal.returns-clause-within
unfolding stop_by
returns-clause-within c = record {
  version = refl;
  declarations = refl;
  legal = legal_by (capacity_of []) [] main_returns.events (legal_none (capacity_of [])) (refl, tt);
  count = refl;
  parts = are_parts;
  ended = record { bad = None; whose = λ g is. absurd cc; is_end = refl };
  limited = omega arith;
}

pub returns-clause-beyond : goal.returns-clause-beyond
returns-clause-beyond c = λ is. omega (arith, is.limited)
