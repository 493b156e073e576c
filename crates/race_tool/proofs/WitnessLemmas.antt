-- What a verdict says of the variable of a name.
use Rattle.std.proofs.Common.{◌≡◌, ℕ, ◌<◌, List, All, length, Option, Some, None, map, slice_get, get_or, refl, sym, ap}
use Rattle.std.proofs.Common.{◌∙◌, subst}
use Rattle.std.{proofs.lemmas.Option.{slice_get_within, slice_get-map, slice_get-get_or}, specs.Option.option_map}
use Rattle.race_records.specs.Events.{TraceState}
use Rattle.race_model.{specs.{Race.{IsRace, IsReportedRace}, Events.is_access}, proofs.ReorderLemmas.passes_at}
use Rattle.race_verdict.specs.{declared.{races.Race.Race, verdict.Verdict.Verdict}, Races.race_of}
use Rattle.race_verdict.specs.{Traces.{capacities, HasVerdict}, Verdicts.verdict_of}
use Rattle.race_shards.specs.Witness.{IsWitness, RacesInOrder}
use Rattle.race_tool.specs.Witness.{HasNoRace, IsVar, IsWitnessOn, IsPickedOf}
use Rattle.race_model.specs.Verdict as model

-- what a verdict of the code says, by its variant
pub clean_right : {A : Type 0} (trace : TraceState) (v : Verdict A) → v ≡ Verdict.Clean → HasVerdict trace (verdict_of v) → HasVerdict trace model.Clean
clean_right {A} trace v is right = subst (λ (v : Verdict A). HasVerdict trace (verdict_of v)) is right

pub races_right : {A : Type 0} (trace : TraceState) (v : Verdict A) (races : List Race) → v ≡ Verdict.Races races → HasVerdict trace (verdict_of v)
    → HasVerdict trace (model.Races (map race_of races))
races_right {A} trace v races is right = subst (λ (v : Verdict A). HasVerdict trace (verdict_of v)) is right

module _ (trace : TraceState) (name : List ℕ) where
  -- in a clean trace no variable has a race
  pub none_clean : HasVerdict trace model.Clean → HasNoRace name trace
  none_clean right = (right.0, λ x i j named race. right.1 x i j race)

  module _ (races : List Race) (right : HasVerdict trace (model.Races (map race_of races))) where
    -- a race of the list is the reported one of its variable
    pub reported : (k : ℕ) (race : Race) → slice_get races k ≡ Some race → IsReportedRace (capacities trace) trace.events race.var race.first race.second
    reported k race at = right.2.each k (race_of race) (slice_get-map race_of races k ∙ ap (option_map race_of) at)

    pub picked_races : (race : Race) → IsPickedOf trace races name (Some race) → RacesInOrder (capacities trace) trace.events race
    picked_races race picked =
        let is = reported picked.0.0 race picked.0.1 in
        record { legal = right.0; race = is.race; in_order = is.in_order }

    -- so its witness is right for the name
    pub picked_witness : (race : Race) (order : List ℕ) → IsPickedOf trace races name (Some race) → IsWitness (capacities trace) trace.events race order
        → IsWitnessOn trace name order
    picked_witness race order picked is = record { race = race; named = picked.1; reported = reported picked.0.0 race picked.0.1; witness = is }

    -- where none is on the variable it has none
    pub none_picked : IsPickedOf trace races name None → HasNoRace name trace
    none_picked none = (right.0, no_race)
      where
        no_race : (x i j : ℕ) → IsVar trace name x → ¬ IsRace (capacities trace) trace.events x i j
        no_race x i j named race = go (slice_get races found.0) refl (sym (slice_get-map race_of races found.0) ∙ found.2)
          where
            found : (k : ℕ) × (r : model.Race) × (slice_get (map race_of races) k ≡ Some r) × (r.var ≡ x)
            found = right.2.every x i j race

            go : (o : Option Race) → slice_get races found.0 ≡ o → option_map race_of o ≡ Some found.1 → ⊥
            go None is same = cc
            go (Some q) is same =
                let alike : race_of q ≡ found.1 = cc in
                let var : q.var ≡ x = ap (λ (r : model.Race). r.var) alike ∙ found.3 in
                none found.0 q is (subst (IsVar trace name) (sym var) named)

-- the accesses of a witness are the trace's
pub accesses_within : (trace : TraceState) (name order : List ℕ) → IsWitnessOn trace name order → All (λ index. index < length trace.events) order
accesses_within trace name order right i d less =
    let access = passes_at is_access trace.events (get_or order i d)
    (right.witness.reordering.only i (get_or order i d) (slice_get-get_or order i d less)) in
    slice_get_within trace.events (get_or order i d) access.0 access.1
