-- What a verdict says of the races that are asked for.
use Rattle.std.proofs.Common.{ℕ, List, [], ◌∷◌, All, Some, get_or}
use Rattle.std.proofs.Common.{refl, arith}
use Rattle.std.proofs.lemmas.{List.Elements.All-push, Option.slice_get-get_or}
use Rattle.race_records.specs.Events.{TraceState}
use Rattle.race_verdict.specs.{declared.races.Race.Race, Traces.capacities}
use Rattle.race_shards.specs.Witness.{RacesInOrder}
use Rattle.race_tool.specs.{Draw.{AreAsked, AreRacesOf}, Witness.IsPickedOf}
use Rattle.race_tool.proofs.WitnessLemmas.{picked_races, reported}

module _ (trace : TraceState) where
  -- all that are reported are races in order
  pub all_in_order : (races : List Race) → AreRacesOf trace races → All (RacesInOrder (capacities trace) trace.events) races
  all_in_order races right i d less =
      let is = reported trace [] races right i (get_or races i d) (slice_get-get_or races i d less) in
      record { legal = right.0; race = is.race; in_order = is.in_order }

  module _ (name : List ℕ) (races : List Race) (race : Race) (right : AreRacesOf trace races) (picked : IsPickedOf trace races name (Some race)) where
    -- so is the one that is picked
    pub picked_in_order : All (RacesInOrder (capacities trace) trace.events) (race ∷ [])
    picked_in_order = All-push (RacesInOrder (capacities trace) trace.events) [] race (λ i d less. absurd (omega (arith, less)))
        (picked_races trace name races right race picked)

    -- it is the one that is asked for
    pub picked_asked : AreAsked trace (Some name) (race ∷ [])
    picked_asked = (race, refl, picked.1, reported trace name races right picked.0.0 race picked.0.1)
