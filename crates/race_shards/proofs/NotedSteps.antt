-- What a judge notes with its verdict is right.
use Rattle.std.proofs.{Common.{◌≡◌, ◌<◌, List, All, None, length, get_or, subst}, lemmas.Option.slice_get-get_or}
use Rattle.std.proofs.lemmas.List.Elements.{All-weaker}
use Rattle.race_records.specs.{declared.event.Event.Event, Declarations.Declaration}
use Rattle.race_model.specs.Events.{count, is_access}
use Rattle.race_verdict.specs.{declared.report.ReportedRace.ReportedRace, Notes.IsNotedRaceOf}
use Rattle.race_shards.specs.{Shards.ShardState, Telling.IsNotedBy, Judging.{JudgeState, StandsFor}}
use Rattle.race_shards.proofs.{JudgeSteps.{some_of, stand_of}, TellSteps.noted_is}

module _ (j : JudgeState) (going : j.illegal ≡ None) (declarations : List Declaration) (past : List Event) (S : StandsFor declarations j past) where
  -- both accesses of each race are noted of the events
  pub notes_right : (races : List ReportedRace) → All (IsNotedBy j.shards j.vars) races → All (IsNotedRaceOf past) races
  notes_right races all =
      All-weaker (IsNotedBy j.shards j.vars) (IsNotedRaceOf past)
      (λ r noted. noted_is declarations j.shards past (some_of j going declarations past S) (stand_of j going declarations past S) r
      (subst (λ n. IsNotedBy j.shards n r) S.vars noted)) races all

  -- and the first shard has counted the accesses
  pub accesses_right : (d : ShardState) → 0 < length j.shards → (get_or j.shards 0 d).accesses ≡ count is_access past
  accesses_right d some = let first = stand_of j going declarations past S 0 (get_or j.shards 0 d) (slice_get-get_or j.shards 0 d some) in first.accesses
