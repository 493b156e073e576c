-- What the field of `Logs` stands for, and what holds of it.
use Rattle.std.specs.Prelude.{ℕ, ◌≡◌, map, slice_get, Some}
use Rattle.race_hub.specs.{declared.logs.Logs.TheInside.Inside, Logs.{LogsState, logs_in}, Tracks.TrackState}

module _ {A : Type 0} where
  abbrev pub logs_state : Inside A → LogsState
  logs_state l = record { logs = logs_in l.tracks.items; have_room = map (λ t. t.has_room) l.tracks.items }

  -- no event was passed along them
  abbrev pub LogsHolds : Inside A → Type 0
  LogsHolds l = (g : ℕ) (t : TrackState) → slice_get l.tracks.items g ≡ Some t → t.passed ≡ Some 0
