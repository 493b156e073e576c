-- What the fields of a `Log` stand for, and what holds of them.
use Rattle.std.specs.Prelude.{◌≡◌, ◌&&◌, nat_lt, length, vec_len, vec_capacity}
use Rattle.race_hub.specs.{declared.log.Log.TheInside.Inside, Log.{LogState, steps_of}}

module _ {A : Type 0} where
  abbrev pub log_state : Inside A → LogState
  log_state l = record {
    items = steps_of l.asked.items l.told.items;
    has_room = l.asked.has_room && nat_lt (vec_len l.told) (vec_capacity l.told);
  }

  -- each request has what was told
  abbrev pub LogHolds : Inside A → Type 0
  LogHolds l = length l.asked.items ≡ length l.told.items
