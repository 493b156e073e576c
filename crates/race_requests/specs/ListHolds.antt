-- What the fields of a `RequestList` stand for, and what holds of them.
use Rattle.std.specs.Prelude.{◌&&◌, nat_lt, length, map, vec_len, vec_capacity}
use Rattle.race_requests.specs.declared.list.RequestList.TheInside.{Inside}
use Rattle.race_requests.specs.List.{RequestListState, request_of, AreWithin}

module _ {A : Type 0} where
  abbrev pub list_state : Inside A → RequestListState
  list_state l = record {
    items = map (request_of l.selects.items) l.briefs.items;
    has_room = nat_lt (vec_len l.briefs) (vec_capacity l.briefs) && nat_lt (vec_len l.selects) (vec_capacity l.selects);
  }

  -- the offers of each select are there
  abbrev pub ListHolds : Inside A → Type 0
  ListHolds l = AreWithin (length l.selects.items) l.briefs.items
