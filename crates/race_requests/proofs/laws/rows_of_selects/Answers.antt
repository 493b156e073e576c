-- Each list of choices, each event and each row is computed.
use Rattle.std.proofs.Common.{refl}
use Rattle.race_requests.proofs.laws.rows_of_selects.Goals as goal

pub returns : goal.returns
returns c = record {
  sends = record { only = refl; event = refl; row = refl };
  receives = record { only = refl; event = refl; row = refl };
  finds_closed = record { only = refl; event = refl; row = refl };
  fails = record { only = refl; event = refl; row = refl };
  by_default = record { only = refl; event = refl; row = refl };
  behind_with = refl;
  behind_without = refl;
  waits_without = refl;
  nil = record { only = refl; event = refl; row = refl };
  nil_waits = refl;
  nothing = record { only = refl; event = refl; row = refl };
  nothing_waits = refl;
  twice = refl;
}
