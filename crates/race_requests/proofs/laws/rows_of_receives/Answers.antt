-- Each list of choices, each event and each row is computed.
use Rattle.std.proofs.Common.{refl}
use Rattle.race_requests.proofs.laws.rows_of_receives.Goals as goal

pub returns : goal.returns
returns c = record {
  value = record { only = refl; event = refl; row = refl };
  first = record { only = refl; event = refl; row = refl };
  left = record { only = refl; event = refl; row = refl };
  closed = record { only = refl; event = refl; row = refl };
  closed_unbuffered = record { only = refl; event = refl; row = refl };
  empty = refl;
  unbuffered = refl;
  nil = refl;
}
