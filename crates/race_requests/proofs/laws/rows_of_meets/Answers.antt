-- Each list of choices, each event and each row is computed.
use Rattle.std.proofs.Common.{refl}
use Rattle.race_requests.proofs.laws.rows_of_meets.Goals as goal

pub returns : goal.returns
returns c = record {
  only = refl;
  event = refl;
  sender = refl;
  receiver = refl;
  other_channel = refl;
}
