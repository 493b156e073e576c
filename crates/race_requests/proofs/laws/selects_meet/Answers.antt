-- The choices and the event are computed, and the rows are read off the table.
use Rattle.std.proofs.Common.{refl}
use Rattle.race_requests.proofs.laws.selects_meet.Goals as goal

pub returns : goal.returns
returns c = record {
  either_way = refl;
  event = refl;
  sender = refl;
  receiver = refl;
  itself = refl;
  sender_has_default = refl;
  receiver_has_default = refl;
  others_meet = refl;
}
