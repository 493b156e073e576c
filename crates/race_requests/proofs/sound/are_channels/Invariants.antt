-- the channels of the offers before number k are declared
use Rattle.std.{proofs.Common.{◌≡◌, true, take}, specs.List.list_all}
use Rattle.race_records.specs.{declared.kind.Kind.Kind, Declarations.count_of}
use Rattle.race_requests.specs.Possible.{offer_is_in_range}
use Rattle.race_requests.proofs.sound.are_channels.Given as goal

abbrev pub invariant-loop-k : goal.invariant-loop-k
invariant-loop-k g l = list_all (offer_is_in_range (count_of Kind.Chan l.decls.declarations)) (take l.k l.offers) ≡ true
