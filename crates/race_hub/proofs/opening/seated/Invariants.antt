-- Those so far have their places, and logs.
use Rattle.std.proofs.Common.{◌≡◌, [], Some, map}
use Rattle.race_hub.proofs.opening.seated.Given as goal

abbrev pub invariant-loop-routine : goal.invariant-loop-routine
invariant-loop-routine g l = record { places : l.places.items ≡ map Some l.yielded; logs : l.logs.logs ≡ map (λ _. []) l.yielded }
