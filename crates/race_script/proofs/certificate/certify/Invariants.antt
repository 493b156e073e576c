-- The goroutines so far run their bodies.
use Rattle.std.proofs.Common.{◌≡◌, ℕ, ◌<◌, List, slice_get, Some}
use Rattle.race_requests.specs.declared.request.Request.{Request}
use Rattle.race_script.specs.Certificate.{Runs}
use Rattle.race_script.proofs.certificate.certify.Given as goal

abbrev pub invariant-loop-g : goal.invariant-loop-g
invariant-loop-g g l = (h : ℕ) (body : List Request) → h < l.g → slice_get l.program.bodies h ≡ Some body → Runs l.program l.recording h body
