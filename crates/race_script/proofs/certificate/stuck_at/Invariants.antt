-- So many events of the goroutine's part follow its body, up to the position.
use Rattle.race_hub.specs.Part.{part_of}
use Rattle.race_script.{specs.Program.spelled, proofs.StuckLemmas.IsAlong}
use Rattle.race_script.proofs.certificate.stuck_at.Given as goal

abbrev pub invariant-loop-k : goal.invariant-loop-k
invariant-loop-k g l =
    IsAlong (spelled l.course.places.now.places l.course.body.now.items) l.course.recorded.now.places l.course.goroutine
    (part_of l.goroutine l.recording.events) l.k l.position
