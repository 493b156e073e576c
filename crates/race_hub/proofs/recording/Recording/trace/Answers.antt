use Rattle.std.proofs.Common.{subst}
use Rattle.race_hub.specs.Recording.{RecordingState, AreParts}
use Rattle.race_hub.proofs.recording.Recording.trace.Goals as goal

pub returns-clause-parts : goal.returns-clause-parts
returns-clause-parts g c = subst (λ (r : RecordingState). AreParts r.logs r.events) c.self.view_is c.self.invariant.parts
