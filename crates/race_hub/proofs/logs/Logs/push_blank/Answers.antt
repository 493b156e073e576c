use Rattle.std.proofs.Common.{ap}
use Rattle.race_hub.{specs.Tracks.TrackState, proofs.LogsLemmas.fresh_push}
use Rattle.race_hub.proofs.logs.Logs.push_blank.Goals as goal

pub invariant_of-self : goal.invariant_of-self
invariant_of-self g c = rw c.in_err-push.ensures.items c.self.invariant

pub invariant_of-self-2 : goal.invariant_of-self-2
invariant_of-self-2 g c =
    rw c.in_ok-push.ensures.items
    (fresh_push c.self.inside.tracks.items c.new-2.result (ap (λ (t : TrackState). t.passed) c.new-2.ensures) c.self.invariant)
