use Rattle.std.proofs.Common.{◌++◌, ◌∷◌, [], sym, ap, subst}
use Rattle.race_hub.specs.Tracks.{TrackState, IsPassed}
use Rattle.race_hub.proofs.track.Track.pass.Goals as goal

pub returns-clause-tracked : goal.returns-clause-tracked
returns-clause-tracked g c past tracked =
    subst (λ log. IsPassed c.args.goroutine log (past ++ c.args.event.now ∷ []) c.passed_with-self-inside.result)
    (ap (λ (t : TrackState). t.log) (sym c.self.view_is)) (c.passed_with-self-inside.ensures past tracked)
