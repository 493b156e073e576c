use Rattle.std.proofs.Common.{length, ap, arith}
use Rattle.race_hub.{specs.Log.LogState, proofs.LogLemmas.steps_len}
use Rattle.race_hub.proofs.log.Log.len.Goals as goal

pub returns : goal.returns
returns g c =
    let len = steps_len c.self.inside.asked.items c.self.inside.told.items c.self.invariant in
    let same = ap (λ (l : LogState). length l.items) c.self.view_is in
    omega (arith, c.len.ensures, c.self.inside.told.ok.0, len, same)
