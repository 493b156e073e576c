use Rattle.std.proofs.Common.{subst}
use Rattle.race_hub.{specs.Tracks.OneHasPassed, proofs.TrackLemmas.all_pass}
use Rattle.race_hub.proofs.track.pass.Goals as goal

pub returns : goal.returns
returns g c =
    all_pass c.args.event.now c.args.tracks.now.items c.pass_by.new.tracks.items c.pass_by-2.new.tracks.items
    (subst (λ who. OneHasPassed who c.args.event.now c.args.tracks.now.items c.pass_by.new.tracks.items) c.asker_of.ensures c.pass_by.ensures)
    (subst (λ who. OneHasPassed who c.args.event.now c.pass_by.new.tracks.items c.pass_by-2.new.tracks.items) c.receiver_of.ensures c.pass_by-2.ensures)
