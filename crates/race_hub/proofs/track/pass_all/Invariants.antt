-- The events so far are passed.
use Rattle.std.proofs.Common.{take}
use Rattle.race_hub.specs.Tracks.{HavePassed}
use Rattle.race_hub.proofs.track.pass_all.Given as goal

abbrev pub invariant-loop-event : goal.invariant-loop-event
invariant-loop-event g l = HavePassed (take l.event-index l.events) l.initial.tracks.items l.tracks.items
