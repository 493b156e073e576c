use Rattle.std.proofs.Common.{◌∙◌, ap, Some}
use Rattle.race_hub.specs.{Logs.LogsState, Tracks.TrackState}
use Rattle.race_hub.proofs.{TableLemmas.get_set, LogsLemmas.{fresh_set, within_logs, set_log, track_at, keeps_rooms}}
use Rattle.race_hub.proofs.logs.Logs.put.Goals as goal

pub invariant_of-self : goal.invariant_of-self
invariant_of-self g c =
    fresh_set c.self.inside.tracks.items c.args.goroutine c.new.result (ap (λ (t : TrackState). t.passed) c.new.ensures) c.self.invariant

pub returns-clause-logs : goal.returns-clause-logs
returns-clause-logs g c =
    set_log c.self.inside.tracks.items c.args.goroutine c.new.result c.args.self.now.logs c.args.log.items
    (ap (λ (s : LogsState). s.logs) c.self.view_is) (ap (λ (t : TrackState). t.log) c.new.ensures)

pub returns-clause-room : goal.returns-clause-room
returns-clause-room g c =
    let within = within_logs c.self.inside.tracks.items c.args.self.now.logs c.args.goroutine
    (ap (λ (s : LogsState). s.logs) c.self.view_is) c.requires.within in
    track_at (λ (t : TrackState). t.has_room) _ c.args.goroutine c.new.result (get_set c.self.inside.tracks.items c.args.goroutine c.new.result within)
    ∙ ap Some (ap (λ (t : TrackState). t.has_room) c.new.ensures ∙ c.requires.room)

pub returns-clause-others : goal.returns-clause-others
returns-clause-others g c =
    keeps_rooms c.self.inside.tracks.items c.args.goroutine c.new.result c.args.self.now.have_room
    (ap (λ (s : LogsState). s.have_room) c.self.view_is)
