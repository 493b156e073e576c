use Rattle.std.proofs.Common.{◌∙◌, sym, ap, Some}
use Rattle.race_hub.{specs.Logs.LogsState, proofs.LogsLemmas.{fresh_set, log_read, set_log, log_there, keeps_rooms}}
use Rattle.race_hub.proofs.logs.Logs.take.Goals as goal

pub invariant_of-self : goal.invariant_of-self
invariant_of-self g c =
    let at = log_read c.self.inside.tracks.items c.args.self.now.logs c.args.goroutine c.index_mut.result.now
    (ap (λ (s : LogsState). s.logs) c.self.view_is) c.requires c.index_mut.ensures.value in
    fresh_set c.self.inside.tracks.items c.args.goroutine c.replace.new.self
    (c.replace.ensures.passed ∙ c.self.invariant c.args.goroutine c.index_mut.result.now at) c.self.invariant

pub returns-clause-log : goal.returns-clause-log
returns-clause-log g c =
    let at = log_read c.self.inside.tracks.items c.args.self.now.logs c.args.goroutine c.index_mut.result.now
    (ap (λ (s : LogsState). s.logs) c.self.view_is) c.requires c.index_mut.ensures.value in
    log_there c.self.inside.tracks.items c.args.goroutine c.index_mut.result.now c.args.self.now.logs
    (ap (λ (s : LogsState). s.logs) c.self.view_is) at ∙ ap Some (sym c.replace.ensures.old)

pub returns-clause-logs : goal.returns-clause-logs
returns-clause-logs g c =
    set_log c.self.inside.tracks.items c.args.goroutine c.replace.new.self c.args.self.now.logs _
    (ap (λ (s : LogsState). s.logs) c.self.view_is) (c.replace.ensures.log ∙ c.new.ensures)

pub returns-clause-others : goal.returns-clause-others
returns-clause-others g c =
    keeps_rooms c.self.inside.tracks.items c.args.goroutine c.replace.new.self c.args.self.now.have_room
    (ap (λ (s : LogsState). s.have_room) c.self.view_is)
