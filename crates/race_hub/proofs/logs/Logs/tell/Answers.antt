use Rattle.std.proofs.Common.{◌≡◌, ◌∙◌, ◌++◌, ◌∷◌, [], List, Option, Some, true, sym, ap, unwrap_or, slice_get, arith}
use Rattle.std.proofs.lemmas.Option.{slice_get_within}
use Rattle.race_hub.specs.{Logs.LogsState, Tracks.TrackState}
use Rattle.race_hub.proofs.{TableLemmas.length_map, LogsLemmas.{read_at, set_log, log_there, rooms_of, keeps_rooms}}
use Rattle.race_requests.specs.declared.request.Step.{Step}
use Rattle.race_hub.proofs.logs.Logs.tell.Goals as goal

pub returns-clause-logs : goal.returns-clause-logs
returns-clause-logs g c =
    let tracks = c.self.inside.tracks.items in
    let who = c.args.waiter.who in
    let room : slice_get (rooms_of tracks) who ≡ Some true = ap (λ (s : LogsState). slice_get s.have_room who) c.self.view_is ∙ c.requires in
    let within = slice_get_within (rooms_of tracks) who true room in
    let count = length_map (λ (t : TrackState). t.has_room) tracks in
    let at = read_at tracks who c.index_mut.result.now (omega (arith, within, count)) c.index_mut.ensures.value in
    let log = log_there tracks who c.index_mut.result.now c.args.self.now.logs (ap (λ (s : LogsState). s.logs) c.self.view_is) at in
    set_log tracks who c.push_reserved.new.self c.args.self.now.logs _ (ap (λ (s : LogsState). s.logs) c.self.view_is)
    (c.push_reserved.ensures.log ∙ ap (λ (o : Option (List Step)). unwrap_or o [] ++ record { asked = c.args.waiter.asked; told = c.args.told } ∷ []) (sym log))

pub returns-clause-others : goal.returns-clause-others
returns-clause-others g c =
    keeps_rooms c.self.inside.tracks.items c.args.waiter.who c.push_reserved.new.self c.args.self.now.have_room
    (ap (λ (s : LogsState). s.have_room) c.self.view_is)
