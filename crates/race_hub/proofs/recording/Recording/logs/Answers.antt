use Rattle.std.proofs.{lemmas.{Grind.elements, Option.{slice_get-get_or, slice_get-map}}, Common.{◌≡◌, ◌∙◌, ◌<◌, ℕ}}
use Rattle.std.{proofs.Common.{sym, ap, subst, length, arith, Some}, specs.Option.option_map}
use Rattle.race_records.specs.{declared.kind.Kind.Kind, Declarations.count_of}
use Rattle.race_hub.specs.{Part.IsPart, RecordingHolds.recording_state, Recording.RecordingState, Tracks.TrackState}
use Rattle.race_hub.proofs.recording.Recording.logs.Goals as goal

within_tracks : (n g : ℕ) (r s : RecordingState) → r ≡ s → n ≡ count_of Kind.Goroutine r.decls.declarations
    → g < count_of Kind.Goroutine s.decls.declarations → g < n
within_tracks n g r s same is less =
    let count = ap (λ (r : RecordingState). count_of Kind.Goroutine r.decls.declarations) same in
    omega (arith, is, less, count)

pub returns-clause-part : goal.returns-clause-part
returns-clause-part g c =
    let within = within_tracks (length c.self.inside.tracks.items) c.args.goroutine (recording_state c.self.inside) c.args.self.now c.self.view_is
    c.self.invariant.count c.requires in
    let at = slice_get-map (λ (t : TrackState). t.log) c.self.inside.tracks.items c.args.goroutine
    ∙ ap (option_map (λ (t : TrackState). t.log))
    (slice_get-get_or c.self.inside.tracks.items c.args.goroutine c.index.result.now within ∙ ap Some (sym c.index.ensures)) in
    subst (IsPart c.args.goroutine c.log.result.now.items) (ap (λ (r : RecordingState). r.events) c.self.view_is)
    (c.self.invariant.parts c.args.goroutine c.log.result.now.items (at ∙ ap Some (sym c.log.ensures)))

pub returns-clause-log : goal.returns-clause-log
returns-clause-log c = grind (arith, elements) steps 1000000
