-- The accesses of the races of a right verdict, and the verdict on what is recorded.
use Rattle.std.proofs.Common.{ℕ, ◌≡◌, List, map, Some, slice_get, ap, ◌∙◌, subst}
use Rattle.std.{proofs.lemmas.Option.slice_get-map, specs.Prelude.option_map}
use Rattle.race_records.specs.Events.{TraceState}
use Rattle.race_model.specs.Verdict.{Verdict, Races, IsVerdict}
use Rattle.race_hub.specs.Recording.{RecordingState}
use Rattle.race_records.specs.Declarations.{capacity_of}
use Rattle.race_verdict.specs.{Races.race_of, Traces.HasVerdict}
use Rattle.race_explore.specs.Walk.{AreAccesses, trace_of}
use Rattle.race_verdict.specs.declared.races.Race as tool

-- each race is of accesses of the recording's events
pub race_accesses : (r : RecordingState) (races : List tool.Race) (n : ℕ) (race : tool.Race) → HasVerdict (trace_of r) (Races (map race_of races))
    → slice_get races n ≡ Some race → AreAccesses r.events (race_of race)
race_accesses r races n race right at =
    let conflict = (right.2.each n (race_of race) (slice_get-map race_of races n ∙ ap (option_map race_of) at)).race.conflict in
    (conflict.1, conflict.2)

-- the verdict on a trace with the recording's declarations and events is that on the recording's
pub recorded_verdict : (r : RecordingState) (trace : TraceState) (verdict : Verdict) → trace.decls ≡ r.decls → trace.events ≡ r.events
    → HasVerdict trace verdict → HasVerdict (trace_of r) verdict
recorded_verdict r trace verdict decls events right =
    subst (λ d. IsVerdict (capacity_of d.declarations) r.events verdict) decls
    (subst (λ e. IsVerdict (capacity_of trace.decls.declarations) e verdict) events right)
