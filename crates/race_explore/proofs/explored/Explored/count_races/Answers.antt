use Rattle.std.proofs.Common.{ℕ, false, refl, ◌≡◌, ◌++◌, List, [], ◌∷◌, length, map, arith, ap, sym, ◌∙◌, subst}
use Rattle.std.{proofs.{Common.get_or, lemmas.Option.slice_get-get_or}}
use Rattle.race_records.specs.declared.event.Event.{Event}
use Rattle.race_model.specs.Verdict.{Verdict, Races}
use Rattle.race_verdict.specs.declared.{races.Race.Race, verdict.Verdict.{Verdict as Found}}
use Rattle.race_verdict.specs.{Races.race_of, Traces.HasVerdict, Verdicts.verdict_of}
use Rattle.race_explore.specs.{Looked.{AreAccesses, looked_of, trace_of}, Told.{AreRacy, CountsRace, is_racy_on}}
use Rattle.race_explore.proofs.NotingLemmas.{IsNoting, no_race_told, noting_begins, noting_fits, noting_goes_on, noting_ends, race_accesses}
use Rattle.race_explore.proofs.explored.Explored.count_races.Goals as goal

pub loop-race-init : goal.loop-race-init
loop-race-init g c = noting_begins c.args.self.now c.args.picks.now c.args.recording.now c.as_slice-race-items.result.now c.requires.few

pub count_race-requires-clause-few : goal.count_race-requires-clause-few
count_race-requires-clause-few g c =
    noting_fits c.args.self.now c.args.picks.now c.args.recording.now c.as_slice-race-items.result.now c.loop-race.race-index c.loop-race.self
    c.loop-race.invariant c.requires.bounded.runs (omega arith)

pub count_race-requires-clause-accesses : goal.count_race-requires-clause-accesses
count_race-requires-clause-accesses g c =
    let items = c.as_slice-race-items.result.now in
    let k = c.loop-race.race-index in
    let no_race : Race = record { var = 0; first = 0; second = 0 } in
    let race : Race = get_or items k no_race in
    let right = subst (λ (v : Found g.row.A.Denot). HasVerdict (trace_of c.args.recording.now) (verdict_of v)) c.in-Races.is c.requires.right in
    let of_items = subst (λ (races : List Race). HasVerdict (trace_of c.args.recording.now) (Races (map race_of races))) (sym c.as_slice-race-items.ensures) right in
    subst (λ (events : List Event). AreAccesses events (race_of race)) (sym c.trace.ensures.events)
    (race_accesses c.args.self.now c.args.picks.now c.args.recording.now items k race (slice_get-get_or items k no_race c.loop-race-test.true) of_items)

pub loop-race-preserved : goal.loop-race-preserved
loop-race-preserved g c =
    let items = c.as_slice-race-items.result.now in
    let k = c.loop-race.race-index in
    let no_race : Race = record { var = 0; first = 0; second = 0 } in
    let race : Race = get_or items k no_race in
    let right = subst (λ (v : Found g.row.A.Denot). HasVerdict (trace_of c.args.recording.now) (verdict_of v)) c.in-Races.is c.requires.right in
    let of_items = subst (λ (races : List Race). HasVerdict (trace_of c.args.recording.now) (Races (map race_of races))) (sym c.as_slice-race-items.ensures) right in
    let counts = subst (λ (events : List Event). CountsRace events c.args.picks.now (race_of race) c.loop-race.self.racy.items c.count_race.new.self.racy.items)
    c.trace.ensures.events c.in_ok-count_race.ensures.racy in
    noting_goes_on c.args.self.now c.args.picks.now c.args.recording.now items k race (slice_get-get_or items k no_race c.loop-race-test.true) of_items
    c.loop-race.self c.count_race.new.self c.loop-race.invariant c.in_ok-count_race.ensures.same c.in_ok-count_race.ensures.bad counts

pub returns-clause-racy : goal.returns-clause-racy
returns-clause-racy g c = λ seen are.
    let items = c.as_slice-race-items.result.now in
    let all : c.loop-race.race-index ≡ length items = omega arith in
    let ended = subst (λ (n : ℕ). IsNoting c.args.self.now c.args.picks.now c.args.recording.now items n c.loop-race.self) all c.loop-race.invariant in
    subst (λ (v : Verdict). AreRacy (seen ++ record { picks = c.args.picks.now; run = c.args.recording.now; verdict = v } ∷ []) c.loop-race.self.racy.items)
    (ap (λ (races : List Race). Races (map race_of races)) c.as_slice-race-items.ensures ∙ ap verdict_of (sym c.in-Races.is))
    (noting_ends c.args.self.now c.args.picks.now c.args.recording.now items c.loop-race.self ended seen are)

-- a verdict that has no races
not_racy : {A : Type 0} (verdict : Found A) → ((races : List Race) → verdict ≡ Found.Races races → ⊥) → (x : ℕ) → is_racy_on x (verdict_of verdict) ≡ false
not_racy (Found.Races races) none x = absurd (none races refl)
not_racy Found.Clean none x = refl
not_racy (Found.Illegal illegal) none x = refl

pub returns-in_default-clause-racy : goal.returns-in_default-clause-racy
returns-in_default-clause-racy g c = λ seen are.
    no_race_told seen (looked_of c.args.picks.now c.args.recording.now c.args.verdict.now) c.args.self.now.racy.items
    (not_racy c.args.verdict.now c.in_default.not-Races) are
