use Rattle.std.proofs.Common.{◌≡◌, ◌∙◌, ◌==◌, ◌<◌, ◌+◌, ℕ, refl, Bool, true, false, sym, ap, arith, true≢false, eq-eqb}
use Rattle.std.proofs.{Common.{slice_get, Some}, lemmas.Bool.Decides.nat_tests}
use Rattle.std.proofs.lemmas.Option.{slice_get-get_or, slice_get_within}
use Rattle.race_hub.{specs.Tracks.{TrackState, is_through}, proofs.TrackLemmas.{through_is_part, other_is_no_part}}
use Rattle.race_requests.proofs.ChoiceLemmas.{some_is}
use Rattle.race_hub.proofs.track.first_other.Goals as goal

pub loop-goroutine-init : goal.loop-goroutine-init
loop-goroutine-init g c = record { passed = λ k t less at. absurd (omega (arith, less)) }

pub returns-then-not-is_through : goal.returns-then-not-is_through
returns-then-not-is_through g c events tracked =
    let at = slice_get-get_or c.args.tracks.now c.loop-goroutine.goroutine c.index-tracks-goroutine.result c.loop-goroutine-test.true
    ∙ ap Some (sym c.index-tracks-goroutine.is) in (
      (
        c.index-tracks-goroutine.result,
        at,
        other_is_no_part c.loop-goroutine.goroutine c.index-tracks-goroutine.result events (sym c.if-not-is_through.ensures)
            (tracked c.loop-goroutine.goroutine c.index-tracks-goroutine.result at),
      ),
      λ k t less there. through_is_part k t events (c.loop-goroutine.invariant.passed k t less there) (tracked k t there),
    )

pub loop-goroutine-preserved : goal.loop-goroutine-preserved
loop-goroutine-preserved g c = record { passed = λ k t less there. by k t less there (k == c.loop-goroutine.goroutine) refl }
  where
    by : (k : ℕ) (t : TrackState) → k < c.loop-goroutine.goroutine + 1 → slice_get c.args.tracks.now k ≡ Some t → (b : Bool)
        → (k == c.loop-goroutine.goroutine) ≡ b → is_through t ≡ true
    by k t less there true test =
        let same : k ≡ c.loop-goroutine.goroutine = grind (arith, nat_tests) in
        let at = slice_get-get_or c.args.tracks.now c.loop-goroutine.goroutine c.index-tracks-goroutine.result c.loop-goroutine-test.true
        ∙ ap Some (sym c.index-tracks-goroutine.is) in
        ap is_through (some_is (sym there ∙ ap (slice_get c.args.tracks.now) same ∙ at)) ∙ sym c.if-not-is_through.ensures
    by k t less there false test =
        let other : k ≡ c.loop-goroutine.goroutine → ⊥ = λ same. true≢false (sym (eq-eqb k c.loop-goroutine.goroutine same) ∙ test) in
        c.loop-goroutine.invariant.passed k t (omega (arith, less, other)) there

pub returns : goal.returns
returns g c events tracked k t there =
    let within = slice_get_within c.args.tracks.now k t there in
    let all = c.loop-goroutine-test.false in
    through_is_part k t events (c.loop-goroutine.invariant.passed k t (omega (arith, within, all)) there) (tracked k t there)
