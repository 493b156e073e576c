use Rattle.std.proofs.{Common.{◌≡◌, ◌≤◌, ◌∙◌, List, arith, length, subst}, lemmas.Result.MatchResult-from_err}
use Rattle.std.specs.Prelude.{⊤}
use Rattle.race_access.{specs.{declared.access.Access.Access, Kept.IsPlaceOf}, proofs.KeepSteps.keeps_inserted}
use Rattle.race_access.proofs.RisingSteps.{still_none, insert_rises}
use Rattle.race_access.proofs.accesses.keep_first.Goals as goal

pub returns-in_err-insert-clause-unchanged : goal.returns-in_err-insert-clause-unchanged
returns-in_err-insert-clause-unchanged g c =
    let full = c.in_err-insert.ensures.full in
    let kept = c.drop_known.ensures.capacity in
    let before = c.args.reads.now.ok in
    let behind = c.drop_known.new.reads.ok in
    let long : length c.args.reads.now.items ≤ length c.drop_known.new.reads.items = omega (arith, full, kept, before.0, before.1, behind.0) in
    MatchResult-from_err c.from_residual.result (λ _. ⊤) (λ _. c.insert.new.self.items ≡ c.args.reads.now.items) c.from_residual.ensures.0
    (λ _. c.in_err-insert.ensures.items ∙ c.drop_known.ensures.kept.unless_all long)

pub returns-clause-ok : goal.returns-clause-ok
returns-clause-ok g c =
    rw c.in_ok-insert.ensures.items
    (keeps_inserted c.args.reads.now.items c.drop_known.new.reads.items _ c.args.access c.args.clock.now c.drop_known.ensures.kept)

pub returns-clause-rising : goal.returns-clause-rising
returns-clause-rising g c =
    let old = c.args.reads.now.items in
    let left = c.drop_known.new.reads.items in
    let who = c.args.access.who in
    let place = subst (λ (reads : List Access). IsPlaceOf reads who c.place_of-place.result) c.deref.ensures.value c.place_of-place.ensures in
    rw c.in_ok-insert.ensures.items
    (insert_rises left c.place_of-place.result c.args.access (c.drop_known.ensures.rising c.requires.rising) place
    (still_none who old left c.args.clock.now c.drop_known.ensures.kept c.requires.first))
