use Rattle.std.proofs.Common.{◌≡◌, Some, None, slice_get, sym, ◌∙◌, true≢false}
use Rattle.race_script.proofs.{PassedLemmas.{waits_here, waits_not, waits_past}, SameAsks.same_ask-Decides}
use Rattle.race_script.proofs.course.Course.asks.Goals as goal

pub returns-then-is_same : goal.returns-then-is_same
returns-then-is_same g c =
    let at : slice_get c.args.self.now.body.now.items c.args.position ≡ Some c.in-Some.asked = sym c.at.ensures ∙ c.in-Some.is in
    waits_here c.args.self.now.places.now.places c.args.self.now.recorded.now.places c.args.self.now.body.now.items c.args.position c.args.request.now
    c.in-Some.asked at ((same_ask-Decides c.in-Some.asked.ask c.args.request.now.ask).0 (sym c.is_same.ensures ∙ c.if-is_same.true))
    c.stand_alike.result c.stand_alike.ensures

pub returns-else-is_same : goal.returns-else-is_same
returns-else-is_same g c =
    let at : slice_get c.args.self.now.body.now.items c.args.position ≡ Some c.in-Some.asked = sym c.at.ensures ∙ c.in-Some.is in (
      λ yes. absurd (true≢false (sym yes ∙ c.if-is_same.false)),
      λ is. absurd (waits_not c.args.self.now.places.now.places c.args.self.now.recorded.now.places c.args.self.now.body.now.items c.args.position c.args.request.now
          c.in-Some.asked at (λ same. true≢false
          (sym ((same_ask-Decides c.in-Some.asked.ask c.args.request.now.ask).1 same) ∙ sym c.is_same.ensures ∙ c.if-is_same.false)) is),
    )

pub returns-in-None : goal.returns-in-None
returns-in-None g c =
    let none : slice_get c.args.self.now.body.now.items c.args.position ≡ None = sym c.at.ensures ∙ c.in-None.is in (
      λ yes. absurd (true≢false (sym yes)),
      λ is. absurd (waits_past c.args.self.now.places.now.places c.args.self.now.recorded.now.places c.args.self.now.body.now.items c.args.position c.args.request.now
          none is),
    )
