use Rattle.std.proofs.Common.{◌≡◌, ◌++◌, ◌∷◌, [], ◌∙◌, ap}
use Rattle.race_hub.{specs.Log.{LogState, steps_of}, proofs.LogLemmas.steps_pushed}
use Rattle.race_hub.proofs.log.Log.push_reserved.Goals as goal

pub returns : goal.returns
returns g c =
    let asked = c.self.inside.asked.items in
    let told = c.self.inside.told.items in
    (λ i. steps_of (c.push_reserved.ensures i) (c.push_reserved-2.ensures.items i))
    ∙ steps_pushed asked told c.args.step.asked c.told_of.result c.self.invariant
    ∙ (λ i. steps i ++ record { asked = c.args.step.asked; told = c.told_of.ensures i } ∷ [])
  where
    steps : steps_of c.self.inside.asked.items c.self.inside.told.items ≡ c.args.self.now.items
    steps = ap (λ (l : LogState). l.items) c.self.view_is
