use Rattle.std.{proofs.Common.{◌∷◌, [], ℕ, List, Option, sym, subst}, specs.Borrow.Bor}
use Rattle.race_tool.specs.Draw.{AreAsked, HasNoRaceOn, name_in}
use Rattle.race_tool.proofs.{DrawLemmas.{all_in_order, picked_in_order, picked_asked}, WitnessLemmas.none_picked}
use Rattle.race_tool.proofs.draw.Drawing.draw_races.Goals as goal

pub draw-requires-clause-races : goal.draw-requires-clause-races
draw-requires-clause-races g c =
    picked_in_order c.args.trace.now c.in-Some.name.now c.args.races.now c.in-Some-race_on.race c.requires c.in-Some-race_on.ensures

pub draw-requires-in-None-clause-races : goal.draw-requires-in-None-clause-races
draw-requires-in-None-clause-races g c = all_in_order c.args.trace.now c.args.races.now c.requires

pub returns-in_ok-draw-in-Some-race_on : goal.returns-in_ok-draw-in-Some-race_on
returns-in_ok-draw-in-Some-race_on g c =
    let asked = subst (λ (n : Option (Bor (List ℕ))). AreAsked c.args.trace.now (name_in n) (c.in-Some-race_on.race ∷ [])) (sym c.in-Some.is)
    (picked_asked c.args.trace.now c.in-Some.name.now c.args.races.now c.in-Some-race_on.race c.requires c.in-Some-race_on.ensures) in
    λ bytes text. record { trace = c.args.trace.now; text = text; holds = c.in_ok-draw-in-Some-race_on.ensures (name_in c.args.self.now.name) asked }

pub returns-in-None-race_on : goal.returns-in-None-race_on
returns-in-None-race_on g c = λ bytes text. record {
  trace = c.args.trace.now;
  text = text;
  holds = subst (λ (n : Option (Bor (List ℕ))). HasNoRaceOn (name_in n) c.args.trace.now) (sym c.in-Some.is)
      (none_picked c.args.trace.now c.in-Some.name.now c.args.races.now c.requires c.in-None-race_on.ensures);
}

pub returns-in_ok-draw-in-None : goal.returns-in_ok-draw-in-None
returns-in_ok-draw-in-None g c =
    let asked = subst (λ (n : Option (Bor (List ℕ))). AreAsked c.args.trace.now (name_in n) c.args.races.now) (sym c.in-None.is) c.requires in
    λ bytes text. record { trace = c.args.trace.now; text = text; holds = c.in_ok-draw-in-None.ensures (name_in c.args.self.now.name) asked }
