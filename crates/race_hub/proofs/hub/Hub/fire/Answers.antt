use Rattle.std.proofs.Common.{◌≡◌, None, sym, subst, ◌∙◌}
use Rattle.race_hub.{specs.{Hub.stop_of, HubHolds.hub_state, Fires.Fires, Firing.IsFiring}, proofs.EndLemmas.{none_of, runs_on}}
use Rattle.race_hub.proofs.hub.Hub.fire.Given as given
use Rattle.race_hub.proofs.hub.Hub.fire.Goals as goal
use Rattle.race_hub.proofs.hub.Hub.fire.Goals.{Else-is_some}

-- nothing stops the hub
on : (g : given.Over) (c : goal.Else-is_some g) → stop_of c.args.self.now ≡ None
on g c = sym c.stop.ensures ∙ none_of c.stop.result (sym c.is_some.ensures ∙ c.if-is_some.false)

pub perform-requires-clause-on : goal.perform-requires-clause-on
perform-requires-clause-on g c = subst (λ h. stop_of h ≡ None) (sym c.self.view_is) (on g (goal.at.perform-requires-clause-on g c).Else-is_some)

pub perform-requires-clause-firing : goal.perform-requires-clause-firing
perform-requires-clause-firing g c = subst (λ h. IsFiring h c.in-Some.firing) (sym c.self.view_is) c.in-Some.ensures.some.1

pub returns-in_ok-perform-in-Some-clause-fired : goal.returns-in_ok-perform-in-Some-clause-fired
returns-in_ok-perform-in-Some-clause-fired g c _ =
    let t = c.in-Some.firing.choice in
    let chosen = c.in-Some.ensures.some.0 in
    record {
      t = t;
      running = runs_on c.args.self.now c.args.pick t (on g (goal.at.returns-in_ok-perform-in-Some-clause-fired g c).Else-is_some) chosen;
      chosen = chosen;
      fires = subst (λ h. Fires h t (hub_state c.perform.new.self)) c.self.view_is c.in_ok-perform-in-Some.ensures.ok.0;
    }

pub returns-in-None-clause-fired : goal.returns-in-None-clause-fired
returns-in-None-clause-fired g c is = absurd cc
