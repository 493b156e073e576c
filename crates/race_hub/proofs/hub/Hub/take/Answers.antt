use Rattle.std.proofs.{Common.{◌≡◌, ◌==◌, ◌∙◌, length, None, false, sym, ap, subst, arith}}
use Rattle.std.proofs.lemmas.Bool.Decides.{nat_tests}
use Rattle.race_hub.specs.{Hub.{HubState, stop_of}, HubHolds.hub_state, Submits.Takes}
use Rattle.race_hub.proofs.EndLemmas.{end_while_ready, none_of}
use Rattle.race_hub.proofs.hub.Hub.take.Goals as goal

pub returns-clause-some : goal.returns-clause-some
returns-clause-some g c =
    let test : (length c.self.inside.fields.ready.items == 0) ≡ false = grind (arith, nat_tests) in
    let on : stop_of c.args.self.now ≡ None = sym c.stop.ensures ∙ none_of c.stop.result (sym c.is_some.ensures ∙ c.if-is_some.false) in (
      end_while_ready c.args.self.now (ap (λ (h : HubState g.row.R.Denot). length h.ready == 0) (sym c.self.view_is) ∙ test) ∙ on,
      subst (λ h. Takes h c.let_out.result (hub_state c.let_out.new.self)) c.self.view_is c.let_out.ensures.0,
    )
