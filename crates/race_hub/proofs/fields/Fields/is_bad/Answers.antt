use Rattle.std.proofs.Common.{◌≡◌, ◌∙◌, ◌&&◌, ◌||◌, true, not, subst, sym, ap}
use Rattle.std.specs.Prelude.{is_none}
use Rattle.race_requests.{specs.Sound.{is_sound, is_out_of_turn}, proofs.WaitingLemmas.{who_is_in_range, ask_is}}
use Rattle.race_hub.{specs.{HubHolds.hub_state}, proofs.{TableLemmas.both_true, EndLemmas.none_of}}
use Rattle.race_hub.proofs.fields.Fields.is_bad.Given as given
use Rattle.race_hub.proofs.fields.Fields.is_bad.Goals as goal
use Rattle.race_hub.proofs.fields.Fields.is_bad.Goals.{After-as_slice}

-- the request was found sound
sound : (g : given.Over) (c : goal.After-as_slice g) → is_sound c.args.self.now.trace.decls c.args.waiter.now ≡ true
sound g c = subst (λ d. is_sound d c.args.waiter.now ≡ true) c.decls.ensures.decls (sym c.is_sound.ensures ∙ c.if-not-is_sound.false)

pub is_out_of_turn-requires-clause-who : goal.is_out_of_turn-requires-clause-who
is_out_of_turn-requires-clause-who g c =
    who_is_in_range c.args.self.now.trace.decls.declarations c.args.self.now.replay c.args.self.now.trace.events c.requires c.args.waiter.now (both_true _ _ (sound g c)).0

pub is_out_of_turn-requires-clause-range : goal.is_out_of_turn-requires-clause-range
is_out_of_turn-requires-clause-range g c =
    ask_is c.args.self.now.trace.decls.declarations c.args.self.now.replay c.args.self.now.trace.events c.requires c.args.waiter.now (both_true _ _ (sound g c)).0

pub returns : goal.returns
returns g c =
    let h = hub_state c.args.self.now in
    let w = c.args.waiter.now in
    let none = ap is_none (sym c.stop.ensures ∙ none_of c.stop.result (sym c.is_some.ensures ∙ c.if-is_some.false)) in
    let fine = sound g (goal.at.returns g c).After-as_slice in
    c.is_out_of_turn.ensures h.decls.declarations h.events c.requires
    ∙ ap (λ ws. is_out_of_turn h.events ws w.who w.asked.ask) c.as_slice.ensures.value
    ∙ (λ i. sym none i && (not (sym fine i) || is_out_of_turn h.events h.waiting w.who w.asked.ask))
