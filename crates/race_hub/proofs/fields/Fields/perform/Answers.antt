use Rattle.std.proofs.Common.{◌∙◌, ◌-◌, sym, subst, refl, arith}
use Rattle.race_requests.proofs.ChoiceLemmas.{some_is}
use Rattle.race_hub.{specs.{HubHolds.hub_state, Fires.IsPartnerRow}, proofs.PerformLemmas.{AreTaken, can_append, asker_place}}
use Rattle.race_hub.proofs.PerformLemmas.{partner_place, rest_room, partner_keeps, fired}
use Rattle.race_hub.proofs.fields.Fields.perform.Given as given
use Rattle.race_hub.proofs.fields.Fields.perform.Goals as goal
use Rattle.race_hub.proofs.fields.Fields.perform.Goals.{After-take_out-waiter}

pub append-requires : goal.append-requires
append-requires g c = can_append c.requires.holds.0 c.requires.on c.requires.firing.fits

taken : (g : given.Over) (c : goal.After-take_out-waiter g)
    → AreTaken (hub_state c.args.self.now) c.args.firing.choice c.take_out-waiter.result.0 c.take_out-waiter.result.1
taken g c = record {
  asks = c.take_out-waiter.ensures.first;
  second = c.take_out-waiter.ensures.second;
  partner = c.requires.firing.rows.partner;
  apart = c.requires.firing.rows.apart;
  kept = c.requires.holds.0.kept;
}

pub tell-requires-clause-place : goal.tell-requires-clause-place
tell-requires-clause-place g c = asker_place (taken g (goal.at.tell-requires-clause-place g c).After-take_out-waiter) c.args.self.now.logs.have_room c.requires.holds.2

pub tell-requires-2-clause-place : goal.tell-requires-2-clause-place
tell-requires-2-clause-place g c =
    rw c.tell.ensures.routines (partner_place (taken g (goal.at.tell-requires-2-clause-place g c).After-take_out-waiter) c.args.firing.told
    c.args.self.now.logs.have_room c.tell.new.logs.have_room c.requires.holds.2 c.tell.ensures.others)

pub returns-clause-ok : goal.returns-clause-ok
returns-clause-ok g c =
    let old = hub_state c.args.self.now in
    let firing = c.requires.firing in
    let rows = firing.rows in
    let outs = taken g (goal.at.returns-clause-ok g c).After-take_out-waiter in
    let same = some_is (sym outs.asks ∙ rows.asks) in
    let row = subst (λ w. IsPartnerRow w (c.args.firing.choice.partner_offer - 1) c.args.firing.event.op c.args.firing.partner) outs.second rows.partner_row in
    fired (record {
      w = rows.w;
      e = c.args.firing.event;
      told = c.args.firing.told;
      partner_told = c.args.firing.partner;
      asks = rows.asks;
      makes = firing.makes;
      legal = firing.legal;
      row = rows.row;
      partner_row = rows.partner_row;
      routine = firing.routine;
      events = c.in_ok-append.ensures.events;
      waiting = c.take_out-waiter.ensures.list;
      ready = rw (c.begin.ensures.ready, c.tell-2.ensures.ready, c.tell.ensures.ready, c.make_room.ensures.ready)
          (rw (c.started_in-started.ensures, outs.second, ← same) refl);
      routines = rw (c.tell-2.ensures.routines, partner_keeps _ _ _ _ _ row, c.tell.ensures.routines, ← same) refl;
      logs = rw (c.tell-2.ensures.logs, c.tell.ensures.logs, outs.second, ← same) refl;
      same = (c.append.ensures.decls, refl, c.make_room.ensures.out, refl);
    }) rows.partner rows.apart c.requires.holds.0 c.requires.on
    (c.in_ok-append.ensures.goes_on old.decls.declarations old.events c.requires.holds.0.stands)
    (omega (arith, c.begin.ensures.len, c.tell-2.ensures.len, c.tell.ensures.len, c.in_ok-make_room.ensures.turns))
    (rw c.take_out-waiter.ensures.list (rest_room outs c.args.self.now.logs.have_room c.tell.new.logs.have_room c.tell-2.new.logs.have_room
    c.requires.holds.2 c.tell.ensures.others c.tell-2.ensures.others))
