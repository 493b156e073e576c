use Rattle.std.proofs.Common.{◌≡◌, ◌∷◌, [], ◌++◌, ◌∙◌, ap, sym, subst, arith, length, map, Some, None, List}
use Rattle.race_requests.specs.declared.request.Answer.{Answer}
use Rattle.race_hub.specs.{Hub.{HubState, opening}, Holds.Holds}
use Rattle.race_hub.proofs.OpeningLemmas.{holds_opening, first_of, nobody_waits}
use Rattle.race_hub.proofs.hub.Hub.open.Given as given
use Rattle.race_hub.proofs.hub.Hub.open.Goals as goal

abbrev after_of : (g : given.Over) → goal.After-new-3 g → HubState g.row.R.Denot
after_of g c = record {
  decls = c.new-2.result.decls;
  events = c.new-2.result.events;
  limit = c.args.limit;
  routines = c.in_ok-routines.routines.items;
  logs = c.in_ok-routines.logs.logs;
  ready = c.push.new.self.items;
  waiting = c.new-3.result.items;
  out = c.in_ok-out.out.items;
  bad = None;
}

is_opening : (g : given.Over) (c : goal.After-new-3 g) (main : g.row.R.Denot) (others : List g.row.R.Denot) → c.args.routines.items ≡ main ∷ others
    → after_of g c ≡ opening c.args.decls c.args.limit main others
is_opening g c main others all = λ i. record {
  decls = c.new-2.ensures.decls i;
  events = c.new-2.ensures.events i;
  limit = c.args.limit;
  routines = (c.in_ok-routines.ensures.routines ∙ ap (map Some) all) i;
  logs = (c.in_ok-routines.ensures.logs ∙ ap (map (λ _. [])) all) i;
  ready = (c.in_ok-push.ensures.items ∙ ap (λ xs. xs ++ (0, Answer.Begin) ∷ []) c.new-ready.ensures.items) i;
  waiting = c.new-3.ensures.items i;
  out = c.in_ok-out.ensures.items i;
  bad = None;
}

pub invariant_of-result : goal.invariant_of-result
invariant_of-result g c =
    let count = c.requires.count in
    let (main, others, all) = first_of c.args.routines.items (omega (arith, count)) in
    let many = ap length (sym all) in
    let room = c.in_ok-out.ensures.capacity in
    let ready = c.push.ensures.len in
    let fresh = c.new-ready.ensures.len in
    let none = c.in_ok-out.ensures.len in
    let pushed = c.in_ok-push.ensures.len in
    let few = c.count-count.ensures.limited in
    let counted = c.count-count.ensures.count in (
      subst (Holds c.in_ok-replay.replay) (sym (is_opening g c main others all))
          (holds_opening c.in_ok-replay.replay c.args.decls c.args.limit main others c.in_ok-replay.ensures.stands
          c.requires.few (many ∙ count) (omega (arith, many, count, few, counted))),
      omega (arith, room, pushed, fresh, none),
      nobody_waits c.new-3.result.items c.in_ok-routines.logs.have_room c.new-3.ensures.items,
    )

pub returns : goal.returns
returns g c =
    let count = c.requires.count in
    let (main, others, all) = first_of c.args.routines.items (omega (arith, count)) in
    record { main = main; others = others; all = all; hub_is = is_opening g c main others all }
