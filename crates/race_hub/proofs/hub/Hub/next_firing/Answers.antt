use Rattle.std.proofs.{Common.{◌≡◌, ◌∙◌, ap, sym, Some, None, subst}, lemmas.Option.none-some}
use Rattle.race_requests.specs.{Choices.event_of, Search.picked}
use Rattle.race_hub.{specs.{Firing.{HasSomeRows, HasRows}, Hub.choices_of}, proofs.FiringLemmas.nothing_by}
use Rattle.race_hub.proofs.FiringLemmas.{picked_is_possible, picked_rows, picked_firing}
use Rattle.race_requests.specs.Waiting as list
use Rattle.race_hub.proofs.hub.Hub.next_firing.Goals as goal

pub returns-in_default-clause-none : goal.returns-in_default-clause-none
returns-in_default-clause-none g c _ =
    nothing_by c.pick.result (choices_of c.args.self.now) c.args.pick
    (c.pick.ensures ∙ ap (λ l. picked c.args.pick (list.choices_of l)) c.list-list.ensures.list) c.in_default.is

pub unreachable-requires : goal.unreachable-requires
unreachable-requires g c =
    let h = c.args.self.now in
    let is : picked c.args.pick (choices_of h) ≡ Some c.in-Some.choice =
    ap (λ l. picked c.args.pick (list.choices_of l)) (sym c.list-list.ensures.list) ∙ sym c.pick.ensures ∙ c.in-Some.is in
    let p = picked_is_possible h c.args.pick c.in-Some.choice is in
    let none : event_of h.events h.waiting c.in-Some.choice ≡ None =
    ap (λ l. event_of l.past l.waiting c.in-Some.choice) (sym c.list-list.ensures.list) ∙ sym c.event_of.ensures ∙ c.in_default-event_of.is in
    absurd (none-some p.e (sym none ∙ p.makes))

pub firing_of-requires : goal.firing_of-requires
firing_of-requires g c =
    let h = c.args.self.now in
    let is : picked c.args.pick (choices_of h) ≡ Some c.in-Some.choice =
    ap (λ l. picked c.args.pick (list.choices_of l)) (sym c.list-list.ensures.list) ∙ sym c.pick.ensures ∙ c.in-Some.is in
    let makes : event_of h.events h.waiting c.in-Some.choice ≡ Some c.in-Some-event_of.event =
    ap (λ l. event_of l.past l.waiting c.in-Some.choice) (sym c.list-list.ensures.list) ∙ sym c.event_of.ensures ∙ c.in-Some-event_of.is in
    subst (λ ws. HasSomeRows ws c.in-Some.choice c.in-Some-event_of.event) (sym c.requests.ensures)
    (picked_rows h c.args.pick c.in-Some.choice c.in-Some-event_of.event is makes)

pub returns-clause-some : goal.returns-clause-some
returns-clause-some g c =
    let h = c.args.self.now in
    let f = c.firing_of.result in
    let is : picked c.args.pick (choices_of h) ≡ Some c.in-Some.choice =
    ap (λ l. picked c.args.pick (list.choices_of l)) (sym c.list-list.ensures.list) ∙ sym c.pick.ensures ∙ c.in-Some.is in
    let makes : event_of h.events h.waiting c.in-Some.choice ≡ Some c.in-Some-event_of.event =
    ap (λ l. event_of l.past l.waiting c.in-Some.choice) (sym c.list-list.ensures.list) ∙ sym c.event_of.ensures ∙ c.in-Some-event_of.is in
    let chosen : picked c.args.pick (choices_of h) ≡ Some f.choice = is ∙ ap Some (sym c.firing_of.ensures.choice) in
    let made : event_of h.events h.waiting f.choice ≡ Some f.event =
    ap (event_of h.events h.waiting) c.firing_of.ensures.choice ∙ makes ∙ ap Some (sym c.firing_of.ensures.event) in
    let rows : HasRows h.waiting f.choice f.event f.told f.partner =
    rw (c.firing_of.ensures.choice, c.firing_of.ensures.event)
    (subst (λ ws. HasRows ws c.in-Some.choice c.in-Some-event_of.event f.told f.partner) c.requests.ensures c.firing_of.ensures.rows) in
    (chosen, picked_firing h c.args.pick f chosen made rows c.list-list.ensures.sound c.list-list.ensures.kept c.list-list.ensures.count)
