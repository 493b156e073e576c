-- The replay stands for the events so far.
use Rattle.std.proofs.Common.{◌≡◌, false, subst}
use Rattle.race_records.specs.Declarations.{capacity_of}
use Rattle.race_requests.{specs.Choices.{is_legal_next, lone_event}, proofs.IdleLemmas.none_goes_on}
use Rattle.race_requests.proofs.WaitingLemmas.{same_channels, ask_is}
use Rattle.race_requests.proofs.board.WaitingList.is_stopped.Goals as goal

pub is_held_up-requires-clause-same : goal.is_held_up-requires-clause-same
is_held_up-requires-clause-same g c =
    let r = c.run.result in same_channels r.1.now.declarations r.0.now c.args.self.now.past c.run.ensures.stands

pub is_held_up-requires-clause-range : goal.is_held_up-requires-clause-range
is_held_up-requires-clause-range g c =
    let r = c.run.result in
    ask_is r.1.now.declarations r.0.now c.args.self.now.past c.run.ensures.stands c.args.waiter.now (rw c.run.ensures.declarations c.requires)

pub returns : goal.returns
returns g c held branch =
    let past = c.args.self.now.past in
    let w = c.args.waiter.now in
    subst (λ ds. is_legal_next (capacity_of ds) past (lone_event past w branch) ≡ false) c.run.ensures.declarations
    (none_goes_on (capacity_of c.run.result.1.now.declarations) past w branch (c.is_held_up.ensures past c.run.ensures.stands held w.who branch))
