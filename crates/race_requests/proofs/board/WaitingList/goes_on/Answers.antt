-- The replay stands for the events so far.
use Rattle.std.proofs.Common.{ap, ◌∙◌}
use Rattle.race_records.specs.Declarations.{capacity_of}
use Rattle.race_requests.specs.Choices.{is_legal_next, lone_event}
use Rattle.race_requests.proofs.WaitingLemmas.{same_channels, who_is_in_range, ask_is}
use Rattle.race_requests.proofs.board.WaitingList.goes_on.Goals as goal

pub can_go_on-requires-clause-same : goal.can_go_on-requires-clause-same
can_go_on-requires-clause-same g c =
    let r = c.run.result in same_channels r.1.now.declarations r.0.now c.args.self.now.past c.run.ensures.stands

pub can_go_on-requires-clause-who : goal.can_go_on-requires-clause-who
can_go_on-requires-clause-who g c =
    let r = c.run.result in
    who_is_in_range r.1.now.declarations r.0.now c.args.self.now.past c.run.ensures.stands c.args.waiter.now (rw c.run.ensures.declarations c.requires)

pub can_go_on-requires-clause-range : goal.can_go_on-requires-clause-range
can_go_on-requires-clause-range g c =
    let r = c.run.result in
    ask_is r.1.now.declarations r.0.now c.args.self.now.past c.run.ensures.stands c.args.waiter.now (rw c.run.ensures.declarations c.requires)

pub returns : goal.returns
returns g c =
    c.can_go_on.ensures c.args.self.now.past c.run.ensures.stands
    ∙ ap (λ ds. is_legal_next (capacity_of ds) c.args.self.now.past (lone_event c.args.self.now.past c.args.waiter.now c.args.branch)) c.run.ensures.declarations
