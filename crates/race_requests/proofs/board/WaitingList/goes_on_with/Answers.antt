-- The replay stands for the events so far.
use Rattle.std.proofs.Common.{ap, ◌∙◌}
use Rattle.race_records.specs.Declarations.{capacity_of}
use Rattle.race_requests.specs.Choices.{is_legal_next, meet_event}
use Rattle.race_requests.proofs.WaitingLemmas.{same_channels, who_is_in_range, ask_is}
use Rattle.race_requests.proofs.board.WaitingList.goes_on_with.Goals as goal

pub can_meet-requires-clause-same : goal.can_meet-requires-clause-same
can_meet-requires-clause-same g c =
    same_channels c.run.result.1.now.declarations c.run.result.0.now c.args.self.now.past c.run.ensures.stands

pub can_meet-requires-clause-who : goal.can_meet-requires-clause-who
can_meet-requires-clause-who g c =
    who_is_in_range c.run.result.1.now.declarations c.run.result.0.now c.args.self.now.past c.run.ensures.stands c.args.sender.now (rw c.run.ensures.declarations c.requires.sender)

pub can_meet-requires-clause-whom : goal.can_meet-requires-clause-whom
can_meet-requires-clause-whom g c =
    who_is_in_range c.run.result.1.now.declarations c.run.result.0.now c.args.self.now.past c.run.ensures.stands c.args.receiver.now
    (rw c.run.ensures.declarations c.requires.receiver)

pub can_meet-requires-clause-range : goal.can_meet-requires-clause-range
can_meet-requires-clause-range g c =
    ask_is c.run.result.1.now.declarations c.run.result.0.now c.args.self.now.past c.run.ensures.stands c.args.sender.now (rw c.run.ensures.declarations c.requires.sender)

pub returns : goal.returns
returns g c =
    c.can_meet.ensures c.args.self.now.past c.run.ensures.stands
    ∙ ap (λ ds. is_legal_next (capacity_of ds) c.args.self.now.past (meet_event c.args.sender.now c.args.branch c.args.receiver.now c.args.other_branch))
    c.run.ensures.declarations
