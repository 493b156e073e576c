-- The replay stands for the events so far.
use Rattle.race_requests.proofs.WaitingLemmas.{ask_is}
use Rattle.race_requests.proofs.board.WaitingList.event_alone.Goals as goal

pub lone_event-requires : goal.lone_event-requires
lone_event-requires g c =
    let r = c.run.result in
    ask_is r.1.now.declarations r.0.now c.args.self.now.past c.run.ensures.stands c.args.waiter.now
    (rw c.run.ensures.declarations c.requires)

pub returns : goal.returns
returns g c = c.lone_event.ensures c.run.result.1.now.declarations c.args.self.now.past c.run.ensures.stands
