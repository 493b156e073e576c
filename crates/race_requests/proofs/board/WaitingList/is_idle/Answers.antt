-- Nobody takes what it may hand over.
use Rattle.race_records.specs.Declarations.{capacity_of}
use Rattle.race_requests.proofs.IdleLemmas.{meets_nobody}
use Rattle.race_requests.proofs.board.WaitingList.is_idle.Goals as goal

pub returns-then-is_stopped-clause-meets : goal.returns-then-is_stopped-clause-meets
returns-then-is_stopped-clause-meets g c untaken branch =
    meets_nobody (capacity_of c.args.self.now.declarations) c.args.self.now.past c.args.self.now.waiting c.at-waiter.result.now c.args.place branch
    c.at-waiter.ensures.found (c.has_no_taker.ensures untaken branch)
