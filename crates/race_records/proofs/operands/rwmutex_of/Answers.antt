use Rattle.race_records.proofs.operands.rwmutex_of.Goals as goal

pub returns-in-RLock : goal.returns-in-RLock
returns-in-RLock c = cc
