use Rattle.race_explore.proofs.NotingLemmas.{IsNoting}
use Rattle.race_explore.proofs.explored.Explored.count_races.Given as goal

-- so many races are noted
abbrev pub invariant-loop-race : goal.invariant-loop-race
invariant-loop-race g l = IsNoting l.fn.self l.picks l.recording l.race-items l.race-index l.self
