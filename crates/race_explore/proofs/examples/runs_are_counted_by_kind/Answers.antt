use Rattle.std.proofs.Common.{arith}
use Rattle.race_explore.proofs.examples.runs_are_counted_by_kind.Goals as goal

pub returns-clause-counts : goal.returns-clause-counts
returns-clause-counts c = λ e (runs, clean, races, deadlocks, faults).
    record { runs = runs; clean = clean; races = races; deadlocks = deadlocks; faults = faults }

pub returns-clause-race : goal.returns-clause-race
returns-clause-race c = λ e (runs, clean, races, deadlocks, faults) counts. let one = counts.clean in absurd (omega (arith, clean, one))

pub returns-clause-deadlock : goal.returns-clause-deadlock
returns-clause-deadlock c = λ e (runs, clean, races, deadlocks, faults) counts. let two = counts.races in absurd (omega (arith, races, two))
