-- Why all workers leave before the hub has ended.
use Rattle.std.specs.Prelude.{ℕ}
use Rattle.race_record.specs.declared.shared.Stop.{Stop}

-- in which order two of them are told: that a worker could not be started, then want of memory, then that the hub didn't take a job back
abbrev pub rank : Stop → ℕ
rank Stop.NoThread = 0
rank Stop.OutOfMemory = 1
rank Stop.Stray = 2
