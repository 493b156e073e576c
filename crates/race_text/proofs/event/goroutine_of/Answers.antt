use Rattle.std.proofs.Common.{rules}
use Rattle.race_text.proofs.event.goroutine_of.Goals as goal

pub returns-in-Object-Goroutine : goal.returns-in-Object-Goroutine
returns-in-Object-Goroutine c = search rules steps 100000
