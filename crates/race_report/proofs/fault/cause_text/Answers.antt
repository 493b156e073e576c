use Rattle.std.proofs.Common.{rules}
use Rattle.race_report.proofs.fault.cause_text.Goals as goal

pub returns-in-Unknown : goal.returns-in-Unknown
returns-in-Unknown c = search rules steps 300000
