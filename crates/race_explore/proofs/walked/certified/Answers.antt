use Rattle.std.proofs.Common.{refl, sym, true≢false}
use Rattle.race_explore.proofs.walked.certified.Goals as goal

pub returns-in-Ok-clause-run : goal.returns-in-Ok-clause-run
returns-in-Ok-clause-run g c = c.in-Ok.ensures.run.0 refl

pub returns-in-Err-clause-none : goal.returns-in-Err-clause-none
returns-in-Err-clause-none g c = λ is. true≢false (sym (c.in-Err.ensures.run.1 is))
