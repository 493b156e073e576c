use Rattle.race_records.proofs.CaseLemmas.{kept_range}
use Rattle.race_records.proofs.cases.cases_keep_their_range.Goals as goal

pub returns : goal.returns
returns c = kept_range
