use Rattle.race_requests.proofs.PossibleLemmas.{each_row}
use Rattle.race_requests.proofs.laws.each_row_goes_on.Goals as goal

pub returns : goal.returns
returns c = each_row
