use Rattle.std.proofs.Common.{◌≡◌, true}
use Rattle.race_verdict.proofs.RaceLists.{free_from_none, listed_some}
use Rattle.race_verdict.proofs.verdict.Verdict.of_races.Goals as goal

pub returns-then-is_empty-clause-verdict : goal.returns-then-is_empty-clause-verdict
returns-then-is_empty-clause-verdict g c caps events legal are = (legal, free_from_none caps events c.args.races are (c.is_empty.ensures.0 c.if-is_empty.true))

pub returns-else-is_empty-clause-verdict : goal.returns-else-is_empty-clause-verdict
returns-else-is_empty-clause-verdict g c caps events legal are =
    (legal, listed_some c.args.races (λ none. let empty : c.is_empty.result ≡ true = c.is_empty.ensures.1 none in cc), are)
