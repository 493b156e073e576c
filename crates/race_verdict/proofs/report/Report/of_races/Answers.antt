use Rattle.std.proofs.Common.{◌≡◌, ◌==◌, length, vec_len, sym, ap, ◌∙◌, arith}
use Rattle.race_verdict.proofs.RaceLists.{noted_none, noted_some}
use Rattle.race_verdict.proofs.report.Report.of_races.Goals as goal

pub returns-then-is_empty-clause-verdict : goal.returns-then-is_empty-clause-verdict
returns-then-is_empty-clause-verdict g c caps listed legal are =
    let long : length c.args.races.items ≡ vec_len c.args.races = omega arith in
    (legal, noted_none caps listed c.args.races.items are (ap (λ n. n == 0) long ∙ sym c.is_empty.ensures ∙ c.if-is_empty.true))

pub returns-else-is_empty-clause-verdict : goal.returns-else-is_empty-clause-verdict
returns-else-is_empty-clause-verdict g c caps listed legal are =
    let long : length c.args.races.items ≡ vec_len c.args.races = omega arith in
    (legal, noted_some c.args.races.items (ap (λ n. n == 0) long ∙ sym c.is_empty.ensures ∙ c.if-is_empty.false), are)
