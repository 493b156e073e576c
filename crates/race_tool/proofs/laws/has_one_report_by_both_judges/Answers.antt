use Rattle.std.proofs.Common.{true, false, refl}
use Rattle.race_tool.proofs.OneReport.{one_report}
use Rattle.race_tool.proofs.laws.has_one_report_by_both_judges.Goals as goal

pub returns : goal.returns
returns c f g plain clocked told = one_report c.args._bytes.now true false f g (λ usage is. absurd (told usage)) (λ is. refl) plain clocked
