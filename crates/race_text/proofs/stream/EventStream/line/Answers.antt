use Rattle.std.proofs.Common.{arith}
use Rattle.race_text.proofs.StreamLemmas.{next_line, few_lines}
use Rattle.race_text.proofs.stream.EventStream.line.Goals as goal

pub overflow_add-result : goal.overflow_add-result
overflow_add-result g c = let few = few_lines c.args.self.now c.requires in omega (arith, few)

pub returns : goal.returns
returns g c = λ past lines S.
    let all = next_line c.args.self.now past lines S in
    omega (arith, all)
