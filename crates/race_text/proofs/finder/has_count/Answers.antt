use Rattle.std.proofs.Common.{◌≡◌, is_none, ◌∙◌, arith, rules}
use Rattle.race_text.proofs.CauseLemmas.{counted}
use Rattle.race_text.proofs.finder.has_count.Goals as goal

pub returns : goal.returns
returns c =
    let is : c.is_none.result ≡ is_none c.loop-i.left = search rules in
    is ∙ counted c.loop-i.left c.loop-i._i c.args.count _ c.loop-i.invariant (omega arith) c.loop-i-test.false
