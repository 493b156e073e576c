use Rattle.race_text.proofs.{MarkLemmas.within_line, CommonLemmas.says_place}
use Rattle.race_text.proofs.common.last_place.Goals as goal

pub bounds-front-len : goal.bounds-front-len
bounds-front-len c = within_line c.args.front.marks c.args.front.bytes.now c.requires c.if-front-eq0.false

pub returns : goal.returns
returns c = says_place c.args.front.marks c.args.front.bytes.now c.requires c.if-front-eq0.false (c.if-len-eq0.false, c.if-front-len-ne10.false)
