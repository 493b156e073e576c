use Rattle.race_text.proofs.MarkLemmas.{within_line, cuts_word, rest_is_marked}
use Rattle.race_text.proofs.common.next_word.Goals as goal

pub bounds-front-len : goal.bounds-front-len
bounds-front-len c = within_line c.args.front.marks c.args.front.bytes.now c.requires c.if-front-eq0.false

pub returns-clause-cut : goal.returns-clause-cut
returns-clause-cut c = cuts_word c.args.front.marks c.args.front.bytes.now c.requires c.if-front-eq0.false c.if-front-len-ne32.false

pub returns-clause-marked : goal.returns-clause-marked
returns-clause-marked c = rest_is_marked c.args.front.marks c.args.front.bytes.now c.requires c.if-front-eq0.false
