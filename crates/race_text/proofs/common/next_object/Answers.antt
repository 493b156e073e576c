use Rattle.std.proofs.Common.{take, sym}
use Rattle.race_text.{specs.Meaning.named_in, proofs.{CauseLemmas.ok_is, CommonLemmas.says_named}}
use Rattle.race_text.proofs.common.next_object.Goals as goal

pub next_word-requires : goal.next_word-requires
next_word-requires g c = c.requires.marked

pub object_in-requires-clause-decls : goal.object_in-requires-clause-decls
object_in-requires-clause-decls g c = c.requires.decls

pub object_in-requires-clause-len : goal.object_in-requires-clause-len
object_in-requires-clause-len g c = c.in_ok-len.ensures.cut.within

pub object_in-requires-clause-seen : goal.object_in-requires-clause-seen
object_in-requires-clause-seen g c = c.in_ok-len.ensures.cut.is_seen

pub returns-clause-says : goal.returns-clause-says
returns-clause-says g c =
    let ds = c.args.decls.now.declarations in
    let is = ok_is (named_in ds c.args.kind (take c.in_ok-len.len c.args.front.bytes.now)) c.in_ok-named.named (sym c.in_ok-named.ensures) in
    says_named ds c.args.kind c.args.front.bytes.now c.in_ok-len.len c.in_ok-len.behind.bytes.now c.in_ok-named.named
    c.in_ok-len.ensures.cut c.requires.object is

pub returns-clause-marked : goal.returns-clause-marked
returns-clause-marked g c = c.in_ok-len.ensures.marked
