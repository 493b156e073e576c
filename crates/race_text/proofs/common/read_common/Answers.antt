use Rattle.std.proofs.Common.{sym}
use Rattle.race_text.{specs.Common.op_of, proofs.CommonLemmas.says_event}
use Rattle.race_text.proofs.common.read_common.Goals as goal

pub returns : goal.returns
returns g c =
    says_event c.args.decls.now.declarations c.args.bytes.now c.in_ok-keyword.front.bytes.now c.in_ok-goroutine.front.bytes.now
    c.in_ok-deed.front.bytes.now c.in_ok-place.rest.now c.in_ok-keyword.keyword c.in_ok-goroutine.goroutine c.in_ok-who.who
    (op_of c.in_ok-deed.deed) c.in_ok-place.place.now
    c.in_ok-keyword.ensures.says c.in_ok-goroutine.ensures.says (sym c.in_ok-who.ensures) c.in_ok-deed.ensures.says c.in_ok-place.ensures

pub next_deed-requires-clause-decls : goal.next_deed-requires-clause-decls
next_deed-requires-clause-decls g c = c.requires

pub next_deed-requires-clause-marked : goal.next_deed-requires-clause-marked
next_deed-requires-clause-marked g c = c.in_ok-goroutine.ensures.marked

pub last_place-requires : goal.last_place-requires
last_place-requires g c = c.in_ok-deed.ensures.marked
