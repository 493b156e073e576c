use Rattle.std.proofs.Common.{take, sym}
use Rattle.race_text.proofs.{FoundLemmas.found_is_declared, CommonLemmas.says_named, UsedNames.named_by_found}
use Rattle.race_text.proofs.common.next_named.Goals as goal

pub next_word-requires : goal.next_word-requires
next_word-requires g c = c.requires.marked

pub find_at-requires-clause-len : goal.find_at-requires-clause-len
find_at-requires-clause-len g c = c.in_ok-len.ensures.cut.within

pub find_at-requires-clause-visible : goal.find_at-requires-clause-visible
find_at-requires-clause-visible g c = c.in_ok-len.ensures.cut.is_seen

pub returns-clause-says : goal.returns-clause-says
returns-clause-says g c = λ kind object wanted.
    let word = take c.in_ok-len.len c.args.front.bytes.now in
    says_named c.args.decls.now.declarations kind c.args.front.bytes.now c.in_ok-len.len c.in_ok-len.behind.bytes.now c.in_ok-named.named
    c.in_ok-len.ensures.cut object
    (named_by_found c.args.decls.now kind word c.in_ok-named.named c.requires.decls (sym c.in_ok-named.ensures) wanted)

pub returns-clause-declared : goal.returns-clause-declared
returns-clause-declared g c =
    found_is_declared c.args.decls.now.declarations (take c.in_ok-len.len c.args.front.bytes.now) c.in_ok-named.named (sym c.in_ok-named.ensures)

pub returns-clause-marked : goal.returns-clause-marked
returns-clause-marked g c = c.in_ok-len.ensures.marked
