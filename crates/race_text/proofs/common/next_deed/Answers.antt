use Rattle.race_text.{specs.Common.{op_of, object_kind}, proofs.CommonLemmas.says_deed}
use Rattle.race_text.proofs.common.next_deed.Goals as goal

pub next_named-requires-clause-decls : goal.next_named-requires-clause-decls
next_named-requires-clause-decls g c = c.requires.decls

pub next_named-requires-clause-marked : goal.next_named-requires-clause-marked
next_named-requires-clause-marked g c = c.requires.marked

pub next_value-requires : goal.next_value-requires
next_value-requires g c = c.in_ok-object.ensures.marked

pub deed_said-requires : goal.deed_said-requires
deed_said-requires g c = c.in_ok-object.ensures.declared

pub returns-clause-says : goal.returns-clause-says
returns-clause-says g c =
    let keyword = c.args.keyword in
    let object = c.in_ok-object.ensures.says (object_kind keyword) c.in_ok-has_value.ensures.object c.in_ok-deed.ensures.wanted in
    says_deed c.args.decls.now.declarations c.args.front.bytes.now c.in_ok-object.front.bytes.now c.in_ok-value.front.bytes.now
    keyword (object_kind keyword) c.in_ok-has_value.has_value c.in_ok-object.object (op_of c.in_ok-deed.deed) c.in_ok-value.value
    c.in_ok-has_value.ensures.kinds object c.in_ok-value.ensures.says c.in_ok-deed.ensures.op c.in_ok-has_value.ensures.one_place

pub returns-clause-marked : goal.returns-clause-marked
returns-clause-marked g c = c.in_ok-value.ensures.marked
