use Rattle.race_text.proofs.common.next_value.Goals as goal

pub next_word-requires : goal.next_word-requires
next_word-requires c = c.requires

pub returns-clause-marked : goal.returns-clause-marked
returns-clause-marked c = c.in_ok-len.ensures.marked
