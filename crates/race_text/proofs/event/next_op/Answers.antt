use Rattle.race_text.proofs.event.next_op.Goals as goal

pub op_with_value-requires : goal.op_with_value-requires
op_with_value-requires g c = c.requires.decls

pub op_on_one-requires : goal.op_on_one-requires
op_on_one-requires g c = c.requires.decls

pub other_op-requires-clause-decls : goal.other_op-requires-clause-decls
other_op-requires-clause-decls g c = c.requires.decls

pub other_op-requires-clause-few : goal.other_op-requires-clause-few
other_op-requires-clause-few g c = c.requires.few
