use Rattle.std.proofs.Common.{◌≡◌, drop, None}
use Rattle.race_text.{specs.Words.parts_left, proofs.CauseLemmas.cause_on}
use Rattle.race_text.proofs.fields.fields_cause.Given as goal

abbrev pub invariant-loop-field : goal.invariant-loop-field
invariant-loop-field g l =
    cause_on l.decls.declarations l.least (drop l.field-index l.fields) (parts_left 32 l.left)
    ≡ cause_on l.decls.declarations None l.fields (parts_left 32 l.fn.rest)
