use Rattle.std.proofs.Common.{◌∙◌, sym, true≢false}
use Rattle.race_record.proofs.workers.given.Goals as goal

pub returns-then-not-is_same-clause-why : goal.returns-then-not-is_same-clause-why
returns-then-not-is_same-clause-why g c = λ same limit.
    absurd (true≢false (sym (c.is_same.ensures.same same limit) ∙ c.if-not-is_same.true))

pub returns-in-Ok-clause-declared : goal.returns-in-Ok-clause-declared
returns-in-Ok-clause-declared g c = c.is_same.ensures.declared c.if-not-is_same.false
