use Rattle.std.proofs.{lemmas.Grind.common_steps, Common.{arith, Result, Ok, Err, OnErr, sym, ◌∙◌, true≢false}}
use Rattle.race_access.proofs.accesses.Accesses.keep.Goals as goal

-- what holds in any case holds where the call failed
in_err : {T E : Type 0} (r : Result T E) (P : Type 0) → P → OnErr r P
in_err (Ok _) P p = tt
in_err (Err _) P p = p

pub returns-else-access-2-clause-ok : goal.returns-else-access-2-clause-ok
returns-else-access-2-clause-ok c = grind (arith, common_steps) steps 300000

pub returns-else-access-2-clause-unchanged : goal.returns-else-access-2-clause-unchanged
returns-else-access-2-clause-unchanged c = grind (arith, common_steps) steps 300000

pub returns-else-access-2-clause-write : goal.returns-else-access-2-clause-write
returns-else-access-2-clause-write g c = λ write. absurd (true≢false (sym write ∙ c.if-access-2.false))

pub returns-in-Raced-clause-ok : goal.returns-in-Raced-clause-ok
returns-in-Raced-clause-ok c = grind (arith, common_steps) steps 300000

pub returns-in-Raced-clause-unchanged : goal.returns-in-Raced-clause-unchanged
returns-in-Raced-clause-unchanged g c = tt
