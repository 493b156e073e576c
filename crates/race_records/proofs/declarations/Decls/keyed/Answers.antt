use Rattle.race_records.proofs.DeclsKept.{empty_numbered, empty_well_formed}
use Rattle.race_records.proofs.declarations.Decls.keyed.Goals as goal

pub invariant_of-result : goal.invariant_of-result
invariant_of-result g c =
    rw (c.new.ensures, c.new-2.ensures, c.new-3.ensures) (record { numbered = empty_numbered; well_formed = empty_well_formed })
