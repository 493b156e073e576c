use Rattle.std.proofs.{Common.{◌≡◌, List, Some, take, subst}, lemmas.Option.IfSome_then}
use Rattle.race_records.specs.Tables.{Row, slot_named}
use Rattle.race_records.proofs.names.Names.find_short.Goals as goal

pub returns : goal.returns
returns g c =
    IfSome_then c.get.result c.get.ensures
    (λ slot found. subst (λ (rows : List Row). slot_named (take c.args.len c.args.bytes.now) rows ≡ Some slot) c.self.view_is (found _ c.self.invariant))
