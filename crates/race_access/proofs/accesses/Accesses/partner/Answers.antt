use Rattle.std.proofs.Common.{[], ◌∷◌}
use Rattle.race_access.{specs.Kept.note_found, proofs.KeepSteps.greatest_of_both}
use Rattle.race_access.proofs.accesses.Accesses.partner.Goals as goal

pub returns-then-next : goal.returns-then-next
returns-then-next g c =
    let both = greatest_of_both c.args.clock.now (c.in-Few.write ∷ []) (c.in-Few.read ∷ []) (note_found c.unknown.result) (note_found c.unknown-then-next.result)
    c.unknown.ensures c.unknown-then-next.ensures in
    rw (c.in-Few.is, c.if-next.true, c.greater.ensures) both

pub returns-then-next-2 : goal.returns-then-next-2
returns-then-next-2 g c =
    let reads = rw c.deref.ensures.value at c.greatest_unknown.ensures in
    let both = greatest_of_both c.args.clock.now (c.in-Many.write ∷ []) c.in-Many.reads.items (note_found c.unknown-then-next-2.result) (note_found c.greatest_unknown.result)
    c.unknown-then-next-2.ensures reads in
    rw (c.in-Many.is, c.if-next-2.true, c.greater-then-next-2.ensures) both
