use Rattle.std.proofs.{Common.{false, arith, ap}, lemmas.List.get_or_default}
use Rattle.race_access.{specs.declared.access.Access.Access, proofs.RisingSteps.never_fall}
use Rattle.race_access.proofs.accesses.place_in_few.Goals as goal

pub returns-else-reads-place : goal.returns-else-reads-place
returns-else-reads-place c =
    let reads = c.args.reads.now in
    let none : Access = record { at = 0; who = 0; count = 0; place = 0; write = false } in (
      c.loop-place.invariant.0,
      (
        c.loop-place.invariant.1,
        λ k d le within.
            let up = never_fall reads c.requires c.loop-place.place k none le within in
            let same = ap (λ (e : Access). e.who) (get_or_default reads k d none within) in
            let least = c.if-reads-place.false in
            omega (arith, up, same, least),
      ),
    )
