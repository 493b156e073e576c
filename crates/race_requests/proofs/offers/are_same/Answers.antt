use Rattle.std.proofs.Common.{◌≡◌, length, refl, arith}
use Rattle.race_records.proofs.ListLemmas.{same_elements}
use Rattle.race_requests.proofs.offers.are_same.Goals as goal

pub returns : goal.returns
returns c =
    let same : length c.args.offers.now ≡ length c.args.others.now = omega (arith, c.len.ensures.len, c.len-2.ensures.len, c.if-len.false) in (
      λ _. same_elements c.args.offers.now c.args.others.now same (λ i within. c.loop-k.invariant i (omega (arith, within, c.len-k-end.ensures.len))),
      λ _. refl,
    )
