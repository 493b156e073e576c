-- A block is at most what is missing, so there is room for it, and it is written out.
use Rattle.std.proofs.Common.{◌≡◌, ◌+◌, ◌≤◌, ◌++◌, take, length, replicate, arith}
use Rattle.race_clock.proofs.{JoinLemmas.padded_on, FillLemmas.{when_ok, room, most}}
use Rattle.race_clock.proofs.clock.fill.Goals as goal

pub loop-zeros-preserved : goal.loop-zeros-preserved
loop-zeros-preserved g c =
    let small : c.min-more.result ≤ 64 = omega arith in
    let missing : length c.loop-zeros.counts.items + c.min-more.result ≤ c.args.to = omega arith in
    let fits : c.args.to ≤ c.loop-zeros.counts.capacity = omega (arith, c.requires.room, c.loop-zeros.invariant.2) in
    let is : c.extend_from_slice-fits.new.self.items ≡ c.loop-zeros.counts.items ++ take c.min-more.result (replicate 64 0) =
    when_ok c.extend_from_slice-fits.result
    (c.extend_from_slice-fits.new.self.items ≡ c.loop-zeros.counts.items ++ take c.min-more.result (replicate 64 0))
    c.extend_from_slice-fits.ensures.ok
    (c.extend_from_slice-fits.ensures.succeeds
    (room c.loop-zeros.counts.items c.min-more.result c.args.to c.loop-zeros.counts.capacity small missing fits)) in (
      padded_on c.args.counts.now.items c.loop-zeros.counts.items c.extend_from_slice-fits.new.self.items c.min-more.result 64 small
          c.loop-zeros.invariant.0 is,
      most c.args.counts.now.items c.loop-zeros.counts.items c.extend_from_slice-fits.new.self.items c.min-more.result c.args.to small missing is,
      omega (arith, c.extend_from_slice-fits.ensures.capacity, c.loop-zeros.invariant.2),
    )
