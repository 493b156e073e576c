use Rattle.std.proofs.{Common.{eqb, w8, arith}, lemmas.Simd.{bitmask_splat, length-chunk}}
use lib.Lanes.{chunk}
use Rattle.race_text.proofs.lanes.equal_in.Goals as goal

pub returns : goal.returns
returns c =
    let v = chunk c.args.at 64 c.args.bytes.now in
    bitmask_splat w8 eqb v 64 c.args.byte (length-chunk c.args.at 64 c.args.bytes.now c.requires) (omega arith)
