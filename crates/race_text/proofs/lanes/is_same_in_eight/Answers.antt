use Rattle.std.proofs.Common.{◌^◌, nat_eq, arith}
use Rattle.std.proofs.lemmas.{Bool.Decides.nat_tests, Simd.length-chunk}
use lib.Lanes.{chunk}
use Rattle.race_text.proofs.LaneLemmas.{same_lanes}
use Rattle.race_text.proofs.lanes.is_same_in_eight.Goals as goal

pub returns : goal.returns
returns c all =
    same_lanes (chunk c.args.at 8 c.args.left.now) (chunk c.args.at 8 c.args.right.now) 8
    (length-chunk c.args.at 8 c.args.left.now c.requires.left) (length-chunk c.args.at 8 c.args.right.now c.requires.right) (omega arith)
    (grind (arith, nat_tests, all))
