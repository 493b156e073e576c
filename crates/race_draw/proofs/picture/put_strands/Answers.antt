use Rattle.std.proofs.Common.{◌∙◌}
use Rattle.race_draw.proofs.PictureLemmas.{strand_more}
use Rattle.race_draw.proofs.picture.put_strands.Goals as goal

pub loop-edge-preserved : goal.loop-edge-preserved
loop-edge-preserved g c = record {
  so_far = strand_more c.args.style c.args.edges.now c.loop-edge.edge-index _ c.loop-edge.strands.items c.as_slice.result.now c.push.new.self.items c.lane_of-lane.result
      c.loop-edge-test.true c.in_ok-push.ensures.items c.as_slice.ensures.value c.lane_of-lane.ensures ∙ c.loop-edge.invariant.so_far;
}
