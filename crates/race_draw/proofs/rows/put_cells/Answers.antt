use Rattle.std.{proofs.Common.{◌≡◌, ◌++◌, ap, ◌∙◌, arith}, specs.List.{flat_map, range_with_len}}
use Rattle.race_draw.{specs.{declared.picture.TheConstants.TRACKS, Rows.track_text}, proofs.PictureLemmas.put_more}
use Rattle.race_draw.proofs.rows.put_cells.Goals as goal

pub loop-track-preserved : goal.loop-track-preserved
loop-track-preserved g c = record {
  put = put_more (track_text c.args.picture.now c.args.strokes.now c.args.mark) c.args.out.now.items c.loop-track.out.items c.put_cell.new.out.items
      c.loop-track.track c.loop-track.invariant.put c.in_ok-put_cell.ensures;
}

pub returns : goal.returns
returns g c =
    let all : c.loop-track.track ≡ TRACKS = omega (arith, c.loop-track-test.false, c.loop-track.auto.track-end) in
    c.loop-track.invariant.put
    ∙ ap (λ n. c.args.out.now.items ++ flat_map (track_text c.args.picture.now c.args.strokes.now c.args.mark) (range_with_len 0 n)) all
