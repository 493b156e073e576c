use Rattle.std.proofs.Common.{◌≡◌, ◌+◌, ◌*◌, ◌-◌, length, take, drop, get_or, ap, ◌∙◌, arith, length-drop}
use Rattle.std.proofs.lemmas.List.{take_all}
use Rattle.race_draw.{specs.Fold.folds, proofs.FoldLemmas.one_more}
use Rattle.race_draw.proofs.fold.folded.Goals as goal

pub loop-index-preserved : goal.loop-index-preserved
loop-index-preserved g c =
    let text = c.args.text.now in
    let i = c.loop-index.index in
    let near = c.next-spot.ensures.near (2 * i) c.loop-index.invariant.column c.loop-index.invariant.indent in
    let rest : take (length text - (i + 1)) (drop (i + 1) text) ≡ drop (i + 1) text
    = take_all (length text - (i + 1)) (drop (i + 1) text) (omega (arith, length-drop (i + 1) text)) in
    record {
      so_far = one_more c.loop-index.spot c.next-spot.result text c.loop-index.folded.items c.put_piece.new.text.items i 0 c.folds-is_fold.result
          c.loop-index-test.true (c.folds-is_fold.ensures ∙ ap (folds c.loop-index.spot (get_or text i 0)) rest) c.in_ok-put_piece.ensures c.next-spot.ensures.value
          ∙ c.loop-index.invariant.so_far;
      column = omega (arith, near.0);
      indent = omega (arith, near.1);
    }
