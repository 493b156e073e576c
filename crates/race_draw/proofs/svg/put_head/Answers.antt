use Rattle.std.proofs.Common.{codes, ap}
use Rattle.race_draw.{specs.Svg.{svg_head, pair}, proofs.FoldLemmas.three_put}
use Rattle.race_draw.proofs.svg.put_head.Goals as goal

pub returns : goal.returns
unfolding svg_head
returns g c =
    three_put c.args.out.now.items c.put_pair.new.out.items c.put_pair-2.new.out.items c.extend_from_slice.new.self.items _ _ c.style.result.now _ _
    c.in_ok-put_pair.ensures c.in_ok-put_pair-2.ensures c.in_ok-extend_from_slice.ensures.items
    (ap (λ o. pair o c.args.width (codes "' height='") c.args.height) c.open.ensures) c.style.ensures
