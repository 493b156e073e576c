use Rattle.std.proofs.Common.{◌≡◌}
use Rattle.race_edges.specs.Partners.{is_partner, greatest_below}
use Rattle.race_edges.proofs.races.greatest_partner.Given as goal

abbrev pub invariant-loop-index : goal.invariant-loop-index
invariant-loop-index g l = l.greatest ≡ greatest_below (is_partner l.table.rows l.past l.var l.event.who l.event.op) l.index
