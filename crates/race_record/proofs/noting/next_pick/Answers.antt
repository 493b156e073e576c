use Rattle.std.proofs.Common.{◌+◌, ◌<◌, ◌^◌, sym, subst}
use Rattle.race_record.proofs.NotingLemmas.{has_next}
use Rattle.race_record.proofs.noting.next_pick.Goals as goal

pub returns-clause-next : goal.returns-clause-next
returns-clause-next c = subst (λ pick. pick + 1 < 2 ^ 64) (sym c.pick_at.ensures) (has_next c.args.picks.now c.args.number c.requires)
