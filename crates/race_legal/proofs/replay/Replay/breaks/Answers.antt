-- The tables answer as the words on the list do.
use Rattle.std.proofs.Common.{sym, ◌∙◌}
use Rattle.race_legal.proofs.ReplayLemmas.{broken_is}
use Rattle.race_legal.proofs.replay.Replay.breaks.Goals as goal

pub first_broken-requires : goal.first_broken-requires
first_broken-requires g c = c.requires

pub returns : goal.returns
returns g c declarations past S =
    broken_is declarations c.args.self.now past S c.args.event.now c.requires ∙ sym c.first_broken.ensures
