use Rattle.std.proofs.Common.{refl}
use Rattle.race_text.proofs.FedLemmas.{fed_at_start}
use Rattle.race_text.proofs.fed.Fed.new.Goals as goal

pub returns-clause-stands : goal.returns-clause-stands
returns-clause-stands g c = fed_at_start g.G.Grammar.causes (g.G.Grammar.stands_for g.G.Grammar.at_start) _ c.requires c.new.ensures.items refl
