use Rattle.std.proofs.Common.{◌∙◌, ap}
use Rattle.race_hub.{specs.Hub.choices_of, proofs.FiringLemmas.none_by}
use Rattle.race_requests.specs.Search.{picked}
use Rattle.race_requests.specs.Waiting as list
use Rattle.race_hub.proofs.hub.Hub.pick.Goals as goal

pub returns-clause-none : goal.returns-clause-none
returns-clause-none g c =
    none_by c.pick.result (choices_of c.args.self.now) c.args.pick (c.pick.ensures ∙ ap (λ l. picked c.args.pick (list.choices_of l)) c.list.ensures.list)
