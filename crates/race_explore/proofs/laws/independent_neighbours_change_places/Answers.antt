use Rattle.race_explore.proofs.RunExchange.{exchanged_run}
use Rattle.race_explore.proofs.laws.independent_neighbours_change_places.Goals as goal

pub returns : goal.returns
returns c program limit picks one events is exchange =
    let (others, other, run, decls, events_are, end, standing) = exchanged_run program limit picks one events is exchange in
    (others, other, run, events_are, record { decls = decls; end = end; standing = standing })
