use Rattle.std.proofs.Common.{◌++◌, codes}
use Rattle.race_records.proofs.PageLemmas.{breaks_off_before, prints_behind}
use Rattle.race_tool.specs.Explore.{access_text, picks_text}
use Rattle.race_tool.proofs.explore_printing.print_race.Goals as goal

pub returns-in-Ok : goal.returns-in-Ok
returns-in-Ok g c = prints_behind c.in-Ok.ensures c.print_second.ensures

pub returns-in-Err : goal.returns-in-Err
returns-in-Err g c =
    breaks_off_before (access_text c.args.decls.now (codes ", ") c.args.race.now.second ++ picks_text c.args.picks.now) c.in-Err.ensures
