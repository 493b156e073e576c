use Rattle.std.specs.Option.{option_map}
use Rattle.race_records.proofs.PageLemmas.{prints_behind, breaks_off_before}
use Rattle.race_text.specs.Writing.{place_end}
use Rattle.race_text.proofs.writing.print_behind.Goals as goal

pub returns-in-Ok : goal.returns-in-Ok
returns-in-Ok g c = prints_behind c.in-Ok.ensures c.print_places.ensures

pub returns-in-Err : goal.returns-in-Err
returns-in-Err g c = breaks_off_before (place_end c.args.place.now (option_map (λ place. place.now) c.args.place2)) c.in-Err.ensures
