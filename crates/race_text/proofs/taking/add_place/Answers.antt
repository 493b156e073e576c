use Rattle.std.proofs.Common.{ap, ◌∙◌}
use Rattle.race_records.specs.{declared.declarations.DeclFault.DeclFault, Name.is_place}
use Rattle.race_text.{specs.Declaring.cause_of, proofs.{PlacesAdded.place_has_room, TraceLemmas.memory_alone}}
use Rattle.race_text.proofs.taking.add_place.Goals as goal

pub returns-in-Err-clause-err : goal.returns-in-Err-clause-err
returns-in-Err-clause-err g c =
    let form = ap is_place c.as_text.ensures ∙ c.requires.form in
    let allowed = c.add_place.ensures.allowed (place_has_room c.args.trace.now.decls c.as_text.result.now form c.requires.room) in
    c.cause_of.ensures ∙ ap cause_of (memory_alone c.add_place.result c.in-Err.fault DeclFault.OutOfMemory allowed c.in-Err.is)
