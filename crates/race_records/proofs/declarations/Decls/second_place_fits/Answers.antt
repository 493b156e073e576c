use Rattle.race_records.proofs.declarations.Decls.second_place_fits.Goals as goal

pub returns-in-None : goal.returns-in-None
returns-in-None g c = cc
