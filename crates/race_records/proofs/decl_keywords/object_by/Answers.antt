use Rattle.race_records.proofs.decl_keywords.object_by.Goals as goal

pub returns-in-RwMutex-None : goal.returns-in-RwMutex-None
returns-in-RwMutex-None c = cc
