use Rattle.std.proofs.Common.{sym}
use Rattle.race_text.proofs.FoundLemmas.{found_is_declared}
use Rattle.race_text.proofs.meaning.named_in.Goals as goal

pub is_wanted-requires : goal.is_wanted-requires
is_wanted-requires g c = found_is_declared c.args.decls.now.declarations c.args.word.now c.in-Some.named (sym c.in-Some.ensures)
