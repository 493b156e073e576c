use Rattle.std.proofs.Common.{◌==◌, sym}
use Rattle.race_text.proofs.CutLemmas.{slice_split-found, slice_split-absent}
use Rattle.race_text.proofs.cut.cut_at.Goals as goal

pub returns-in-Some : goal.returns-in-Some
returns-in-Some c = slice_split-found (λ b. b == c.args.byte) c.args.bytes.now 0 c.in-Some.end (sym c.in-Some.ensures)

pub returns-in-None : goal.returns-in-None
returns-in-None c = slice_split-absent (λ b. b == c.args.byte) c.args.bytes.now (sym c.in-None.ensures)
