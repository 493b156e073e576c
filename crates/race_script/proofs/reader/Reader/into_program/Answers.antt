use Rattle.std.proofs.Common.{sym, subst}
use Rattle.race_script.specs.{Program.IsProgram, Reader.{IsRead, IsReadBy, program_read}}
use Rattle.race_script.proofs.ReadLemmas.{whole_program}
use Rattle.race_script.proofs.reader.Reader.into_program.Goals as goal

pub new-requires : goal.new-requires
new-requires g c =
    let s = c.args.self in
    let read : IsRead s = subst (λ b. IsReadBy b s) c.requires.header c.requires.reading in
    subst (λ x. IsProgram (program_read x)) (sym c.self.view_is) (whole_program s read c.requires.whole).0
