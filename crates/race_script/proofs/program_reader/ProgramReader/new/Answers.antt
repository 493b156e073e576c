-- Nothing is fed, and nothing is taken.
use Rattle.std.proofs.Common.{[]}
use Rattle.race_script.specs.{Fault.program_causes, Reader.{lines_read, StandsFor as Stands}}
use Rattle.race_text.proofs.FedLemmas.{stands_of}
use Rattle.race_script.proofs.program_reader.ProgramReader.new.Goals as goal

pub returns-clause-stands : goal.returns-clause-stands
returns-clause-stands g c =
    let reader = c.new-2.result.lines.reader in
    stands_of program_causes Stands c.new-2.result (lines_read reader) (λ lines these. these.1) [] c.new-2.ensures.stands
