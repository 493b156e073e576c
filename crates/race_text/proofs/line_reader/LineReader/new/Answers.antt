-- Nothing is fed, and nothing is taken.
use Rattle.std.proofs.Common.{[]}
use Rattle.race_text.{specs.{Fault.trace_causes, Reader.{lines_read, StandsFor as Stands}}, proofs.FedLemmas.stands_of}
use Rattle.race_text.proofs.line_reader.LineReader.new.Goals as goal

pub returns-clause-stands : goal.returns-clause-stands
returns-clause-stands g c =
    let reader = c.new-2.result.lines.reader in
    stands_of trace_causes Stands c.new-2.result (lines_read reader.has_header reader.decls reader.trace) (λ lines these. these.1) [] c.new-2.ensures.stands
