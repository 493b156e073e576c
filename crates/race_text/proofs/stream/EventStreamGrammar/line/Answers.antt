use Rattle.race_text.proofs.StreamKnown.{some_stream}
use Rattle.race_text.proofs.stream.EventStreamGrammar.line.Goals as goal

pub line-requires : goal.line-requires
line-requires g c = some_stream c.args.self.now c.requires

pub returns : goal.returns
returns g c = λ k lines S. c.line.ensures k.past lines S.stream
