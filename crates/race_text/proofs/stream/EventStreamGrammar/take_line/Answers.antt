use Rattle.race_text.proofs.StreamKnown.{some_stream, line_answered}
use Rattle.race_text.proofs.stream.EventStreamGrammar.take_line.Goals as goal

pub take_line-requires : goal.take_line-requires
take_line-requires g c = some_stream c.args.self.now c.requires

pub returns : goal.returns
returns g c =
    line_answered c.args.self.now c.take_line.new.self c.args.line.now c.take_line.result c.take_line.ensures.taken c.take_line.ensures.declared
