use Rattle.race_text.proofs.StreamKnown.{some_stream, common_answered}
use Rattle.race_text.proofs.stream.EventStreamGrammar.take_common.Goals as goal

pub take_common-requires : goal.take_common-requires
take_common-requires g c = some_stream c.args.self.now c.requires

pub returns : goal.returns
returns g c =
    common_answered c.args.self.now c.take_common.new.self c.args.bytes.now c.take_common.result c.take_common.ensures.taken c.take_common.ensures.declared
