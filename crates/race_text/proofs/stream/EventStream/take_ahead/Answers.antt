use Rattle.std.proofs.Common.{drop, refl}
use Rattle.race_text.{specs.Common.line_in, proofs.StreamLemmas.answered_behind}
use Rattle.race_text.proofs.stream.EventStream.take_ahead.Goals as goal

pub returns-clause-taken : goal.returns-clause-taken
returns-clause-taken g c =
    answered_behind c.args.self.now _ c.in-Some.trace c.take_ahead_behind.new.trace (line_in (drop c.args.line.start c.args.bytes.now))
    c.take_ahead_behind.result c.in-Some.is refl refl refl c.take_ahead_behind.ensures.taken c.take_ahead_behind.ensures.grown
