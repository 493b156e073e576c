use Rattle.std.proofs.Common.{drop, Ok}
use Rattle.race_text.specs.{Common.line_in, Fault.trace_causes, Stream.StandsFor}
use Rattle.race_text.proofs.{AheadTaken.{ahead_now, begun_now, this_taken, this_told}, FedLemmas.some_taken, StreamKnown.{line_answered, some_stream}}
use Rattle.race_text.proofs.fed_ahead.take_this.Goals as goal

pub line-number-requires : goal.line-number-requires
line-number-requires g c = some_stream c.args.reader.now (c.requires.0, c.requires.1)

pub take_ahead-requires : goal.take_ahead-requires
take_ahead-requires g c =
    let k = c.requires.0 in
    let some = c.requires.1 in
    record {
      some = some_stream c.args.reader.now (k, some);
      begun = begun_now k c.args.reader.now c.args.bytes.now c.args.line c.requires.2 some.lines some.stands;
      ahead = ahead_now k c.args.reader.now c.args.bytes.now c.args.line c.requires.2 some.lines some.stands;
    }

pub returns-in-Ok-clause-taken : goal.returns-in-Ok-clause-taken
returns-in-Ok-clause-taken g c = λ k.
    this_taken c.args.reader.now c.take_ahead.new.self c.args.bytes.now c.args.line.start c.args.line.end c.requires.2.ahead.says.ends k
    (line_answered c.args.reader.now c.take_ahead.new.self (line_in (drop c.args.line.start c.args.bytes.now)) (Ok c.in-Ok.field-0)
    c.in-Ok.ensures.taken c.in-Ok.ensures.declared k)

pub returns-in-Ok-clause-some : goal.returns-in-Ok-clause-some
returns-in-Ok-clause-some g c = λ k some.
    some_taken trace_causes (StandsFor k c.args.reader.now) (line_in (drop c.args.line.start c.args.bytes.now)) (StandsFor k c.take_ahead.new.self)
    (line_answered c.args.reader.now c.take_ahead.new.self (line_in (drop c.args.line.start c.args.bytes.now)) (Ok c.in-Ok.field-0)
    c.in-Ok.ensures.taken c.in-Ok.ensures.declared k) some

pub returns-in-Err-clause-taken : goal.returns-in-Err-clause-taken
returns-in-Err-clause-taken g c = λ k.
    this_told c.args.reader.now c.take_ahead.new.self c.args.bytes.now c.args.line.start c.args.line.end c.requires.2.ahead.says.ends k _
    (λ lines S. c.line-number.ensures k.past lines S.stream) (λ lines S. c.in-Err.ensures.taken k.past lines S.stream)
