use Rattle.std.proofs.Common.{drop, Err, refl, arith}
use Rattle.race_text.specs.{declared.cause.TextCause.TextCause, Common.line_in, Taking.TellsOfRoom}
use Rattle.race_text.proofs.BehindLemmas.{event_answered_behind}
use Rattle.race_text.proofs.AheadLemmas.{allowed_ahead, answered_ahead, is_event_line}
use Rattle.race_text.proofs.taking.take_ahead_behind.Goals as goal

pub append_deed-requires : goal.append_deed-requires
append_deed-requires g c = record {
  allowed = allowed_ahead c.args.before c.args.trace.now c.args.bytes.now c.args.line c.requires.read c.requires.ahead (omega arith);
}

pub returns-then-before-len-ge-MAX_EVENTS-clause-taken : goal.returns-then-before-len-ge-MAX_EVENTS-clause-taken
returns-then-before-len-ge-MAX_EVENTS-clause-taken g c = λ past count read.
    let full : TellsOfRoom c.args.before c.args.trace.now TextCause.TooMany = record { full = λ _. refl; room = λ room. absurd (omega (arith, room)) } in
    event_answered_behind c.args.before past c.args.trace.now c.args.trace.now (line_in (drop c.args.line.start c.args.bytes.now)) _ count read
    (is_event_line c.args.before c.args.trace.now c.args.bytes.now c.args.line c.requires.read c.requires.ahead) (Err TextCause.TooMany) full

pub returns-clause-taken : goal.returns-clause-taken
returns-clause-taken g c = λ past count read.
    event_answered_behind c.args.before past c.args.trace.now c.append_deed.new.trace (line_in (drop c.args.line.start c.args.bytes.now)) _ count read
    (is_event_line c.args.before c.args.trace.now c.args.bytes.now c.args.line c.requires.read c.requires.ahead) c.append_deed.result
    (answered_ahead c.args.before c.args.trace.now c.args.bytes.now c.args.line c.requires.read c.requires.ahead c.append_deed.new.trace c.append_deed.result
    (omega arith) c.append_deed.ensures.decls c.append_deed.ensures.events c.append_deed.ensures.err)
