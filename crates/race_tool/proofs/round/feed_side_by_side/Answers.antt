-- The lines that were read ahead are taken, and then the rest is fed.
use Rattle.std.proofs.Common.{◌≡◌, ◌-◌, ◌++◌, length, take, drop, IsTrue, None, rules}
use Rattle.race_text.specs.{Fault.trace_causes, Fed.{IsFed, IsTold, ended_fault}, Stream.{StandsFor, has_events}}
use Rattle.race_text.proofs.AheadTaken.{if_err}
use Rattle.race_tool.proofs.RoundLemmas.{if_err_map, if_ok_map, known_ahead, of_both, rest_whole}
use Rattle.race_tool.proofs.round.feed_side_by_side.Goals as goal

pub feed_ahead-requires : goal.feed_ahead-requires
feed_ahead-requires g c =
    let begun : IsTrue (has_events c.args.reader.now.lines.reader) = search rules in
    known_ahead c.requires.0 c.args.reader.now c.args.bytes.now c.read_ahead.new.ahead c.requires.1 begun c.read_ahead.ensures

pub returns-in_err-at-clause-goes_on : goal.returns-in_err-at-clause-goes_on
returns-in_err-at-clause-goes_on g c = c.in_err-at.ensures.goes_on

pub returns-in_err-at-clause-err : goal.returns-in_err-at-clause-err
returns-in_err-at-clause-err g c = if_err _ c.from_residual.result c.in_err-at.field-0.0 c.from_residual.ensures.1 c.in_err-at.ensures.err

pub returns-clause-ready : goal.returns-clause-ready
returns-clause-ready g c = λ k was. c.feed-2.ensures.ready k (c.in_ok-at.ensures.ready k was)

pub returns-clause-goes_on : goal.returns-clause-goes_on
returns-clause-goes_on g c = λ k before S.
    of_both (IsFed trace_causes (StandsFor k) c.feed-2.new.self) before (take c.in_ok-at.at c.args.bytes.now)
    (take (length c.args.bytes.now - c.in_ok-at.at) (drop c.in_ok-at.at c.args.bytes.now))
    c.args.bytes.now (rest_whole c.in_ok-at.at c.args.bytes.now)
    (c.feed-2.ensures.goes_on k (before ++ take c.in_ok-at.at c.args.bytes.now) (c.in_ok-at.ensures.goes_on k before S))

pub returns-clause-ok : goal.returns-clause-ok
returns-clause-ok g c =
    if_ok_map _ _ c.feed-2.result (λ _ fine k before S.
    of_both (λ b. ended_fault trace_causes b ≡ None) before (take c.in_ok-at.at c.args.bytes.now)
    (take (length c.args.bytes.now - c.in_ok-at.at) (drop c.in_ok-at.at c.args.bytes.now))
    c.args.bytes.now (rest_whole c.in_ok-at.at c.args.bytes.now)
    (fine k (before ++ take c.in_ok-at.at c.args.bytes.now) (c.in_ok-at.ensures.goes_on k before S))) c.feed-2.ensures.ok

pub returns-clause-err : goal.returns-clause-err
returns-clause-err g c =
    if_err_map _ _ c.feed-2.result (λ told tells k before S.
    of_both (λ b. IsTold trace_causes b told) before (take c.in_ok-at.at c.args.bytes.now)
    (take (length c.args.bytes.now - c.in_ok-at.at) (drop c.in_ok-at.at c.args.bytes.now))
    c.args.bytes.now (rest_whole c.in_ok-at.at c.args.bytes.now)
    (tells k (before ++ take c.in_ok-at.at c.args.bytes.now) (c.in_ok-at.ensures.goes_on k before S))) c.feed-2.ensures.err
