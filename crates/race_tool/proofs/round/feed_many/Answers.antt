-- The first line is fed, and then the rest.
use Rattle.std.proofs.Common.{◌≡◌, ◌++◌, None}
use Rattle.race_text.specs.{Fault.trace_causes, Fed.{IsFed, IsTold, ended_fault}, Stream.StandsFor}
use Rattle.race_text.proofs.{AheadTaken.if_err, FedLemmas.told_stays}
use Rattle.race_tool.proofs.RoundLemmas.{cut_whole, if_err_map, if_ok_map, of_both}
use Rattle.race_tool.proofs.round.feed_many.Goals as goal

pub returns-in_err-feed-clause-goes_on : goal.returns-in_err-feed-clause-goes_on
returns-in_err-feed-clause-goes_on g c = λ k before S.
    of_both (IsFed trace_causes (StandsFor k) c.feed-2.new.self) before c.split_at.result.0.now c.split_at.result.1.now c.args.bytes.now
    (cut_whole _ _ _ c.args.bytes.now c.split_at.ensures.front c.split_at.ensures.back)
    (told_stays trace_causes (StandsFor k) c.feed-2.new.self c.split_at.result.1.now (before ++ c.split_at.result.0.now) c.in_err-feed.field-0.0
    c.in_err-feed.ensures.told (c.in_err-feed.ensures.goes_on k before S))

pub returns-in_err-feed-clause-err : goal.returns-in_err-feed-clause-err
returns-in_err-feed-clause-err g c =
    if_err _ c.from_residual.result c.in_err-feed.field-0.0 c.from_residual.ensures.1 (λ k before S.
    of_both (λ b. IsTold trace_causes b c.in_err-feed.field-0.0) before c.split_at.result.0.now c.split_at.result.1.now c.args.bytes.now
    (cut_whole _ _ _ c.args.bytes.now c.split_at.ensures.front c.split_at.ensures.back)
    ((c.in_err-feed.ensures.goes_on k before S).told c.in_err-feed.field-0.0 c.in_err-feed.ensures.told c.split_at.result.1.now))

pub returns-clause-ready : goal.returns-clause-ready
returns-clause-ready g c = λ k was. c.feed_side_by_side.ensures.ready k (c.in_ok-feed.ensures.ready k was)

pub returns-clause-goes_on : goal.returns-clause-goes_on
returns-clause-goes_on g c = λ k before S.
    of_both (IsFed trace_causes (StandsFor k) c.feed_side_by_side.new.reader) before c.split_at.result.0.now c.split_at.result.1.now c.args.bytes.now
    (cut_whole _ _ _ c.args.bytes.now c.split_at.ensures.front c.split_at.ensures.back)
    (c.feed_side_by_side.ensures.goes_on k (before ++ c.split_at.result.0.now) (c.in_ok-feed.ensures.goes_on k before S))

pub returns-clause-ok : goal.returns-clause-ok
returns-clause-ok g c =
    if_ok_map _ _ c.feed_side_by_side.result (λ _ fine k before S.
    of_both (λ b. ended_fault trace_causes b ≡ None) before c.split_at.result.0.now c.split_at.result.1.now c.args.bytes.now
    (cut_whole _ _ _ c.args.bytes.now c.split_at.ensures.front c.split_at.ensures.back)
    (fine k (before ++ c.split_at.result.0.now) (c.in_ok-feed.ensures.goes_on k before S))) c.feed_side_by_side.ensures.ok

pub returns-clause-err : goal.returns-clause-err
returns-clause-err g c =
    if_err_map _ _ c.feed_side_by_side.result (λ told tells k before S.
    of_both (λ b. IsTold trace_causes b told) before c.split_at.result.0.now c.split_at.result.1.now c.args.bytes.now
    (cut_whole _ _ _ c.args.bytes.now c.split_at.ensures.front c.split_at.ensures.back)
    (tells k (before ++ c.split_at.result.0.now) (c.in_ok-feed.ensures.goes_on k before S))) c.feed_side_by_side.ensures.err
