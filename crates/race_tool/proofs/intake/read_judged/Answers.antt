-- What was read is fed after what was handed on, turn by turn.
use Rattle.std.proofs.Common.{false, refl, sym, ap, subst, ◌∙◌, arith}
use Rattle.race_shards.specs.Limits.{is_block}
use Rattle.race_tool.specs.{declared.handed.Judging.Judging, Input.IsRoom}
use Rattle.race_tool.proofs.{IntakeLemmas.as_told, IntakeTurns.{at_start, failed_turn, faulty_turn, can_finish}}
use Rattle.race_tool.proofs.IntakeTurns.{block_still, last_turn, can_hand_on, next_turn}
use Rattle.race_tool.proofs.intake.read_judged.Goals as goal

pub new-reader-requires : goal.new-reader-requires
new-reader-requires g c = record { stream = c.keyed-first.ensures.stands; declared = tt }

pub loop-intake-init : goal.loop-intake-init
loop-intake-init g c =
    let new = c.new-handed.ensures in
    let reader = c.new-reader.ensures in
    at_start g.R.Read.remaining c.args.source.now _ c.new-handed.result _ new.judge new.events
    (ap (λ (j : Judging). is_block j.block) new.judging ∙ c.requires) refl reader.stands refl
    (record { room = subst IsRoom (sym c.in-Ok.ensures) c.block_size.ensures; some = c.wanted.ensures; ready = record { fine = reader.fine; between = reader.ready reader.fine }; limit = omega arith })

pub read_next-requires-clause-ready : goal.read_next-requires-clause-ready
read_next-requires-clause-ready g c κs within = (c.loop-intake.invariant.known, c.loop-intake.invariant.readable)

pub returns-in_err-read_next : goal.returns-in_err-read_next
returns-in_err-read_next g c = failed_turn c.loop-intake.invariant c.from_residual.ensures.1 c.in_err-read_next.ensures.reads

pub returns-in-Err : goal.returns-in-Err
returns-in-Err g c =
    let turn = c.in_ok-read_next.ensures in
    faulty_turn c.read_next.new.handed c.loop-intake.invariant turn.reads turn.judges c.in-Err.fault c.in-Err.is

pub finish-requires-clause-can : goal.finish-requires-clause-can
finish-requires-clause-can g c κs within =
    let turn = c.in_ok-read_next.ensures in
    can_finish c.read_next.new.handed c.loop-intake.invariant turn.reads turn.judges (as_told c.in-Ok-false.is c.in-Ok-false.field-0-test)

pub finish-requires-clause-block : goal.finish-requires-clause-block
finish-requires-clause-block g c κs within =
    let turn = c.in_ok-read_next.ensures in
    block_still c.read_next.new.handed c.loop-intake.invariant turn.reads turn.judges false (as_told c.in-Ok-false.is c.in-Ok-false.field-0-test)

pub returns-in-Ok-false : goal.returns-in-Ok-false
returns-in-Ok-false g c =
    let turn = c.in_ok-read_next.ensures in
    last_turn c.read_next.new.handed c.loop-intake.invariant turn.reads turn.judges (as_told c.in-Ok-false.is c.in-Ok-false.field-0-test)
    c.finish.result c.finish.ensures.text c.finish.ensures.fault c.finish.ensures.refused

pub take-requires-after_bounds : goal.take-requires-after_bounds
take-requires-after_bounds g c κs within =
    let turn = c.in_ok-read_next.ensures in
    can_hand_on c.read_next.new.handed c.loop-intake.invariant turn.reads turn.judges (as_told c.in-Ok-true.is c.in-Ok-true.field-0-test)

pub loop-intake-preserved : goal.loop-intake-preserved
loop-intake-preserved g c =
    let turn = c.in_ok-read_next.ensures in
    next_turn c.read_next.new.handed c.loop-intake.invariant turn.reads turn.judges (as_told c.in-Ok-true.is c.in-Ok-true.field-0-test)
    c.take.new.self c.take.new.stream c.in-Ok-take.ensures.stands c.in-Ok-take.ensures.can
