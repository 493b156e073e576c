-- Replay and shard stand for no event before the first, and for all behind the last.
use Rattle.std.proofs.Common.{◌≡◌, ◌∷◌, [], List, Option, Some, None, sym, subst}
use Rattle.race_records.specs.declared.event.Event.{Event}
use Rattle.race_legal.specs.declared.legality.Illegal.{Illegal}
use Rattle.race_shards.{specs.Judging.{CanJudge, IsJudged}, proofs.AloneSteps.{replayed_by, standing_by, judges_these}}
use Rattle.race_shards.proofs.AloneSteps.{can_judge_alone, judged_alone}
use Rattle.race_shards.proofs.alone.judge_alone.Goals.{In_ok-illegal}
use Rattle.race_shards.proofs.alone.judge_alone.Goals as goal

pub judge_each-requires : goal.judge_each-requires
judge_each-requires g c =
    subst (λ (es : List Event). CanJudge c.in_ok-replay.replay (c.in_ok-shard.shard ∷ []) es) (sym c.events.ensures.events)
    (can_judge_alone c.args.trace.now c.events.ensures.is_trace c.in_ok-replay.replay c.in_ok-shard.shard
    (replayed_by c.decls.ensures.decls c.in_ok-replay.ensures.stands) (standing_by c.decls-2.ensures.decls c.in_ok-shard.ensures))

module _ (g : _) (c : goal.In_ok-illegal g) where
  judged : (illegal : Option Illegal) → c.in_ok-illegal.field-0 ≡ illegal
      → IsJudged c.args.trace.now.decls.declarations 1 c.judge_each.new.replay (c.judge_each.new.shard ∷ []) c.args.trace.now.events illegal
  judged illegal is =
      judged_alone c.args.trace.now c.events.ensures.is_trace c.in_ok-replay.replay c.in_ok-shard.shard
      (replayed_by c.decls.ensures.decls c.in_ok-replay.ensures.stands) (standing_by c.decls-2.ensures.decls c.in_ok-shard.ensures)
      c.judge_each.new.replay c.judge_each.new.shard illegal
      (judges_these c.in_ok-replay.replay (c.in_ok-shard.shard ∷ []) c.judge_each.new.replay (c.judge_each.new.shard ∷ [])
      c.events.ensures.events is c.in_ok-illegal.ensures)

pub returns-in-Some : goal.returns-in-Some
returns-in-Some g c = judged g (goal.at.returns-in-Some g c).In_ok-illegal (Some c.in-Some.illegal) c.in-Some.is

pub verdict_on-requires : goal.verdict_on-requires
verdict_on-requires g c = (c.judge_each.new.replay, judged g (goal.at.verdict_on-requires g c).In_ok-illegal None c.in-None.is)
