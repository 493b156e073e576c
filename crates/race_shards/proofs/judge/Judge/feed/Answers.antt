-- The judge hasn't failed, so it stands for a list; where its verdict is settled, or the block is empty, only the length grows.
use Rattle.std.proofs.Common.{◌≡◌, Err, List, vec_len, length, sym, ap, ◌∙◌, subst, rules}
use Rattle.race_records.specs.declared.event.Event.{Event}
use Rattle.race_shards.specs.{declared.fault.JudgeFault.JudgeFault, Judging.{JudgeState, GoesOn}}
use Rattle.race_shards.proofs.JudgeSteps.{seen, can_seen, can_judge, counts_on, judges_on, sound_on, counted, judged, none_of}
use Rattle.race_shards.proofs.JudgeSteps.{settled, empty_of, same_fault, count_of_shards}
use Rattle.race_shards.proofs.judge.Judge.feed.Goals.{then-is_some-via-then-is_some}
use Rattle.race_shards.proofs.judge.Judge.feed.Goals.{then-is_some-via-else-is_some+then-is_empty}
use Rattle.race_shards.proofs.judge.Judge.feed.Goals.{After-self-1, In-Ok}
use Rattle.race_shards.proofs.judge.Judge.feed.Goals as goal

-- what goes on as it is seen
goes_seen : {s t : JudgeState} (block : List Event) {new : JudgeState} → s ≡ t → GoesOn s block new → GoesOn t block new
goes_seen {s} {t} block {new} is goes = subst (λ (old : JudgeState). GoesOn old block new) is goes

pub judge_block-requires-after_bounds : goal.judge_block-requires-after_bounds
judge_block-requires-after_bounds g c κs within =
    can_judge (seen c.self.inside) c.args.block.now c.self.invariant c.if-self.false (none_of c.self.inside.illegal (sym c.if-is_some.ensures))
    (can_seen c.args.block.now c.self.view_is c.requires)

module _ (g : _) (c : goal.After-self-1 g) where
  counts : GoesOn (seen c.self.inside) c.args.block.now (counted (seen c.self.inside) c.args.block.now (can_seen c.args.block.now c.self.view_is c.requires))
  counts = counts_on (seen c.self.inside) c.args.block.now (can_seen c.args.block.now c.self.view_is c.requires) (elim c.then-is_some.branch [
    | then-is_some-via-then-is_some w ↦ settled c.self.inside.illegal c.args.block.now (sym c.is_some.ensures ∙ w.if-is_some.true)
    | then-is_some-via-else-is_some+then-is_empty w ↦ λ none. empty_of c.args.block.now (sym w.is_empty.ensures ∙ w.if-is_empty.true)
  ])

pub invariant_of-self : goal.invariant_of-self
invariant_of-self g c =
    sound_on (seen c.self.inside) _ c.args.block.now c.self.invariant c.if-self.false (counts g c)

pub returns-then-is_some-clause-goes_on : goal.returns-then-is_some-clause-goes_on
returns-then-is_some-clause-goes_on g c =
    goes_seen c.args.block.now c.self.view_is (counts g c)

module _ (g : _) (c : goal.In-Ok g) where
  judges : GoesOn (seen c.self.inside) c.args.block.now (judged (seen c.self.inside) c.args.block.now (can_seen c.args.block.now c.self.view_is c.requires)
      c.in-Ok.illegal c.judge_block.new.replay c.judge_block.new.shards.items)
  judges = judges_on (seen c.self.inside) c.args.block.now (can_seen c.args.block.now c.self.view_is c.requires) c.in-Ok.illegal c.judge_block.new.replay
      c.judge_block.new.shards.items (none_of c.self.inside.illegal (sym c.if-is_some.ensures)) c.in-Ok.ensures.judges c.in-Ok.ensures.counts

pub invariant_of-self-in-Ok : goal.invariant_of-self-in-Ok
invariant_of-self-in-Ok g c =
    sound_on (seen c.self.inside) _ c.args.block.now c.self.invariant c.if-self.false (judges g (goal.at.invariant_of-self-in-Ok g c).In-Ok)

pub returns-in-Ok-clause-goes_on : goal.returns-in-Ok-clause-goes_on
returns-in-Ok-clause-goes_on g c =
    goes_seen c.args.block.now c.self.view_is (judges g (goal.at.returns-in-Ok-clause-goes_on g c).In-Ok)

pub returns-in-Err-clause-one : goal.returns-in-Err-clause-one
returns-in-Err-clause-one g c = λ single told.
    let j : JudgeState = seen c.self.inside in
    let all : length j.shards ≡ j.count = count_of_shards j (none_of j.illegal (sym c.if-is_some.ensures)) c.self.invariant c.if-self.false in
    let count : j.count ≡ 1 = ap (λ (j : JudgeState). j.count) c.self.view_is ∙ single in
    let fault = c.into_fault.ensures.no_thread.0 (same_fault c.into_fault.result JudgeFault.NoThread told) in
    let alone : vec_len c.self.inside.shards ≡ 1 = search rules in
    c.in-Err.ensures.one alone (ap Err fault)
