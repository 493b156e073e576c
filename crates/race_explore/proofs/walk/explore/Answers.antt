use Rattle.std.proofs.Common.{ℕ, List, sym, ◌∙◌, arith, subst}
use Rattle.race_explore.specs.declared.fault.ExploreFault.{ExploreFault}
use Rattle.race_explore.proofs.EndLemmas.{room_for_one, passed_on, explored_in_part}
use Rattle.race_explore.proofs.{WalkLemmas.walk_begins}
use Rattle.race_explore.specs.Walk.{IsWalked}
use Rattle.race_explore.proofs.walk.explore.Goals as goal

pub loop-run-init : goal.loop-run-init
loop-run-init g c =
    let e = c.new-explored.result in
    record {
      walked = subst (λ (p : List ℕ). IsWalked c.args.program.now c.args.limit c.args.orders p e) (sym c.new-picks.ensures.items)
          (walk_begins c.args.program.now c.args.limit c.args.orders e c.new-explored.ensures.counts c.new-explored.ensures.racy c.new-explored.ensures.bad
          c.new-explored.ensures.made);
      made = c.new-explored.ensures.made;
      whole = c.new-explored.ensures.whole;
    }

pub look_at_next-requires-clause-few : goal.look_at_next-requires-clause-few
look_at_next-requires-clause-few g c κs within =
    room_for_one c.args.limit c.args.most c.loop-run._run c.loop-run.explored.made (sym c.are_in_limits.ensures ∙ c.if-not-are_in_limits.false)
    c.loop-run.invariant.made c.loop-run-test.true

pub returns-in_err-look_at_next-clause-refused : goal.returns-in_err-look_at_next-clause-refused
returns-in_err-look_at_next-clause-refused g c =
    passed_on c.from_residual.result c.in_err-look_at_next.field-0.0 ExploreFault.NotARun c.from_residual.ensures.1 c.in_err-look_at_next.ensures.refused

pub returns-clause-explored : goal.returns-clause-explored
returns-clause-explored g c =
    let made = c.loop-run.invariant.made in
    let done = c.loop-run-test.false in
    let end = c.loop-run.auto._run-end in
    explored_in_part c.args.program.now c.args.limit c.args.most c.args.orders c.loop-run.picks.items c.loop-run.explored
    (sym c.are_in_limits.ensures ∙ c.if-not-are_in_limits.false) c.loop-run.invariant.walked (omega (arith, made, done, end)) c.loop-run.invariant.whole
