-- Behind each event the tables are right for the front up to it; at the end they are for all events.
use Rattle.std.proofs.lemmas.{List.length-take-le, Result.IfOk-weaker}
use Rattle.std.proofs.Common.{◌≡◌, ◌∙◌, List, length, take, subst, arith}
use Rattle.race_records.specs.declared.event.Event.{Event}
use Rattle.race_edges.specs.Partners.{found_after}
use Rattle.race_edges.proofs.JudgeSteps.{has_tables, tables_next, races_listed}
use Rattle.race_edges.proofs.judge.races_in.Goals as goal

pub look-requires-clause-row : goal.look-requires-clause-row
look-requires-clause-row g c = (has_tables c.len.ensures.is_trace c.loop-at.invariant c.event.ensures.event).0.0

pub look-requires-clause-var : goal.look-requires-clause-var
look-requires-clause-var g c = (has_tables c.len.ensures.is_trace c.loop-at.invariant c.event.ensures.event).1

pub step-requires-clause-rows : goal.step-requires-clause-rows
step-requires-clause-rows g c = rw c.event.ensures.event (has_tables c.len.ensures.is_trace c.loop-at.invariant c.event.ensures.event).0

pub step-requires-clause-heard : goal.step-requires-clause-heard
step-requires-clause-heard g c = c.loop-at.invariant.is_table.long ∙ length-take-le c.loop-at.at c.args.trace.now.events (omega arith)

pub loop-at-preserved : goal.loop-at-preserved
loop-at-preserved g c =
    let after = rw c.event.ensures.event at c.in_ok-step.ensures.after in
    let noted = subst (λ (es : List Event). c.look.new.self
    ≡ found_after c.loop-at.table.rows (take c.loop-at.at es) (length (take c.loop-at.at es)) c.event.result.now c.loop-at.found)
    c.events.ensures.events c.look.ensures.found in
    rw (after, noted) (tables_next c.args.trace.now c.loop-at.at c.event.result.now c.loop-at.table c.loop-at.found
    c.len.ensures.is_trace c.event.ensures.event c.loop-at.invariant)

pub returns : goal.returns
returns g c =
    IfOk-weaker c.list.result _ _ (λ races is.
    rw is (races_listed c.args.trace.now c.loop-at.at c.loop-at.table c.loop-at.found c.len.ensures.is_trace c.loop-at.invariant (omega arith)))
    c.list.ensures
