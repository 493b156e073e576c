-- The reader answers the word of the run so far.
use Rattle.std.proofs.Common.{ℕ, cond, Bool, Option, Some, IsTrue, sym, ap, subst, ◌∙◌}
use Rattle.race_records.specs.declared.event.{Cause.TheVariants.CloseClosed, Op.{Op, TheVariants.{Close, Fault}}}
use Rattle.race_records.specs.{declared.kind.Kind.Kind, Operands.chan_is_in_range}
use Rattle.race_legal.specs.ReplayState.{counts_in}
use Rattle.race_requests.{specs.{declared.request.Ask.Ask, Choices.op_of}, proofs.RangeLemmas.{alone, either}}
use Rattle.race_requests.proofs.making.lone_close.Goals as goal

pub returns-clause-op : goal.returns-clause-op
returns-clause-op g c D past S branch =
    ap (λ (o : Op). Some o) c.close_op.ensures
    ∙ ap (λ (b : Bool). Some (cond b (Fault (CloseClosed c.in-Some.chan)) (Close c.in-Some.chan))) (c.is_closed.ensures D past S)
    ∙ sym (ap (λ (x : Option ℕ). op_of past (Ask.Close x) branch) c.in-Some.is)

pub returns-clause-range : goal.returns-clause-range
returns-clause-range g c =
    let counts = counts_in c.args.replay.now in
    let less = alone _ (subst (λ (x : Option ℕ). IsTrue (chan_is_in_range (counts Kind.Chan) x)) c.in-Some.is c.requires) in
    either counts c.is_closed.result (Fault (CloseClosed c.in-Some.chan)) (Close c.in-Some.chan) _ c.close_op.ensures less less
