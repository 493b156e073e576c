-- The reader answers the word of the run so far.
use Rattle.std.proofs.Common.{ℕ, cond, Bool, Option, Some, IsTrue, sym, ap, subst, ◌∙◌}
use Rattle.race_records.specs.declared.event.{Cause.TheVariants.SendClosed, Op.{Op, TheVariants.{Send, Fault}}}
use Rattle.race_records.specs.{declared.kind.Kind.Kind, Operands.chan_is_in_range}
use Rattle.race_legal.specs.ReplayState.{counts_in}
use Rattle.race_requests.{specs.{declared.request.Ask.Ask, Choices.op_of}, proofs.RangeLemmas.{alone, either}}
use Rattle.race_requests.proofs.making.lone_send.Goals as goal

pub returns-clause-op : goal.returns-clause-op
returns-clause-op g c D past S branch =
    ap (λ (o : Op). Some o) c.send_op.ensures
    ∙ ap (λ (b : Bool). Some (cond b (Fault (SendClosed c.in-Some.chan)) (Send c.in-Some.chan c.args.value))) (c.is_closed.ensures D past S)
    ∙ sym (ap (λ (x : Option ℕ). op_of past (Ask.Send x c.args.value) branch) c.in-Some.is)

pub returns-clause-range : goal.returns-clause-range
returns-clause-range g c =
    let counts = counts_in c.args.replay.now in
    let less = alone _ (subst (λ (x : Option ℕ). IsTrue (chan_is_in_range (counts Kind.Chan) x)) c.in-Some.is c.requires) in
    either counts c.is_closed.result (Fault (SendClosed c.in-Some.chan)) (Send c.in-Some.chan c.args.value) _ c.send_op.ensures less less
