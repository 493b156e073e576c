-- The reader answers the word of the run so far.
use Rattle.std.proofs.Common.{ℕ, Option, Some, None, IsTrue, sym, ap, subst, ◌∙◌}
use Rattle.race_records.specs.declared.{event.Op.{Op, TheVariants.{Recv, RecvClosed}}, kind.Kind.Kind}
use Rattle.race_records.specs.Operands.{chan_is_in_range}
use Rattle.race_legal.specs.ReplayState.{counts_in}
use Rattle.race_requests.{specs.{declared.request.Ask.Ask, Choices.op_of}, proofs.RangeLemmas.received}
use Rattle.race_requests.proofs.making.lone_recv.Goals as goal

pub returns-clause-op : goal.returns-clause-op
returns-clause-op g c D past S branch =
    ap (λ (o : Op). Some o) c.recv_op.ensures
    ∙ ap (λ (f : Option ℕ). Some (elim f [ Some v ↦ Recv c.in-Some.chan v | None ↦ RecvClosed c.in-Some.chan ])) (c.front.ensures D past S)
    ∙ sym (ap (λ (x : Option ℕ). op_of past (Ask.Recv x) branch) c.in-Some.is)

pub returns-clause-range : goal.returns-clause-range
returns-clause-range g c =
    let counts = counts_in c.args.replay.now in
    received counts c.in-Some.chan c.front.result _ c.recv_op.ensures (subst (λ (x : Option ℕ). IsTrue (chan_is_in_range (counts Kind.Chan) x)) c.in-Some.is c.requires)
