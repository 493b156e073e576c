use Rattle.std.proofs.{lemmas.Grind.elements, Common.{◌∙◌, ◌<◌, ◌+◌, ◌==◌, IsTrue, refl, sym, ap, subst, rules, arith}}
use Rattle.race_records.specs.declared.{event.Op.{Op, TheVariants.{Lock, RLock, TryLock, TryRLock}}, kind.Kind.Kind}
use Rattle.race_records.specs.{Declarations.{DeclsState, count_of, counts_of, capacity_of}, Operands.op_is_in_range}
use Rattle.race_legal.proofs.RangeLemmas.{range_from_fits}
use Rattle.race_verdict.specs.Traces.{capacities}
use Rattle.race_edges.proofs.NumberLemmas.{chan_in_range, told_send, told_lock, told_read_lock}
use Rattle.race_edges.proofs.synchronized.is_source.Goals as goal

pub capacity-requires : goal.capacity-requires
capacity-requires g c =
    let trace = c.args.trace.now in
    let range = (range_from_fits trace.decls c.event-target.result.now c.event-target.ensures.fits).1 in
    subst (λ (decls : DeclsState). c.in-Send.chan < count_of Kind.Chan decls.declarations) (sym c.decls.ensures.decls)
    (chan_in_range (counts_of trace.decls.declarations) c.in-Send.chan c.in-Send.field-1
    (subst (λ (o : Op). IsTrue (op_is_in_range (counts_of trace.decls.declarations) o)) c.in-Send.is range))

pub returns-then-is_receive : goal.returns-then-is_receive
returns-then-is_receive g c =
    (λ i. (c.get.ensures i + (c.capacity.ensures ∙ ap (λ (decls : DeclsState). capacity_of decls.declarations c.in-Send.chan) c.decls.ensures.decls) i)
    == c.get-then-is_receive.ensures i)
    ∙ told_send (capacities c.args.trace.now) c.requires.numbers c.args.from c.args.to c.requires.earlier
    c.event-source.ensures.event c.event-target.ensures.event c.in-Send.chan c.in-Send.field-1 c.in-Send.is (sym c.if-is_receive.ensures)

pub returns-in-RecvClosed : goal.returns-in-RecvClosed
returns-in-RecvClosed g c = search rules steps 100000

pub returns-in-Lock : goal.returns-in-Lock
returns-in-Lock g c =
    c.is_before_lock.ensures
    ∙ told_lock (capacities c.args.trace.now) c.requires.numbers c.args.from c.args.to c.requires.earlier
    c.event-source.ensures.event c.event-target.ensures.event c.in-Lock.lock (Lock c.in-Lock.lock) c.in-Lock.is refl refl

pub returns-in-RLock : goal.returns-in-RLock
returns-in-RLock g c =
    c.is_last_unlock.ensures
    ∙ told_read_lock (capacities c.args.trace.now) c.requires.numbers c.args.from c.args.to c.requires.earlier
    c.event-source.ensures.event c.event-target.ensures.event c.in-RLock.lock (RLock c.in-RLock.lock) c.in-RLock.is refl refl

pub returns-in-TryLock : goal.returns-in-TryLock
returns-in-TryLock g c =
    c.is_before_lock-in-TryLock.ensures
    ∙ told_lock (capacities c.args.trace.now) c.requires.numbers c.args.from c.args.to c.requires.earlier
    c.event-source.ensures.event c.event-target.ensures.event c.in-TryLock.lock (TryLock c.in-TryLock.lock) c.in-TryLock.is refl refl

pub returns-in-TryRLock : goal.returns-in-TryRLock
returns-in-TryRLock g c =
    c.is_last_unlock-in-TryRLock.ensures
    ∙ told_read_lock (capacities c.args.trace.now) c.requires.numbers c.args.from c.args.to c.requires.earlier
    c.event-source.ensures.event c.event-target.ensures.event c.in-TryRLock.lock (TryRLock c.in-TryRLock.lock) c.in-TryRLock.is refl refl

pub returns-then-is_send : goal.returns-then-is_send
returns-then-is_send g c = grind (arith, elements) steps 1000000
