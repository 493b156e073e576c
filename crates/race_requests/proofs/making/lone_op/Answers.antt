use Rattle.std.proofs.Common.{◌≡◌, ℕ, ◌==◌, List, Option, refl, sym, ap, ◌∙◌}
use Rattle.race_records.specs.declared.event.{Cause.TheVariants.{UnlockFree, RUnlockFree}, Event.Event, Op.Op}
use Rattle.race_records.specs.declared.event.Op.TheVariants.{Unlock, RUnlock, TryLock, TryRLock, TryFail, OnceBegin, OnceDone, Fault}
use Rattle.race_legal.specs.ReplayState.{counts_in}
use Rattle.race_requests.specs.{declared.request.Ask.Ask, Choices.op_of}
use Rattle.race_requests.proofs.{OfferLemmas.offers_in_range, RangeLemmas.one_of}
use Rattle.race_requests.proofs.making.lone_op.Goals as goal

-- what is said of the request that was matched is said of the one that was asked
of_ask : {ask this : Ask} {op : Option Op} (past : List Event) (branch : ℕ) → ask ≡ this → op ≡ op_of past this branch → op ≡ op_of past ask branch
of_ask past branch is said = said ∙ sym (ap (λ a. op_of past a branch) is)

pub returns-in-Read-clause-op : goal.returns-in-Read-clause-op
returns-in-Read-clause-op g c D past S = of_ask past c.args.branch c.in-Read.is (rw (c.last_value.ensures D past S))

pub returns-in-Unlock : goal.returns-in-Unlock
returns-in-Unlock g c = record {
  op = λ D past S. of_ask past c.args.branch c.in-Unlock.is (rw (c.unlock_op.ensures, c.is_held.ensures D past S));
  range = one_of c.args.replay.now c.is_held.result (Unlock c.in-Unlock.lock) (Fault (UnlockFree c.in-Unlock.lock)) c.unlock_op.ensures c.in-Unlock.is c.requires refl refl;
}

pub returns-in-RUnlock : goal.returns-in-RUnlock
returns-in-RUnlock g c = record {
  op = λ D past S. of_ask past c.args.branch c.in-RUnlock.is (rw (c.runlock_op.ensures, c.is_read_held.ensures D past S));
  range = one_of c.args.replay.now c.is_read_held.result (RUnlock c.in-RUnlock.lock) (Fault (RUnlockFree c.in-RUnlock.lock))
      c.runlock_op.ensures c.in-RUnlock.is c.requires refl refl;
}

pub returns-in-Do : goal.returns-in-Do
returns-in-Do g c = record {
  op = λ D past S. of_ask past c.args.branch c.in-Do.is (rw (c.do_op.ensures, c.is_begun.ensures D past S));
  range = one_of c.args.replay.now c.is_begun.result (OnceDone c.in-Do.once) (OnceBegin c.in-Do.once) c.do_op.ensures c.in-Do.is c.requires refl refl;
}

pub returns-in-TryLock : goal.returns-in-TryLock
returns-in-TryLock g c = record {
  op = λ D past S. of_ask past c.args.branch c.in-TryLock.is (rw c.try_op.ensures);
  range = one_of c.args.replay.now (c.args.branch == 0) (TryLock c.in-TryLock.lock) (TryFail c.in-TryLock.lock) c.try_op.ensures c.in-TryLock.is c.requires refl refl;
}

pub returns-in-TryRLock : goal.returns-in-TryRLock
returns-in-TryRLock g c = record {
  op = λ D past S. of_ask past c.args.branch c.in-TryRLock.is (rw c.tryr_op.ensures);
  range = one_of c.args.replay.now (c.args.branch == 0) (TryRLock c.in-TryRLock.lock) (TryFail c.in-TryRLock.lock) c.tryr_op.ensures c.in-TryRLock.is c.requires refl refl;
}

pub returns-in-Send-clause-op : goal.returns-in-Send-clause-op
returns-in-Send-clause-op g c D past S = of_ask past c.args.branch c.in-Send.is (c.lone_send.ensures.op D past S c.args.branch)

pub returns-in-Recv-clause-op : goal.returns-in-Recv-clause-op
returns-in-Recv-clause-op g c D past S = of_ask past c.args.branch c.in-Recv.is (c.lone_recv.ensures.op D past S c.args.branch)

pub returns-in-Close-clause-op : goal.returns-in-Close-clause-op
returns-in-Close-clause-op g c D past S = of_ask past c.args.branch c.in-Close.is (c.lone_close.ensures.op D past S c.args.branch)

pub returns-in-Select-clause-op : goal.returns-in-Select-clause-op
returns-in-Select-clause-op g c D past S = of_ask past c.args.branch c.in-Select.is (c.lone_select.ensures.op D past S)

pub lone_select-requires : goal.lone_select-requires
lone_select-requires g c = offers_in_range (counts_in c.args.replay.now) c.in-Select.offers c.in-Select.has_default (rw c.in-Select.is at c.requires)
