-- Each table of a replay keeps its length.
use Rattle.std.proofs.Common.{◌≡◌, ℕ, ◌+◌, ◌-◌, true, false, List, [], ◌∷◌, ◌++◌, length, drop, take, refl, sym, ap}
use Rattle.std.proofs.{Common.◌∙◌, lemmas.List.length-set}
use Rattle.race_records.specs.declared.event.{Event.Event, Op.{Op, TheVariants.{Go, Exit, Write, Send, Recv, Close}}}
use Rattle.race_records.specs.declared.event.Op.TheVariants.{Lock, Unlock, RLock, RUnlock, TryLock, TryRLock}
use Rattle.race_records.specs.declared.{event.Op.TheVariants.{OnceBegin, OnceEnd}, kind.Kind.Kind}
use Rattle.race_legal.specs.ReplayState.{GoroutinesState, ChannelsState, LocksState, OncesState, ReplayState, counts_in}
use Rattle.race_legal.specs.{ReplayState.{stack_in, queue_in, readers_in, IsSquare}, After.goroutines_after}
use Rattle.race_legal.specs.After.{values_after, channels_after, locks_after, onces_after, after}

length-started : (t : GoroutinesState) (who : ℕ) (o : Op) → length (goroutines_after t who o).started ≡ length t.started
length-started t who (Go h) = length-set t.started h true
length-started t who _ = refl

length-exited : (t : GoroutinesState) (who : ℕ) (o : Op) → length (goroutines_after t who o).exited ≡ length t.exited
length-exited t who Exit = length-set t.exited who true
length-exited t who _ = refl

length-stacks : (t : GoroutinesState) (who : ℕ) (o : Op) → length (goroutines_after t who o).stacks ≡ length t.stacks
length-stacks t who (OnceBegin p) = length-set t.stacks who (stack_in t who ++ p ∷ [])
length-stacks t who (OnceEnd p) = length-set t.stacks who (take (length (stack_in t who) - 1) (stack_in t who))
length-stacks t who _ = refl

length-values : (values : List ℕ) (o : Op) → length (values_after values o) ≡ length values
length-values values (Write x v) = length-set values x v
length-values values _ = refl

length-closed : (t : ChannelsState) (o : Op) → length (channels_after t o).closed ≡ length t.closed
length-closed t (Close c) = length-set t.closed c true
length-closed t _ = refl

length-queues : (t : ChannelsState) (o : Op) → length (channels_after t o).queues ≡ length t.queues
length-queues t (Send c v) = length-set t.queues c (queue_in t c ++ v ∷ [])
length-queues t (Recv c v) = length-set t.queues c (drop 1 (queue_in t c))
length-queues t _ = refl

-- how wide a channel is never changes
pub capacities_same : (t : ChannelsState) (o : Op) → (channels_after t o).capacities ≡ t.capacities
capacities_same t (Send c v) = refl
capacities_same t _ = refl

length-held : (t : LocksState) (o : Op) → length (locks_after t o).held ≡ length t.held
length-held t (Lock l) = length-set t.held l true
length-held t (Unlock l) = length-set t.held l false
length-held t (TryLock l) = length-set t.held l true
length-held t _ = refl

length-readers : (t : LocksState) (o : Op) → length (locks_after t o).readers ≡ length t.readers
length-readers t (RLock l) = length-set t.readers l (readers_in t l + 1)
length-readers t (RUnlock l) = length-set t.readers l (readers_in t l - 1)
length-readers t (TryRLock l) = length-set t.readers l (readers_in t l + 1)
length-readers t _ = refl

length-begun : (t : OncesState) (o : Op) → length (onces_after t o).begun ≡ length t.begun
length-begun t (OnceBegin p) = length-set t.begun p true
length-begun t _ = refl

length-ended : (t : OncesState) (o : Op) → length (onces_after t o).ended ≡ length t.ended
length-ended t (OnceEnd p) = length-set t.ended p true
length-ended t _ = refl

pub square_after : (k : ReplayState) (e : Event) → IsSquare k → IsSquare (after k e)
square_after k e square = record {
  exited = length-exited k.goroutines e.who e.op ∙ square.exited ∙ sym (length-started k.goroutines e.who e.op);
  stacks = length-stacks k.goroutines e.who e.op ∙ square.stacks ∙ sym (length-started k.goroutines e.who e.op);
  closed = length-closed k.channels e.op ∙ square.closed ∙ ap length (sym (capacities_same k.channels e.op));
  queues = length-queues k.channels e.op ∙ square.queues ∙ ap length (sym (capacities_same k.channels e.op));
  readers = length-readers k.locks e.op ∙ square.readers ∙ sym (length-held k.locks e.op);
  ended = length-ended k.onces e.op ∙ square.ended ∙ sym (length-begun k.onces e.op);
}

-- so there are as many objects of each kind as before
pub counts_after : (k : ReplayState) (e : Event) → counts_in (after k e) ≡ counts_in k
counts_after k e = λ i kind. by kind i
  where
    by : (kind : Kind) → counts_in (after k e) kind ≡ counts_in k kind
    by Kind.Goroutine = length-started k.goroutines e.who e.op
    by Kind.Var = length-values k.values e.op
    by Kind.Chan = ap length (capacities_same k.channels e.op)
    by Kind.Lock = length-held k.locks e.op
    by Kind.Once = length-begun k.onces e.op
