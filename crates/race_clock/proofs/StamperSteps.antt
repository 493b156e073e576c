-- A stamper stands for the events, one event on.
use Rattle.std.proofs.Common.{◌≡◌, ℕ, ◌+◌, List, [], ◌∷◌, ◌++◌, length, sym, ap, ◌∙◌, subst, IsTrue, length-append}
use Rattle.std.proofs.lemmas.List.{length-set}
use Rattle.race_records.specs.declared.event.{Event.Event, Op.{Op, TheVariants.{Send, Recv, Close, Lock, Unlock}}}
use Rattle.race_records.specs.declared.event.Op.TheVariants.{RUnlock, TryLock, OnceEnd}
use Rattle.race_records.specs.Declarations.{Declaration, capacity_of}
use Rattle.race_model.specs.Events.{is_access}
use Rattle.race_clock.specs.ClocksState.{ClocksState, clock_of, channel_of, lock_of, end_of, begin_of, channel_sent}
use Rattle.race_clock.specs.ClocksState.{channel_received, channel_closed, lock_locked, lock_unlocked}
use Rattle.race_clock.specs.{ClocksState.{lock_read_unlocked, after}, ClockState.joined, StamperState.StamperState}
use Rattle.race_clock.specs.{StandsFor.{ClocksStandFor, StandsFor, IsAllowed, CountsReaching}, Needs.HasClocks}
use Rattle.race_clock.proofs.{ClocksSteps.{stands_after, reaching_after, length_after}, NextLemmas.finds_room}

-- no object comes or goes
length_channels_after : (k : ClocksState) (who : ℕ) (o : Op) → length (after k who o).channels ≡ length k.channels
length_channels_after k who (Send c v) = length-set k.channels c (channel_sent (channel_of k.channels c) (begin_of k who))
length_channels_after k who (Recv c v) = length-set k.channels c (channel_received (channel_of k.channels c) (begin_of k who))
length_channels_after k who (Close c) = length-set k.channels c (channel_closed (channel_of k.channels c) (begin_of k who))
length_channels_after k who _ = λ i. length k.channels

length_locks_after : (k : ClocksState) (who : ℕ) (o : Op) → length (after k who o).locks ≡ length k.locks
length_locks_after k who (Lock l) = length-set k.locks l (lock_locked (lock_of k.locks l) who)
length_locks_after k who (TryLock l) = length-set k.locks l (lock_locked (lock_of k.locks l) who)
length_locks_after k who (Unlock l) = length-set k.locks l (lock_unlocked (lock_of k.locks l) (begin_of k who))
length_locks_after k who (RUnlock l) = length-set k.locks l (lock_read_unlocked (lock_of k.locks l) (begin_of k who))
length_locks_after k who _ = λ i. length k.locks

length_ends_after : (k : ClocksState) (who : ℕ) (o : Op) → length (after k who o).ends ≡ length k.ends
length_ends_after k who (OnceEnd p) = length-set k.ends p (joined (end_of k.ends p) (begin_of k who))
length_ends_after k who _ = λ i. length k.ends

module _ (declarations : List Declaration) (k : StamperState) (past : List Event)
    (S : StandsFor declarations k past) (e : Event) (within : HasClocks k.clocks e.who e.op)
    (clocks : ClocksState) (is : clocks ≡ after k.clocks e.who e.op) where
  -- the next state stands for the longer list
  pub next_stands : IsAllowed declarations past e → (len : ℕ) → len ≡ k.len + 1
      → StandsFor declarations (record { len = len; clocks = clocks }) (past ++ e ∷ [])
  next_stands allowed len more = record {
    len = length-append past (e ∷ []) ∙ ap (λ n. n + 1) S.len ∙ sym more;
    all_goroutines = ap (λ (c : ClocksState). length c.slots) is ∙ length_after k.clocks e.who e.op ∙ S.all_goroutines;
    all_chans = ap (λ (c : ClocksState). length c.channels) is ∙ length_channels_after k.clocks e.who e.op ∙ S.all_chans;
    all_locks = ap (λ (c : ClocksState). length c.locks) is ∙ length_locks_after k.clocks e.who e.op ∙ S.all_locks;
    all_onces = ap (λ (c : ClocksState). length c.ends) is ∙ length_ends_after k.clocks e.who e.op ∙ S.all_onces;
    clocks = subst (λ c. ClocksStandFor (capacity_of declarations) c (past ++ e ∷ [])) (sym is)
        (stands_after (capacity_of declarations) k.clocks past S.clocks e within (finds_room declarations past e allowed k.clocks S.clocks within.1));
  }

  -- behind an access its goroutine's clock counts what reaches it
  pub next_counts : IsTrue (is_access e.op) → CountsReaching (capacity_of declarations) past e e.who (clock_of clocks e.who)
  next_counts access =
      subst (λ c. CountsReaching (capacity_of declarations) past e e.who (clock_of c e.who)) (sym is)
      (reaching_after (capacity_of declarations) k.clocks past e S.clocks within.0 access)
