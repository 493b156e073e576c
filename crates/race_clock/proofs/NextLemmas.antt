-- What a step needs, from the next event's being in range and breaking no rule.
use Rattle.std.proofs.Common.{◌≡◌, ◌≢◌, ℕ, suc, ◌+◌, ◌<◌, ◌≤◌, ◌^◌, ◌==◌, ◌||◌, ◌&&◌, not, nat_lt, Bool, true, false}
use Rattle.std.proofs.Common.{List, Some, length, slice_get, refl, sym, ◌∙◌, subst, arith, IsTrue, eq-eqb, ltb-true}
use Rattle.std.proofs.lemmas.{List.Sums.count_by-le-length, Bool.not-false}
use Rattle.race_records.specs.declared.event.{Event.Event, Op.{Op, TheVariants.{Go, Send, Recv, Meet, RecvClosed}}}
use Rattle.race_records.specs.declared.event.Op.TheVariants.{Close, Lock, Unlock, RLock, RUnlock, TryLock, TryRLock}
use Rattle.race_records.specs.declared.{event.Op.TheVariants.{OnceEnd, OnceDone}, kind.Kind.Kind}
use Rattle.race_records.specs.{declared.trace.TheConstants.MAX_EVENTS, Declarations.{Declaration, count_of, counts_of}}
use Rattle.race_records.specs.{Declarations.capacity_of, Operands.op_is_in_range}
use Rattle.race_model.specs.{Events.{takes_part, has_exited, count, sends, receives}, State.{started, runs, buffered}}
use Rattle.race_model.specs.{Legal.{op_rules, rules, actors_run, receiver_runs}, Clocks.participations}
use Rattle.race_model.proofs.ChannelOrder.{rules_kept}
use Rattle.race_legal.specs.ReplayState.{IsInRange}
use Rattle.race_clock.specs.{ClocksState.{ClocksState, parts_of, channel_of}, StamperState.StamperState}
use Rattle.race_clock.specs.{StandsFor.{ClocksStandFor, StandsFor, IsAllowed}, Needs.{OpHasClocks, HasClocks, IsApart}}
use Rattle.race_clock.{specs.Needs.{CountsFit, OpKnowsUnlocks}, proofs.{ClocksSteps.{FindsRoom, unlocks_known}, RoomLemmas.{send_room, receive_room}}}

and_first : (a b : Bool) → (a && b) ≡ true → a ≡ true
and_first true b is = refl
and_first false b is = cc

-- who acts was started, or is main: a Go starts no such goroutine, and nobody meets itself
module _ (caps : ℕ → ℕ) (past : List Event) (e : Event) where
  -- no rule on the operation is broken
  abbrev RulesKept : Op → Type 0
  RulesKept o = (k : ℕ) (r : ℕ × Bool) → slice_get (op_rules caps past e.who o) k ≡ Some r → r.1 ≡ false

module _ (declarations : List Declaration) (past : List Event) (e : Event) (allowed : IsAllowed declarations past e) where
  op_kept : RulesKept (capacity_of declarations) past e e.op
  op_kept k r at = rules_kept (rules (capacity_of declarations) past e) (suc (suc k)) r allowed at

  who_runs : runs e.who past ≡ true
  who_runs =
      and_first (runs e.who past) (receiver_runs past e.op)
      (not-false (actors_run past e) (rules_kept (rules (capacity_of declarations) past e) 1 (2, not (actors_run past e)) allowed refl))

  pub is_apart : IsApart e.who e.op
  is_apart = go e.op op_kept
    where
      starts : (h : ℕ) → (h == 0 || started h past) ≡ false → h ≢ e.who
      starts h new same =
          let old : (e.who == 0 || started e.who past) ≡ true = and_first (e.who == 0 || started e.who past) (not (has_exited e.who past)) who_runs in
          let new_here : (e.who == 0 || started e.who past) ≡ false = subst (λ h. (h == 0 || started h past) ≡ false) same new in
          let wrong : true ≡ false = sym old ∙ new_here in
          cc

      meets : (r : ℕ) → (r == e.who) ≡ false → r ≢ e.who
      meets r apart same =
          let is : (r == e.who) ≡ true = eq-eqb r e.who same in
          let wrong : true ≡ false = sym is ∙ apart in
          cc

      go : (o : Op) → RulesKept (capacity_of declarations) past e o → IsApart e.who o
      go (Go h) kept = starts h (kept 0 (3, h == 0 || started h past) refl)
      go (Meet r c v) kept = meets r (kept 0 (4, r == e.who) refl)
      go _ kept = tt

  -- a send finds room, and a receive finds a value
  pub finds_room : (k : ClocksState) → ClocksStandFor (capacity_of declarations) k past → OpHasClocks k e.op → FindsRoom (capacity_of declarations) past e.op
  finds_room k S within = go e.op op_kept within
    where
      go : (o : Op) → RulesKept (capacity_of declarations) past e o → OpHasClocks k o → FindsRoom (capacity_of declarations) past o
      go (Send c v) kept within =
          send_room (capacity_of declarations) past c (channel_of k.channels c)
          (S.all_channels c within) (kept 2 (7, buffered c past == capacity_of declarations c) refl)
      go (Recv c v) kept within =
          receive_room (capacity_of declarations) past c (channel_of k.channels c)
          (S.all_channels c within) (kept 1 (8, count (sends c) past == count (receives c) past) refl)
      go _ kept within = tt

module _ (declarations : List Declaration) (k : StamperState) (past : List Event) (S : StandsFor declarations k past) (e : Event)
    (range : IsInRange (counts_of declarations) e) where
  -- an object of a number in range has a clock
  below : (n m l : ℕ) (rest : Bool) → l ≡ m → IsTrue (nat_lt n m && rest) → n < l
  below n m l rest same is = let less : n < m = ltb-true n m (and_first (nat_lt n m) rest is) in omega (arith, same, less)

  -- there are clocks for what the event names
  pub has_clocks : HasClocks k.clocks e.who e.op
  has_clocks = (let less : e.who < count_of Kind.Goroutine declarations = range.0 in let all = S.all_goroutines in omega (arith, less, all), go e.op range.1)
    where
      go : (o : Op) → IsTrue (op_is_in_range (counts_of declarations) o) → OpHasClocks k.clocks o
      go (Go h) is = below h _ _ _ S.all_goroutines is
      go (Meet r c v) is = below r _ _ _ S.all_goroutines is
      go (Send c v) is = below c _ _ _ S.all_chans is
      go (Recv c v) is = below c _ _ _ S.all_chans is
      go (RecvClosed c) is = below c _ _ _ S.all_chans is
      go (Close c) is = below c _ _ _ S.all_chans is
      go (Lock l) is = below l _ _ _ S.all_locks is
      go (Unlock l) is = below l _ _ _ S.all_locks is
      go (RLock l) is = below l _ _ _ S.all_locks is
      go (RUnlock l) is = below l _ _ _ S.all_locks is
      go (TryLock l) is = below l _ _ _ S.all_locks is
      go (TryRLock l) is = below l _ _ _ S.all_locks is
      go (OnceEnd o) is = below o _ _ _ S.all_onces is
      go (OnceDone o) is = below o _ _ _ S.all_onces is
      go _ is = tt

  -- an unlock by who has locked knows what the unlocks had seen
  pub knows_unlocks : OpKnowsUnlocks k.clocks e.who e.op
  knows_unlocks = go e.op has_clocks.1
    where
      go : (o : Op) → OpHasClocks k.clocks o → OpKnowsUnlocks k.clocks e.who o
      go (Unlock l) within = unlocks_known (capacity_of declarations) k.clocks past S.clocks e.who l has_clocks.0 within
      go _ within = tt

  -- the counts fit
  pub counts_fit : length past < MAX_EVENTS → CountsFit k.clocks e.who e.op
  counts_fit room = go e.op has_clocks.1
    where
      fits : (g : ℕ) → g < length k.clocks.slots → parts_of k.clocks g + 1 < 2 ^ 32
      fits g less =
          let parts : parts_of k.clocks g ≡ participations g past = S.clocks.all_parts g less in
          let le : participations g past ≤ length past = count_by-le-length (takes_part g) past in
          omega (arith, parts, le, room)

      go : (o : Op) → OpHasClocks k.clocks o → CountsFit k.clocks e.who o
      go (Go h) within = (fits e.who has_clocks.0, fits h within)
      go (Meet r c v) within = (fits e.who has_clocks.0, fits r within)
      go _ within = fits e.who has_clocks.0
