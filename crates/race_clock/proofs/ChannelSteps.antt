-- The clocks of a channel, one event on.
use Rattle.std.proofs.Common.{◌≡◌, ℕ, ◌+◌, ◌-◌, ◌<◌, ◌≤◌, max, Bool, true, false, List, [], ◌∷◌, ◌++◌, take, drop}
use Rattle.std.proofs.Common.{length, refl, sym, ap, ◌∙◌, subst, arith, IsTrue, if◌then◌else◌, eqb-true, eq-eqb}
use Rattle.race_records.specs.declared.event.{Event.Event, Op.{Op, TheVariants.{Send, Recv, RecvClosed}}}
use Rattle.race_model.specs.{Events.{count, IsKth, sends, receives, closes}, Order.IsSource, Clocks.CountsFrom}
use Rattle.race_model.proofs.{ClockSteps.CountsAt, CountSteps.{count_push, as_number}, ClockLemmas.counts_like}
use Rattle.race_model.proofs.SourceSteps.{from_none, from_as, from_same, from_more}
use Rattle.race_clock.specs.{ClockState.{knows, joined}, ClocksState.{ChannelState, is_used_up, front, channel_sent}}
use Rattle.race_clock.specs.{ClocksState.{channel_received, channel_closed}, StandsFor.{IsQueue, StandsForChannel}}
use Rattle.race_clock.proofs.{ClockLists.knows_joined, QueueSteps.{queue_front, queue_pop, queue_same, queue_push}}

-- the same queue by another name of its first number
queue_from : (caps : ℕ → ℕ) (past : List Event) (kind : Op → Bool) (n m : ℕ) (queue : List (List ℕ))
    → n ≡ m → IsQueue caps past kind n queue → IsQueue caps past kind m queue
queue_from caps past kind n m queue same q = subst (λ n. IsQueue caps past kind n queue) same q

-- counts one event on
pub count_one : (kind : Op → Bool) (past : List Event) (e : Event) → kind e.op ≡ true → count kind (past ++ e ∷ []) ≡ count kind past + 1
count_one kind past e is = let unit : as_number (kind e.op) ≡ 1 = ap as_number is in count_push kind past e ∙ ap (λ n. count kind past + n) unit

pub count_same : (kind : Op → Bool) (past : List Event) (e : Event) → kind e.op ≡ false → count kind (past ++ e ∷ []) ≡ count kind past
count_same kind past e is =
    let zero : as_number (kind e.op) ≡ 0 = ap as_number is in
    let all : count kind (past ++ e ∷ []) ≡ count kind past + as_number (kind e.op) = count_push kind past e in omega (arith, all, zero)

-- a joined clock counts what the greater counts do
pub from_joined : (caps : ℕ → ℕ) (events : List Event) (Q : ℕ → Op → Type 0) (c d : List ℕ) → CountsFrom caps events Q (λ h. max (knows c h) (knows d h))
    → CountsFrom caps events Q (knows (joined c d))
from_joined caps events Q c d k = counts_like events (λ h. max (knows c h) (knows d h)) (knows (joined c d)) _ (knows_joined c d) k

-- the clock of all events of a kind, one event on
module _ (caps : ℕ → ℕ) (past : List Event) (e : Event) (kind : Op → Bool) (c : List ℕ) (k : CountsFrom caps past (λ i s. IsTrue (kind s)) (knows c)) where
  pub all_same : kind e.op ≡ false → CountsFrom caps (past ++ e ∷ []) (λ i s. IsTrue (kind s)) (knows c)
  all_same other =
      from_same caps past e (λ i s. IsTrue (kind s)) (λ i s. IsTrue (kind s)) (knows c)
      (λ i s at. (λ x. x, λ x. x)) (λ is. let of_kind : kind e.op ≡ true = is in cc) k

  pub all_more : (b : List ℕ) → kind e.op ≡ true → CountsAt caps (past ++ e ∷ []) (length past) e.who (knows b)
      → CountsFrom caps (past ++ e ∷ []) (λ i s. IsTrue (kind s)) (knows (joined c b))
  all_more b is own =
      from_joined caps (past ++ e ∷ []) (λ i s. IsTrue (kind s)) c b
      (from_more caps past e (λ i s. IsTrue (kind s)) (λ i s. IsTrue (kind s)) (knows c) (knows b) (λ i s at. (λ x. x, λ x. x)) is k own)

module _ (caps : ℕ → ℕ) (past : List Event) (c : ℕ) (ch : ChannelState) (S : StandsForChannel caps past c ch) where
  -- room that a send takes was freed where the capacity is used up
  used_up : IsTrue (is_used_up ch) → caps c ≤ count (sends c) past
  used_up full =
      let all : length ch.sent + length ch.freed ≡ ch.capacity = eqb-true (length ch.sent + length ch.freed) ch.capacity full in
      let sent : count (receives c) past + length ch.sent ≡ count (sends c) past = S.sent.all in
      let freed : count (sends c) past - caps c + length ch.freed ≡ count (receives c) past = S.freed.all in
      let room : ch.capacity ≡ caps c = S.room in
      omega (arith, all, sent, freed, room)

  not_used_up : is_used_up ch ≡ false → count (sends c) past < caps c
  not_used_up short = elim_lt
    where
      never : length ch.sent + length ch.freed ≡ ch.capacity → ⊥
      never same = let full : is_used_up ch ≡ true = eq-eqb (length ch.sent + length ch.freed) ch.capacity same in cc

      elim_lt : count (sends c) past < caps c
      elim_lt =
          let sent : count (receives c) past + length ch.sent ≡ count (sends c) past = S.sent.all in
          let freed : count (sends c) past - caps c + length ch.freed ≡ count (receives c) past = S.freed.all in
          let room : ch.capacity ≡ caps c = S.room in
          grind (arith, sent, freed, room, never)

  -- a send has sources only where the capacity is used up
  waits_freed : caps c ≤ count (sends c) past → count (sends c) past < count (receives c) past + caps c → 0 < length ch.freed
  waits_freed used less = let freed : count (sends c) past - caps c + length ch.freed ≡ count (receives c) past = S.freed.all in
      omega (arith, used, less, freed)

  -- what a channel hands to a receive
  pub hands_receive : (v : ℕ) → count (receives c) past < count (sends c) past
      → CountsFrom caps past (λ k s. IsSource caps past k s (Recv c v)) (knows (front ch.sent))
  hands_receive v less =
      queue_front caps past (sends c) (count (receives c) past) ch.sent S.sent
      (let sent : count (receives c) past + length ch.sent ≡ count (sends c) past = S.sent.all in omega (arith, less, sent))

  -- what it hands to a send
  pub hands_send : (v : ℕ) → count (sends c) past < count (receives c) past + caps c
      → CountsFrom caps past (λ k s. IsSource caps past k s (Send c v)) (knows (if is_used_up ch then front ch.freed else []))
  hands_send v less = go (is_used_up ch) refl
    where
      go : (full : Bool) → is_used_up ch ≡ full → CountsFrom caps past (λ k s. IsSource caps past k s (Send c v)) (knows (if full then front ch.freed else []))
      go true full =
          let used : caps c ≤ count (sends c) past = used_up full in
          from_as caps past (IsKth (receives c) (count (sends c) past - caps c) past) (λ k s. IsSource caps past k s (Send c v)) (knows (front ch.freed))
          (λ k s at. (
            λ is. (count (sends c) past - caps c, is, omega (arith, used)),
            λ is.
                let number : count (receives c) (take k past) ≡ is.0 = is.1.1 in
                let sum : is.0 + caps c ≡ count (sends c) past = is.2 in
                (is.1.0, omega (arith, used, number, sum)),
          ))
          (queue_front caps past (receives c) (count (sends c) past - caps c) ch.freed S.freed (waits_freed used less))
      go false short =
          let few : count (sends c) past < caps c = not_used_up short in
          from_none caps past (λ k s. IsSource caps past k s (Send c v)) (knows [])
          (λ k s at is. let sum : is.0 + caps c ≡ count (sends c) past = is.2 in omega (arith, few, sum)) (λ h. refl)

  -- what it hands to a receive that found it closed
  pub hands_closed : CountsFrom caps past (λ k s. IsSource caps past k s (RecvClosed c)) (knows ch.closed)
  hands_closed = S.closed

  module _ (e : Event) where
    -- an event that isn't of the channel
    pub channel_same : sends c e.op ≡ false → receives c e.op ≡ false → closes c e.op ≡ false → StandsForChannel caps (past ++ e ∷ []) c ch
    channel_same no_send no_receive no_close = record {
      room = S.room;
      sent =
          queue_from caps (past ++ e ∷ []) (sends c) (count (receives c) past)
          (count (receives c) (past ++ e ∷ [])) ch.sent (sym (count_same (receives c) past e no_receive))
          (queue_same caps past e (sends c) (count (receives c) past) ch.sent S.sent no_send);
      freed =
          queue_from caps (past ++ e ∷ []) (receives c) (count (sends c) past - caps c) (count (sends c) (past ++ e ∷ []) - caps c) ch.freed
          (ap (λ n. n - caps c) (sym (count_same (sends c) past e no_send)))
          (queue_same caps past e (receives c) (count (sends c) past - caps c) ch.freed S.freed no_receive);
      closed = all_same caps past e (closes c) ch.closed S.closed no_close;
    }

    -- a send waits in the buffer, and takes the room of the first freed
    pub channel_send : (b : List ℕ) → sends c e.op ≡ true → receives c e.op ≡ false
        → closes c e.op ≡ false → count (sends c) past < count (receives c) past + caps c
        → CountsAt caps (past ++ e ∷ []) (length past) e.who (knows b) → StandsForChannel caps (past ++ e ∷ []) c (channel_sent ch b)
    channel_send b is no_receive no_close less own = record {
      room = S.room;
      sent =
          queue_from caps (past ++ e ∷ []) (sends c) (count (receives c) past) (count (receives c) (past ++ e ∷ [])) (ch.sent ++ b ∷ [])
          (sym (count_same (receives c) past e no_receive)) (queue_push caps past e (sends c) (count (receives c) past) ch.sent S.sent b is own);
      freed = go (is_used_up ch) refl;
      closed = all_same caps past e (closes c) ch.closed S.closed no_close;
    }
      where
        more : count (sends c) (past ++ e ∷ []) ≡ count (sends c) past + 1
        more = count_one (sends c) past e is

        go : (full : Bool) → is_used_up ch ≡ full
            → IsQueue caps (past ++ e ∷ []) (receives c) (count (sends c) (past ++ e ∷ []) - caps c) (if full then drop 1 ch.freed else ch.freed)
        go true full =
            let used : caps c ≤ count (sends c) past = used_up full in
            queue_from caps (past ++ e ∷ []) (receives c) (count (sends c) past - caps c + 1) (count (sends c) (past ++ e ∷ []) - caps c) (drop 1 ch.freed)
            (omega (arith, more, used))
            (queue_same caps past e (receives c) (count (sends c) past - caps c + 1) (drop 1 ch.freed)
            (queue_pop caps past (receives c) (count (sends c) past - caps c) ch.freed S.freed (waits_freed used less)) no_receive)
        go false short =
            let few : count (sends c) past < caps c = not_used_up short in
            queue_from caps (past ++ e ∷ []) (receives c) (count (sends c) past - caps c)
            (count (sends c) (past ++ e ∷ []) - caps c) ch.freed (omega (arith, more, few))
            (queue_same caps past e (receives c) (count (sends c) past - caps c) ch.freed S.freed no_receive)

    -- a receive takes the first send, and frees its room
    pub channel_receive : (b : List ℕ) → receives c e.op ≡ true → sends c e.op ≡ false → closes c e.op ≡ false → count (receives c) past < count (sends c) past
        → CountsAt caps (past ++ e ∷ []) (length past) e.who (knows b) → StandsForChannel caps (past ++ e ∷ []) c (channel_received ch b)
    channel_receive b is no_send no_close less own = record {
      room = S.room;
      sent =
          queue_from caps (past ++ e ∷ []) (sends c) (count (receives c) past + 1)
          (count (receives c) (past ++ e ∷ [])) (drop 1 ch.sent) (sym (count_one (receives c) past e is))
          (queue_same caps past e (sends c) (count (receives c) past + 1) (drop 1 ch.sent)
          (queue_pop caps past (sends c) (count (receives c) past) ch.sent S.sent
          (let sent : count (receives c) past + length ch.sent ≡ count (sends c) past = S.sent.all in omega (arith, less, sent))) no_send);
      freed =
          queue_from caps (past ++ e ∷ []) (receives c) (count (sends c) past - caps c) (count (sends c) (past ++ e ∷ []) - caps c) (ch.freed ++ b ∷ [])
          (ap (λ n. n - caps c) (sym (count_same (sends c) past e no_send)))
          (queue_push caps past e (receives c) (count (sends c) past - caps c) ch.freed S.freed b is own);
      closed = all_same caps past e (closes c) ch.closed S.closed no_close;
    }

    -- a close
    pub channel_close : (b : List ℕ) → closes c e.op ≡ true → sends c e.op ≡ false → receives c e.op ≡ false
        → CountsAt caps (past ++ e ∷ []) (length past) e.who (knows b) → StandsForChannel caps (past ++ e ∷ []) c (channel_closed ch b)
    channel_close b is no_send no_receive own = record {
      room = S.room;
      sent =
          queue_from caps (past ++ e ∷ []) (sends c) (count (receives c) past)
          (count (receives c) (past ++ e ∷ [])) ch.sent (sym (count_same (receives c) past e no_receive))
          (queue_same caps past e (sends c) (count (receives c) past) ch.sent S.sent no_send);
      freed =
          queue_from caps (past ++ e ∷ []) (receives c) (count (sends c) past - caps c) (count (sends c) (past ++ e ∷ []) - caps c) ch.freed
          (ap (λ n. n - caps c) (sym (count_same (sends c) past e no_send)))
          (queue_same caps past e (receives c) (count (sends c) past - caps c) ch.freed S.freed no_receive);
      closed = all_more caps past e (closes c) ch.closed S.closed b is own;
    }
