-- The clocks stand for the events, one event on.
use Rattle.std.proofs.Common.{◌≡◌, ◌≢◌, ℕ, ◌+◌, ◌<◌, ◌≤◌, ◌==◌, ◌||◌, max, false, Some, None, List, [], ◌∷◌, ◌++◌}
use Rattle.std.proofs.Common.{length, get_or, set, refl, sym, ap, ◌∙◌, subst, inl, inr, arith, IsTrue, if◌then◌else◌}
use Rattle.std.proofs.{Common.{eq-eqb, ne_eqb}, Math.Nat.{max-zero, max_comm, le-max_right}}
use Rattle.std.proofs.lemmas.{Bool.{cases_eq, or_right}, List.{get_or-set_same, get_or-set_other, length-set}}
use Rattle.race_records.specs.declared.event.{Event.Event, Op.{Op, TheVariants.{Go, Read, Write, Send, Recv, Meet}}}
use Rattle.race_records.specs.declared.event.Op.TheVariants.{RecvClosed, Close, Lock, Unlock, RLock, RUnlock, TryLock}
use Rattle.race_records.specs.declared.event.Op.TheVariants.{TryRLock, OnceEnd, OnceDone}
use Rattle.race_model.specs.Events.{is_access, partner, gives, takes_part, count, sends, receives, closes, locks}
use Rattle.race_model.specs.{Events.{unlocks, runlocks, once_ends}, Order.{Begin, SynchronizedInside, IsSource}}
use Rattle.race_model.specs.{Order.Reaches, Known.SeenBy, Clocks.{participations, CountsBegins, owning, SeenFrom, CountsSeen, CountsFrom}}
use Rattle.race_model.proofs.ClockSteps.{Handed, CountsAt, counts_seen_from, counts_before, counts_at_begin}
use Rattle.race_model.proofs.{ClockSteps.{counts_alone, counts_pair, counts_other}, Reaching.who_takes_part}
use Rattle.race_model.proofs.{ClockLemmas.{one_if, participations_push, counts_like, counts_up, max_within}, SourceSteps.from_none}
use Rattle.race_clock.specs.{ClockState.{knows, joined, with_count}, ClocksState.{ThreadClockState, ClocksState, no_slot}}
use Rattle.race_clock.specs.ClocksState.{no_channel, no_lock, slot_of, next_slot, both_seen, met, clock_of, parts_of}
use Rattle.race_clock.specs.ClocksState.{channel_of, lock_of, end_of, begin_of, handed, channels_after, locks_after}
use Rattle.race_clock.specs.ClocksState.{ends_after, acted, paired, after, channel_sent, channel_received}
use Rattle.race_clock.specs.ClocksState.{channel_closed, lock_locked, lock_unlocked, lock_read_unlocked}
use Rattle.race_clock.specs.StandsFor.{StandsForChannel, StandsForLock, ClocksStandFor, CountsReaching}
use Rattle.race_clock.{specs.Needs.{OpHasClocks, HasClocks, KnowsUnlocks}, proofs.ClockLists.{knows_joined, knows_with_count}}
use Rattle.race_clock.proofs.{ClockLists.{joined_long, joined_long_right}, ChannelSteps.{all_same, all_more}}
use Rattle.race_clock.proofs.ChannelSteps.{hands_receive, hands_send, hands_closed, channel_same, channel_send}
use Rattle.race_clock.proofs.{ChannelSteps.{channel_receive, channel_close}, LockSteps.{hands_lock, hands_rlock}}
use Rattle.race_clock.proofs.LockSteps.{lock_same, lock_lock, lock_unlock, lock_runlock}

-- a send finds room, and a receive finds a value
abbrev pub FindsRoom : (ℕ → ℕ) → List Event → Op → Type 0
FindsRoom caps past (Send c v) = count (sends c) past < count (receives c) past + caps c
FindsRoom caps past (Recv c v) = count (receives c) past < count (sends c) past
FindsRoom caps past _ = Unit {0}

-- the greater of two is the one that is no less
max_above : (m n : ℕ) → m ≤ n → max m n ≡ n
max_above m n le = let up : max m n ≤ n = max_within m n n le (omega arith) in let down : n ≤ max m n = le-max_right m n in omega (arith, up, down)

-- What holds of each entry by its number holds after one was replaced, where it holds of the new one.
replaced : {A : Type 0} (P : ℕ → A → Type 0) (xs : List A) (d : ℕ) (v z : A) → (d < length xs → P d v)
    → ((g : ℕ) → g < length xs → d ≢ g → P g (get_or xs g z)) → (g : ℕ) → g < length (set xs d v) → P g (get_or (set xs d v) g z)
replaced P xs d v z here others g less = elim (cases_eq d g) [
  | inl same ↦ subst (λ g. P g (get_or (set xs d v) g z)) same (subst (P d) (sym (get_or-set_same xs d v z (at same))) (here (at same)))
  | inr differ ↦ subst (P g) (sym (get_or-set_other xs d g v z (λ e. differ (sym e)))) (others g within differ)
]
  where
    within : g < length xs
    within = omega (arith, less, length-set xs d v)

    at : d ≡ g → d < length xs
    at same = omega (arith, same, within)

-- a goroutine's clock and count are right
record IsThreadClock (caps : ℕ → ℕ) (past : List Event) (g : ℕ) (s : ThreadClockState) : Type 0 where
  wide : g < length s.clock
  parts : s.parts ≡ participations g past
  clock : CountsSeen caps past g (knows s.clock)

module _ (caps : ℕ → ℕ) (k : ClocksState) (past : List Event) (S : ClocksStandFor caps k past) where
  -- what the objects hand to an operation
  pub handed_counts : (o : Op) → OpHasClocks k o → FindsRoom caps past o → CountsFrom caps past (λ i s. IsSource caps past i s o) (knows (handed k o))
  handed_counts (Recv c v) within room = hands_receive caps past c (channel_of k.channels c) (S.all_channels c within) v room
  handed_counts (Send c v) within room = hands_send caps past c (channel_of k.channels c) (S.all_channels c within) v room
  handed_counts (RecvClosed c) within room = hands_closed caps past c (channel_of k.channels c) (S.all_channels c within)
  handed_counts (Lock l) within room = hands_lock caps past l (lock_of k.locks l) (S.all_locks l within)
  handed_counts (RLock l) within room = hands_rlock caps past l (lock_of k.locks l) (S.all_locks l within)
  handed_counts (TryLock l) within room = hands_lock caps past l (lock_of k.locks l) (S.all_locks l within)
  handed_counts (TryRLock l) within room = hands_rlock caps past l (lock_of k.locks l) (S.all_locks l within)
  handed_counts (OnceDone o) within room = S.all_ends o within
  handed_counts o within room = from_none caps past (λ i s. IsSource caps past i s o) (knows []) (λ i s at is. is) (λ h. refl)

  -- who has locked a lock since its last unlock knows what the unlocks had seen
  pub unlocks_known : (g l : ℕ) → g < length k.slots → l < length k.locks → KnowsUnlocks (lock_of k.locks l) g (begin_of k g)
  unlocks_known g l within below by h =
      let up : knows (lock_of k.locks l).unlocks h ≤ owning g (participations g past) (knows (clock_of k g)) h =
      counts_up past (knows (lock_of k.locks l).unlocks) (owning g (participations g past) (knows (clock_of k g)))
      (SeenFrom caps past (λ j s. IsTrue (unlocks l s))) (λ i h. SeenBy caps past i h g)
      (S.all_locks l below).all_unlocks (S.all_clocks g within) ((S.all_locks l below).seen g by) h in
      let begin : knows (begin_of k g) h ≡ owning g (parts_of k g + 1) (knows (clock_of k g)) h =
      knows_with_count (clock_of k g) g (parts_of k g + 1) h (S.wide g within) in
      let parts : parts_of k g ≡ participations g past = S.all_parts g within in
      elim (cases_eq h g) [
        | inl same ↦ omega (arith, up, begin, parts, own (participations g past) h same, own (parts_of k g + 1) h same)
        | inr differ ↦ omega (arith, up, begin, other (participations g past) h differ, other (parts_of k g + 1) h differ)
      ]
    where
      own : (n h : ℕ) → h ≡ g → owning g n (knows (clock_of k g)) h ≡ n
      own n h same = ap (λ b. if b then n else knows (clock_of k g) h) (eq-eqb h g same)

      other : (n h : ℕ) → h ≢ g → owning g n (knows (clock_of k g)) h ≡ knows (clock_of k g) h
      other n h differ = ap (λ b. if b then n else knows (clock_of k g) h) (ne_eqb h g differ)

  module _ (e : Event) where
    -- the clock of a participant's begin
    pub begin_counts : (g : ℕ) → g < length k.slots → IsTrue (takes_part g e) → CountsAt caps (past ++ e ∷ []) (length past) g (knows (begin_of k g))
    begin_counts g less is =
        counts_like (past ++ e ∷ []) (owning g (participations g past + 1) (knows (clock_of k g))) (knows (begin_of k g)) _
        (λ h. knows_with_count (clock_of k g) g (parts_of k g + 1) h (S.wide g less) ∙ ap (λ n. owning g (n + 1) (knows (clock_of k g)) h) (S.all_parts g less))
        (counts_at_begin caps past e g (knows (clock_of k g)) is (S.all_clocks g less))

    -- of others it knows what the clock knew
    begin_knows : (g h : ℕ) → g < length k.slots → h ≢ g → knows (begin_of k g) h ≡ knows (clock_of k g) h
    begin_knows g h less differ =
        knows_with_count (clock_of k g) g (parts_of k g + 1) h (S.wide g less)
        ∙ ap (λ b. if b then parts_of k g + 1 else knows (clock_of k g) h) (ne_eqb h g differ)

    -- and of g this begin
    begin_own : (g : ℕ) → g < length k.slots → knows (begin_of k g) g ≡ parts_of k g + 1
    begin_own g less = get_or-set_same (clock_of k g) g (parts_of k g + 1) 0 (S.wide g less)

    -- no other knows more of f than there is
    knows_within : (g f : ℕ) → g < length k.slots → f < length k.slots → f ≢ g → knows (clock_of k g) f ≤ parts_of k f
    knows_within g f within below differ =
        let bound : owning g (participations g past) (knows (clock_of k g)) f ≤ participations f past = (S.all_clocks g within).bound f in
        let other : owning g (participations g past) (knows (clock_of k g)) f ≡ knows (clock_of k g) f =
        ap (λ b. if b then participations g past else knows (clock_of k g) f) (ne_eqb f g differ) in
        let parts : parts_of k f ≡ participations f past = S.all_parts f below in
        omega (arith, bound, other, parts)

    -- what two have seen, with the begin of the second
    both_knows : (g f x : ℕ) → g < length k.slots → f < length k.slots → x ≢ g
        → owning f (parts_of k f + 1) (λ x. max (knows (clock_of k g) x) (knows (clock_of k f) x)) x ≡ max (knows (begin_of k g) x) (knows (begin_of k f) x)
    both_knows g f x within below apart = elim (cases_eq x f) [
      | inl same ↦ at_f same
      | inr differ ↦ rw (ne_eqb x f differ, begin_knows g x within apart, begin_knows f x below differ) refl
    ]
      where
        at_f : x ≡ f → owning f (parts_of k f + 1) (λ x. max (knows (clock_of k g) x) (knows (clock_of k f) x)) x
            ≡ max (knows (begin_of k g) x) (knows (begin_of k f) x)
        at_f same =
            let known : knows (clock_of k g) f ≤ parts_of k f = knows_within g f within below (λ is. apart (same ∙ is)) in
            rw (eq-eqb x f same, begin_knows g x within apart, same, begin_own f below)
            (sym (max_above (knows (clock_of k g) f) (parts_of k f + 1) (omega (arith, known))))

    -- participations one event on
    parts_more : (g : ℕ) → g < length k.slots → IsTrue (takes_part g e) → parts_of k g + 1 ≡ participations g (past ++ e ∷ [])
    parts_more g less is =
        let all : participations g (past ++ e ∷ []) ≡ participations g past + one_if (takes_part g e) = participations_push g past e in
        let unit : one_if (takes_part g e) ≡ 1 = ap one_if is in
        let old : parts_of k g ≡ participations g past = S.all_parts g less in
        omega (arith, all, unit, old)

    parts_same : (g : ℕ) → g < length k.slots → takes_part g e ≡ false → parts_of k g ≡ participations g (past ++ e ∷ [])
    parts_same g less none =
        let all : participations g (past ++ e ∷ []) ≡ participations g past + one_if (takes_part g e) = participations_push g past e in
        let zero : one_if (takes_part g e) ≡ 0 = ap one_if none in
        let old : parts_of k g ≡ participations g past = S.all_parts g less in
        omega (arith, all, zero, old)

    -- the objects
    channels_next : (o : Op) (b : List ℕ) → e.op ≡ o → FindsRoom caps past o → CountsAt caps (past ++ e ∷ []) (length past) e.who (knows b)
        → (c : ℕ) → c < length (channels_after k.channels o b) → StandsForChannel caps (past ++ e ∷ []) c (channel_of (channels_after k.channels o b) c)
    channels_next (Send d v) b is room own c less =
        replaced (StandsForChannel caps (past ++ e ∷ [])) k.channels d (channel_sent (channel_of k.channels d) b) no_channel
        (λ less. channel_send caps past d (channel_of k.channels d) (S.all_channels d less) e b
        (ap (sends d) is ∙ eq-eqb d d refl) (ap (receives d) is) (ap (closes d) is) room own)
        (λ c less differ. channel_same caps past c (channel_of k.channels c) (S.all_channels c less) e
        (ap (sends c) is ∙ ne_eqb d c differ) (ap (receives c) is) (ap (closes c) is)) c less
    channels_next (Recv d v) b is room own c less =
        replaced (StandsForChannel caps (past ++ e ∷ [])) k.channels d (channel_received (channel_of k.channels d) b) no_channel
        (λ less. channel_receive caps past d (channel_of k.channels d) (S.all_channels d less) e b
        (ap (receives d) is ∙ eq-eqb d d refl) (ap (sends d) is) (ap (closes d) is) room own)
        (λ c less differ. channel_same caps past c (channel_of k.channels c) (S.all_channels c less) e
        (ap (sends c) is) (ap (receives c) is ∙ ne_eqb d c differ) (ap (closes c) is)) c less
    channels_next (Close d) b is room own c less =
        replaced (StandsForChannel caps (past ++ e ∷ [])) k.channels d (channel_closed (channel_of k.channels d) b) no_channel
        (λ less. channel_close caps past d (channel_of k.channels d) (S.all_channels d less) e b
        (ap (closes d) is ∙ eq-eqb d d refl) (ap (sends d) is) (ap (receives d) is) own)
        (λ c less differ. channel_same caps past c (channel_of k.channels c) (S.all_channels c less) e
        (ap (sends c) is) (ap (receives c) is) (ap (closes c) is ∙ ne_eqb d c differ)) c less
    channels_next o b is room own c less =
        channel_same caps past c (channel_of k.channels c) (S.all_channels c less) e (ap (sends c) is) (ap (receives c) is) (ap (closes c) is)

    -- behind a lock of m
    lock_next : (m : ℕ) → ((l : ℕ) → locks l e.op ≡ (m == l)) → ((l : ℕ) → unlocks l e.op ≡ false) → ((l : ℕ) → runlocks l e.op ≡ false)
        → ((i : ℕ) (s : Op) → IsTrue (unlocks m s) → IsSource caps past i s e.op) → (l : ℕ) → l < length (set k.locks m (lock_locked (lock_of k.locks m) e.who))
        → StandsForLock caps (past ++ e ∷ []) l (lock_of (set k.locks m (lock_locked (lock_of k.locks m) e.who)) l)
    lock_next m is no_unlock no_runlock sources =
        replaced (StandsForLock caps (past ++ e ∷ [])) k.locks m (lock_locked (lock_of k.locks m) e.who) no_lock
        (λ less. lock_lock caps past m (lock_of k.locks m) (S.all_locks m less) e (no_unlock m) (is m ∙ eq-eqb m m refl) sources)
        (λ l less differ. lock_same caps past l (lock_of k.locks l) (S.all_locks l less) e (no_unlock l) (is l ∙ ne_eqb m l differ) (no_runlock l))

    locks_next : (o : Op) (b : List ℕ) → e.op ≡ o → CountsAt caps (past ++ e ∷ []) (length past) e.who (knows b)
        → (l : ℕ) → l < length (locks_after k.locks e.who o b) → StandsForLock caps (past ++ e ∷ []) l (lock_of (locks_after k.locks e.who o b) l)
    locks_next (Lock m) b is own l less =
        lock_next m (λ l. ap (locks l) is) (λ l. ap (unlocks l) is) (λ l. ap (runlocks l) is) (λ i s by. subst (IsSource caps past i s) (sym is) (inl by)) l less
    locks_next (TryLock m) b is own l less =
        lock_next m (λ l. ap (locks l) is) (λ l. ap (unlocks l) is) (λ l. ap (runlocks l) is) (λ i s by. subst (IsSource caps past i s) (sym is) (inl by)) l less
    locks_next (Unlock m) b is own l less =
        replaced (StandsForLock caps (past ++ e ∷ [])) k.locks m (lock_unlocked (lock_of k.locks m) b) no_lock
        (λ less. lock_unlock caps past m (lock_of k.locks m) (S.all_locks m less) e b
        (ap (unlocks m) is ∙ eq-eqb m m refl) (ap (locks m) is) (ap (runlocks m) is) own)
        (λ l less differ. lock_same caps past l (lock_of k.locks l) (S.all_locks l less) e
        (ap (unlocks l) is ∙ ne_eqb m l differ) (ap (locks l) is) (ap (runlocks l) is)) l less
    locks_next (RUnlock m) b is own l less =
        replaced (StandsForLock caps (past ++ e ∷ [])) k.locks m (lock_read_unlocked (lock_of k.locks m) b) no_lock
        (λ less. lock_runlock caps past m (lock_of k.locks m) (S.all_locks m less) e b
        (ap (unlocks m) is) (ap (locks m) is) (ap (runlocks m) is ∙ eq-eqb m m refl) own)
        (λ l less differ. lock_same caps past l (lock_of k.locks l) (S.all_locks l less) e
        (ap (unlocks l) is) (ap (locks l) is) (ap (runlocks l) is ∙ ne_eqb m l differ)) l less
    locks_next o b is own l less =
        lock_same caps past l (lock_of k.locks l) (S.all_locks l less) e (ap (unlocks l) is) (ap (locks l) is) (ap (runlocks l) is)

    ends_next : (o : Op) (b : List ℕ) → e.op ≡ o → CountsAt caps (past ++ e ∷ []) (length past) e.who (knows b) → (p : ℕ) → p < length (ends_after k.ends o b)
        → CountsFrom caps (past ++ e ∷ []) (λ i s. IsTrue (once_ends p s)) (knows (end_of (ends_after k.ends o b) p))
    ends_next (OnceEnd q) b is own p less =
        replaced (λ p c. CountsFrom caps (past ++ e ∷ []) (λ i s. IsTrue (once_ends p s)) (knows c)) k.ends q (joined (end_of k.ends q) b) []
        (λ less. all_more caps past e (once_ends q) (end_of k.ends q) (S.all_ends q less) b (ap (once_ends q) is ∙ eq-eqb q q refl) own)
        (λ p less differ. all_same caps past e (once_ends p) (end_of k.ends p) (S.all_ends p less) (ap (once_ends p) is ∙ ne_eqb q p differ)) p less
    ends_next o b is own p less = all_same caps past e (once_ends p) (end_of k.ends p) (S.all_ends p less) (ap (once_ends p) is)

    -- who takes part in an operation without a partner
    sole_part : (g : ℕ) → partner e.op ≡ None → e.who ≢ g → takes_part g e ≡ false
    sole_part g none differ = ap (λ b. b || gives (partner e.op) g) (ne_eqb e.who g differ) ∙ ap (λ o. gives o g) none

    -- a goroutine that takes part, with the clock that it gets, and one that doesn't
    slot_next : (g : ℕ) (c : List ℕ) → g < length k.slots → IsTrue (takes_part g e) → g < length c → CountsSeen caps (past ++ e ∷ []) g (knows c)
        → IsThreadClock caps (past ++ e ∷ []) g (next_slot k g c)
    slot_next g c less is long seen = record { wide = long; parts = parts_more g less is; clock = seen }

    slot_same : (g : ℕ) → g < length k.slots → takes_part g e ≡ false → IsThreadClock caps (past ++ e ∷ []) g (slot_of k g)
    slot_same g less none = record {
      wide = S.wide g less;
      parts = parts_same g less none;
      clock = counts_other caps past e g (knows (clock_of k g)) none (S.all_clocks g less);
    }

    -- one goroutine acts
    acted_stands : (c : List ℕ) → partner e.op ≡ None → e.who < length k.slots
        → FindsRoom caps past e.op → e.who < length c → CountsSeen caps (past ++ e ∷ []) e.who (knows c)
        → ClocksStandFor caps (acted k e.who e.op c) (past ++ e ∷ [])
    acted_stands c none within room long new = record {
      wide = λ g less. (slots g less).wide;
      all_parts = λ g less. (slots g less).parts;
      all_clocks = λ g less. (slots g less).clock;
      all_channels = channels_next e.op (begin_of k e.who) refl room own;
      all_locks = locks_next e.op (begin_of k e.who) refl own;
      all_ends = ends_next e.op (begin_of k e.who) refl own;
    }
      where
        slots : (g : ℕ) → g < length (set k.slots e.who (next_slot k e.who c))
            → IsThreadClock caps (past ++ e ∷ []) g (get_or (set k.slots e.who (next_slot k e.who c)) g no_slot)
        slots = replaced (IsThreadClock caps (past ++ e ∷ [])) k.slots e.who (next_slot k e.who c) no_slot
            (λ less. slot_next e.who c less (who_takes_part e) long new) (λ g less differ. slot_same g less (sole_part g none differ))

        own : CountsAt caps (past ++ e ∷ []) (length past) e.who (knows (begin_of k e.who))
        own = begin_counts e.who within (who_takes_part e)

    -- no other takes part in an event of two
    others_part : (h g : ℕ) → partner e.op ≡ Some h → e.who ≢ g → h ≢ g → takes_part g e ≡ false
    others_part h g two differ apart = ap (λ b. b || gives (partner e.op) g) (ne_eqb e.who g differ) ∙ ap (λ o. gives o g) two ∙ ne_eqb h g apart

    second_part : (h : ℕ) → partner e.op ≡ Some h → IsTrue (takes_part h e)
    second_part h two = or_right (e.who == h) (gives (partner e.op) h) (ap (λ o. gives o h) two ∙ eq-eqb h h refl)

    -- two goroutines take part, and no object
    paired_stands : (h : ℕ) (c d : List ℕ) → partner e.op ≡ Some h → e.who < length k.slots → h < length k.slots → e.who < length c → h < length d
        → (h ≢ e.who → CountsSeen caps (past ++ e ∷ []) e.who (knows c)) → CountsSeen caps (past ++ e ∷ []) h (knows d)
        → ((c : ℕ) → c < length k.channels → StandsForChannel caps (past ++ e ∷ []) c (channel_of k.channels c))
        → ((l : ℕ) → l < length k.locks → StandsForLock caps (past ++ e ∷ []) l (lock_of k.locks l))
        → ((o : ℕ) → o < length k.ends → CountsFrom caps (past ++ e ∷ []) (λ i s. IsTrue (once_ends o s)) (knows (end_of k.ends o)))
        → ClocksStandFor caps (paired k e.who h c d) (past ++ e ∷ [])
    paired_stands h c d two within beside long wide_enough first second channels locks ends = record {
      wide = λ g less. (slots g less).wide;
      all_parts = λ g less. (slots g less).parts;
      all_clocks = λ g less. (slots g less).clock;
      all_channels = channels;
      all_locks = locks;
      all_ends = ends;
    }
      where
        -- all but the second
        first_slots : (g : ℕ) → g < length (set k.slots e.who (next_slot k e.who c)) → h ≢ g
            → IsThreadClock caps (past ++ e ∷ []) g (get_or (set k.slots e.who (next_slot k e.who c)) g no_slot)
        first_slots = replaced (λ g s. h ≢ g → IsThreadClock caps (past ++ e ∷ []) g s) k.slots e.who (next_slot k e.who c) no_slot
            (λ less apart. slot_next e.who c less (who_takes_part e) long (first apart))
            (λ g less differ apart. slot_same g less (others_part h g two differ apart))

        slots : (g : ℕ) → g < length (set (set k.slots e.who (next_slot k e.who c)) h (next_slot k h d))
            → IsThreadClock caps (past ++ e ∷ []) g (get_or (set (set k.slots e.who (next_slot k e.who c)) h (next_slot k h d)) g no_slot)
        slots = replaced (IsThreadClock caps (past ++ e ∷ [])) (set k.slots e.who (next_slot k e.who c)) h (next_slot k h d) no_slot
            (λ less. slot_next h d beside (second_part h two) wide_enough second) first_slots

    -- the clock of a goroutine that acts alone: right where it is, of all others, what the begin knew or the objects hand over
    alone_seen : (c : List ℕ) → e.who < length k.slots → OpHasClocks k e.op → FindsRoom caps past e.op → ((f : ℕ) → SynchronizedInside e.who e.op f e.who → ⊥)
        → ((h : ℕ) → h ≢ e.who → knows c h ≡ max (knows (begin_of k e.who) h) (knows (handed k e.op) h)) → CountsSeen caps (past ++ e ∷ []) e.who (knows c)
    alone_seen c within range room no_partner same =
        counts_seen_from caps (past ++ e ∷ []) e.who (knows c) (λ h. max (knows (begin_of k e.who) h) (knows (handed k e.op) h))
        (counts_alone caps past e (knows (begin_of k e.who)) (knows (handed k e.op)) no_partner (begin_counts e.who within (who_takes_part e))
        (handed_counts e.op range room)) same

    -- the clock of one of two
    pair_seen : (f g : ℕ) (c : List ℕ) → f < length k.slots → g < length k.slots
        → IsTrue (takes_part f e) → IsTrue (takes_part g e) → SynchronizedInside e.who e.op f g
        → ((x : ℕ) → SynchronizedInside e.who e.op x g → x ≡ f)
        → ((i h : ℕ) → Handed caps past e.op i h → ⊥)
        → ((x : ℕ) → x ≢ g → knows c x ≡ owning f (parts_of k f + 1) (λ x. max (knows (clock_of k g) x) (knows (clock_of k f) x)) x)
        → CountsSeen caps (past ++ e ∷ []) g (knows c)
    pair_seen f g c below within is_f is_g inside sole unhanded same =
        counts_seen_from caps (past ++ e ∷ []) g (knows c) (λ h. max (knows (begin_of k g) h) (knows (begin_of k f) h))
        (counts_pair caps past e f g (knows (begin_of k g)) (knows (begin_of k f))
        is_g inside sole unhanded (begin_counts g within is_g) (begin_counts f below is_f))
        (λ h differ. same h differ ∙ both_knows g f h within below differ)

    -- behind an access the clock has as many own begins as stood before it
    pub access_counts : e.who < length k.slots
        → CountsBegins (past ++ e ∷ []) (knows (with_count (clock_of k e.who) e.who (parts_of k e.who)))
        (λ i h. Reaches caps (past ++ e ∷ []) (Begin i h) (Begin (length past) e.who))
    access_counts within =
        counts_like (past ++ e ∷ []) (owning e.who (participations e.who past) (knows (clock_of k e.who)))
        (knows (with_count (clock_of k e.who) e.who (parts_of k e.who))) _
        (λ h. knows_with_count (clock_of k e.who) e.who (parts_of k e.who) h (S.wide e.who within) ∙ ap (λ n. owning e.who n (knows (clock_of k e.who)) h)
        (S.all_parts e.who within))
        (counts_before caps past e e.who (owning e.who (participations e.who past) (knows (clock_of k e.who))) (who_takes_part e) (S.all_clocks e.who within))

    -- what the two clocks know behind their event
    both_seen_knows : (g f x : ℕ) → f < length k.slots
        → knows (both_seen k g f) x ≡ owning f (parts_of k f + 1) (λ x. max (knows (clock_of k g) x) (knows (clock_of k f) x)) x
    both_seen_knows g f x below =
        knows_with_count (joined (clock_of k g) (clock_of k f)) f (parts_of k f + 1) x
        (let le : length (clock_of k f) ≤ length (joined (clock_of k g) (clock_of k f)) = joined_long_right (clock_of k g) (clock_of k f) in
        let long : f < length (clock_of k f) = S.wide f below in omega (arith, le, long))
        ∙ ap (λ n. if x == f then parts_of k f + 1 else n) (knows_joined (clock_of k g) (clock_of k f) x)

    met_long : (s r g : ℕ) → s < length k.slots → g < length (clock_of k s) → g < length (met k s r)
    met_long s r g within long =
        let le : length (clock_of k s) ≤ length (joined (clock_of k s) (clock_of k r)) = joined_long (clock_of k s) (clock_of k r) in
        omega (
          arith,
          le,
          long,
          length-set (with_count (joined (clock_of k s) (clock_of k r)) s (parts_of k s + 1)) r (parts_of k r + 1),
          length-set
              (joined (clock_of k s) (clock_of k r)) s (parts_of k s + 1),
        )

    met_long_right : (s r g : ℕ) → r < length k.slots → g < length (clock_of k r) → g < length (met k s r)
    met_long_right s r g within long =
        let le : length (clock_of k r) ≤ length (joined (clock_of k s) (clock_of k r)) = joined_long_right (clock_of k s) (clock_of k r) in
        omega (
          arith,
          le,
          long,
          length-set (with_count (joined (clock_of k s) (clock_of k r)) s (parts_of k s + 1)) r (parts_of k r + 1),
          length-set
              (joined (clock_of k s) (clock_of k r)) s (parts_of k s + 1),
        )

    met_knows : (s r x : ℕ) → s < length k.slots → r < length k.slots
        → knows (met k s r) x ≡ owning r (parts_of k r + 1) (owning s (parts_of k s + 1) (λ x. max (knows (clock_of k s) x) (knows (clock_of k r) x))) x
    met_knows s r x within beside =
        let le : length (clock_of k s) ≤ length (joined (clock_of k s) (clock_of k r)) = joined_long (clock_of k s) (clock_of k r) in
        let right : length (clock_of k r) ≤ length (joined (clock_of k s) (clock_of k r)) = joined_long_right (clock_of k s) (clock_of k r) in
        let long : s < length (clock_of k s) = S.wide s within in
        let far : r < length (clock_of k r) = S.wide r beside in
        knows_with_count (with_count (joined (clock_of k s) (clock_of k r)) s (parts_of k s + 1)) r (parts_of k r + 1) x
        (omega (arith, right, far, length-set (joined (clock_of k s) (clock_of k r)) s (parts_of k s + 1)))
        ∙ ap (λ n. if x == r then parts_of k r + 1 else n)
        (knows_with_count (joined (clock_of k s) (clock_of k r)) s (parts_of k s + 1) x (omega (arith, le, long))
        ∙ ap (λ n. if x == s then parts_of k s + 1 else n)
        (knows_joined (clock_of k s) (clock_of k r) x))

    -- the next state stands for the longer list
    pub stands_after : HasClocks k e.who e.op → FindsRoom caps past e.op → ClocksStandFor caps (after k e.who e.op) (past ++ e ∷ [])
    stands_after (within, range) room = go e.op refl
      where
        mine : e.who < length (clock_of k e.who)
        mine = S.wide e.who within

        -- an operation without a partner, whose goroutine's clock is joined with what it is handed
        joins : (o : Op) → e.op ≡ o → partner o ≡ None → ((f : ℕ) → SynchronizedInside e.who o f e.who → ⊥)
            → ClocksStandFor caps (acted k e.who o (joined (clock_of k e.who) (handed k o))) (past ++ e ∷ [])
        joins o is none no_partner =
            subst (λ o. ClocksStandFor caps (acted k e.who o (joined (clock_of k e.who) (handed k o))) (past ++ e ∷ [])) is
            (acted_stands (joined (clock_of k e.who) (handed k e.op)) (ap partner is ∙ none) within room
            (let le : length (clock_of k e.who) ≤ length (joined (clock_of k e.who) (handed k e.op)) =
            joined_long (clock_of k e.who) (handed k e.op) in omega (arith, le, mine))
            (alone_seen (joined (clock_of k e.who) (handed k e.op)) within range room
            (λ f inside. no_partner f (subst (λ o. SynchronizedInside e.who o f e.who) is inside))
            (λ h differ. knows_joined (clock_of k e.who) (handed k e.op) h
            ∙ ap (λ n. max n (knows (handed k e.op) h)) (sym (begin_knows e.who h within differ)))))

        -- an access
        keeps : (o : Op) → e.op ≡ o → partner o ≡ None → ((f : ℕ) → SynchronizedInside e.who o f e.who → ⊥) → handed k o ≡ []
            → ClocksStandFor caps (acted k e.who o (with_count (clock_of k e.who) e.who (parts_of k e.who))) (past ++ e ∷ [])
        keeps o is none no_partner nothing =
            subst (λ o. ClocksStandFor caps (acted k e.who o (with_count (clock_of k e.who) e.who (parts_of k e.who))) (past ++ e ∷ [])) is
            (acted_stands (with_count (clock_of k e.who) e.who (parts_of k e.who)) (ap partner is ∙ none) within room
            (omega (arith, mine, length-set (clock_of k e.who) e.who (parts_of k e.who)))
            (alone_seen (with_count (clock_of k e.who) e.who (parts_of k e.who)) within range room
            (λ f inside. no_partner f (subst (λ o. SynchronizedInside e.who o f e.who) is inside))
            (λ h differ. knows_with_count (clock_of k e.who) e.who (parts_of k e.who) h mine
            ∙ ap (λ b. if b then parts_of k e.who else knows (clock_of k e.who) h)
            (ne_eqb h e.who differ) ∙ sym (begin_knows e.who h within differ) ∙ sym (max-zero (knows (begin_of k e.who) h))
            ∙ ap (λ d. max (knows (begin_of k e.who) h) (knows d h)) (sym (ap (handed k) is ∙ nothing)))))

        starts : (h : ℕ) → e.op ≡ Go h → h < length k.slots → ClocksStandFor caps (paired k e.who h (clock_of k e.who) (both_seen k h e.who)) (past ++ e ∷ [])
        starts h is beside =
            paired_stands h (clock_of k e.who) (both_seen k h e.who) two within beside mine
            (let le : length (clock_of k h) ≤ length (joined (clock_of k h) (clock_of k e.who)) = joined_long (clock_of k h) (clock_of k e.who) in
            let long : h < length (clock_of k h) = S.wide h beside in
            omega (arith, le, long, length-set (joined (clock_of k h) (clock_of k e.who)) e.who (parts_of k e.who + 1)))
            (λ apart. alone_seen (clock_of k e.who) within range room
            (λ f inside. let ends : (e.who ≡ f) × (h ≡ e.who) = subst (λ o. SynchronizedInside e.who o f e.who) is inside in apart ends.1)
            (λ x differ. sym (begin_knows e.who x within differ) ∙ sym (max-zero (knows (begin_of k e.who) x))
            ∙ ap (λ d. max (knows (begin_of k e.who) x) (knows d x))
            (sym (ap (handed k) is))))
            (pair_seen e.who h (both_seen k h e.who) within beside (who_takes_part e) (second_part h two)
            (subst (λ o. SynchronizedInside e.who o e.who h) (sym is) (refl, refl))
            (λ x inside. let ends : (e.who ≡ x) × (h ≡ h) = subst (λ o. SynchronizedInside e.who o x h) is inside in sym ends.0)
            (λ i g by. unhanded by.0 by.1 by.3)
            (λ x differ. both_seen_knows h e.who x within))
            (channels_next (Go h) (begin_of k e.who) is tt own)
            (locks_next (Go h) (begin_of k e.who) is own)
            (ends_next (Go h) (begin_of k e.who) is own)
          where
            two : partner e.op ≡ Some h
            two = ap partner is

            unhanded : (i : ℕ) (s : Event) → IsSource caps past i s.op e.op → ⊥
            unhanded i s source = subst (λ o. IsSource caps past i s.op o) is source

            own : CountsAt caps (past ++ e ∷ []) (length past) e.who (knows (begin_of k e.who))
            own = begin_counts e.who within (who_takes_part e)

        meets : (r c v : ℕ) → e.op ≡ Meet r c v → r < length k.slots → ClocksStandFor caps (paired k e.who r (met k e.who r) (met k e.who r)) (past ++ e ∷ [])
        meets r c v is beside =
            paired_stands r (met k e.who r) (met k e.who r) two within beside
            (met_long e.who r e.who within mine) (met_long_right e.who r r beside (S.wide r beside))
            (λ apart. pair_seen r e.who (met k e.who r) beside within (second_part r two) (who_takes_part e)
            (subst (λ o. SynchronizedInside e.who o r e.who) (sym is) (inr (refl, refl)))
            (λ x inside. from_receiver x (subst (λ o. SynchronizedInside e.who o x e.who) is inside))
            (λ i g by. unhanded by.0 by.1 by.3)
            (λ x differ. met_knows e.who r x within beside ∙ ap (λ n. if x == r then parts_of k r + 1 else n)
            (ap (λ b. if b then parts_of k e.who + 1 else max (knows (clock_of k e.who) x) (knows (clock_of k r) x)) (ne_eqb x e.who differ))))
            (pair_seen e.who r (met k e.who r) within beside (who_takes_part e) (second_part r two)
            (subst (λ o. SynchronizedInside e.who o e.who r) (sym is) (inl (refl, refl)))
            (λ x inside. from_sender x (subst (λ o. SynchronizedInside e.who o x r) is inside))
            (λ i g by. unhanded by.0 by.1 by.3)
            (λ x differ. met_knows e.who r x within beside ∙ ap
            (λ b. if b then parts_of k r + 1 else owning e.who (parts_of k e.who + 1)
            (λ x. max (knows (clock_of k e.who) x) (knows (clock_of k r) x)) x) (ne_eqb x r differ)
            ∙ ap (λ n. if x == e.who then parts_of k e.who + 1 else n) (max_comm (knows (clock_of k e.who) x) (knows (clock_of k r) x))))
            (channels_next (Meet r c v) (begin_of k e.who) is tt own)
            (locks_next (Meet r c v) (begin_of k e.who) is own)
            (ends_next (Meet r c v) (begin_of k e.who) is own)
          where
            two : partner e.op ≡ Some r
            two = ap partner is

            from_receiver : (x : ℕ) → SynchronizedInside e.who (Meet r c v) x e.who → x ≡ r
            from_receiver x (inl (from, to)) = sym from ∙ sym to
            from_receiver x (inr (from, to)) = sym from

            from_sender : (x : ℕ) → SynchronizedInside e.who (Meet r c v) x r → x ≡ e.who
            from_sender x (inl (from, to)) = sym from
            from_sender x (inr (from, to)) = sym from ∙ sym to

            unhanded : (i : ℕ) (s : Event) → IsSource caps past i s.op e.op → ⊥
            unhanded i s source = subst (λ o. IsSource caps past i s.op o) is source

            own : CountsAt caps (past ++ e ∷ []) (length past) e.who (knows (begin_of k e.who))
            own = begin_counts e.who within (who_takes_part e)

        go : (o : Op) → e.op ≡ o → ClocksStandFor caps (after k e.who o) (past ++ e ∷ [])
        go (Go h) is = starts h is (subst (OpHasClocks k) is range)
        go (Meet r c v) is = meets r c v is (subst (OpHasClocks k) is range)
        go (Read x v) is = keeps (Read x v) is refl (λ f inside. inside) refl
        go (Write x v) is = keeps (Write x v) is refl (λ f inside. inside) refl
        go o is = joins o is refl (λ f inside. inside)

-- the clock behind an access
clock_after_access : (k : ClocksState) (who : ℕ) (o : Op) → who < length k.slots → IsTrue (is_access o)
    → clock_of (after k who o) who ≡ with_count (clock_of k who) who (parts_of k who)
clock_after_access k who (Read x v) less is =
    ap (λ (s : ThreadClockState). s.clock) (get_or-set_same k.slots who (next_slot k who (with_count (clock_of k who) who (parts_of k who))) no_slot less)
clock_after_access k who (Write x v) less is =
    ap (λ (s : ThreadClockState). s.clock) (get_or-set_same k.slots who (next_slot k who (with_count (clock_of k who) who (parts_of k who))) no_slot less)
clock_after_access k who _ less is = cc

-- counts what reaches it
pub reaching_after : (caps : ℕ → ℕ) (k : ClocksState) (past : List Event) (e : Event)
    → ClocksStandFor caps k past → e.who < length k.slots → IsTrue (is_access e.op)
    → CountsReaching caps past e e.who (clock_of (after k e.who e.op) e.who)
reaching_after caps k past e S less is =
    subst (λ c. CountsReaching caps past e e.who c) (sym (clock_after_access k e.who e.op less is)) (access_counts caps k past S e less)

-- no goroutine comes or goes
pub length_after : (k : ClocksState) (who : ℕ) (o : Op) → length (after k who o).slots ≡ length k.slots
length_after k who (Go h) =
    length-set (set k.slots who (next_slot k who (clock_of k who))) h (next_slot k h (both_seen k h who))
    ∙ length-set k.slots who (next_slot k who (clock_of k who))
length_after k who (Meet r c v) =
    length-set (set k.slots who (next_slot k who (met k who r))) r (next_slot k r (met k who r)) ∙ length-set k.slots who (next_slot k who (met k who r))
length_after k who (Read x v) = length-set k.slots who _
length_after k who (Write x v) = length-set k.slots who _
length_after k who o = length-set k.slots who _
