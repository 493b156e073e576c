-- Before the first event.
use Rattle.std.proofs.Common.{◌≡◌, ℕ, zero, suc, ◌+◌, ◌-◌, ◌<◌, ◌==◌, Bool, true, false, List, [], ◌∷◌, ◌++◌, length}
use Rattle.std.proofs.Common.{replicate, get_or, refl, sym, ap, ◌∙◌, subst, inl, inr, arith, if◌then◌else◌}
use Rattle.std.proofs.{Common.length-append, lemmas.Bool.cases_lt}
use Rattle.std.proofs.lemmas.List.{get_or_append_left, length-replicate, get_or-replicate}
use Rattle.std.proofs.Math.Seq.{get_or-append_seam}
use Rattle.race_records.specs.declared.{event.Op.Op, kind.Kind.Kind}
use Rattle.race_records.specs.Declarations.{Declaration, count_of, capacity_of}
use Rattle.race_model.{specs.{Known.SeenBy, Clocks.{CountsSeen, CountsFrom}}, proofs.SeenSteps.seen_none}
use Rattle.race_model.proofs.{ClockLemmas.counts_none, SourceSteps.from_none}
use Rattle.race_clock.specs.{ClockState.{knows, padded}, ClocksState.{ChannelState, ThreadClockState, ClocksState, no_slot}}
use Rattle.race_clock.specs.ClocksState.{no_channel, no_lock, slot_of, channel_of, lock_of, end_of, first_slot}
use Rattle.race_clock.specs.{ClocksState.first_slots, First.IsFirst}
use Rattle.race_clock.specs.StandsFor.{StandsForChannel, StandsForLock, StandsFor}
use Rattle.race_clock.proofs.ClockLists.{knows_padded, long_enough}

length_slots : (n : ℕ) → length (first_slots n) ≡ n
length_slots zero = refl
length_slots (suc n) =
    length-append (first_slots n) (first_slot n ∷ [])
    ∙ (let all : length (first_slots n) ≡ n = length_slots n in let more : length (first_slots n) + 1 ≡ suc n = omega (arith, all) in more)

slot_at : (n g : ℕ) → g < n → get_or (first_slots n) g no_slot ≡ first_slot g
slot_at zero g less = absurd (omega arith)
slot_at (suc n) g less = elim (cases_lt g n) [
  | inl old ↦ get_or_append_left (first_slots n) (first_slot n ∷ []) no_slot g (omega (arith, old, length_slots n)) ∙ slot_at n g old
  | inr last ↦
      let same : g ≡ n = omega arith in
      ap (λ g. get_or (first_slots n ++ first_slot n ∷ []) g no_slot) (same ∙ sym (length_slots n))
      ∙ get_or-append_seam (first_slots n) (first_slot n) [] no_slot
      ∙ ap first_slot (sym same)
]

no_event : (caps : ℕ → ℕ) (Q : ℕ → Op → Type 0) (c : List ℕ) → ((h : ℕ) → knows c h ≡ 0) → CountsFrom caps [] Q (knows c)
no_event caps Q c none = from_none caps [] Q (knows c) (λ k s at is. cc) none

-- a list of empty clocks has no other
blank : (n o : ℕ) → get_or {A = List ℕ} (replicate n []) o [] ≡ []
blank zero o = refl
blank (suc n) zero = refl
blank (suc n) (suc o) = blank n o

-- a channel more
pub each_more : (channels : List ChannelState) (F : ℕ → ChannelState) (n : ℕ) (ch : ChannelState)
    → length channels ≡ n → ((c : ℕ) → c < n → channel_of channels c ≡ F c)
    → ch ≡ F n
    → (c : ℕ) → c < n + 1 → channel_of (channels ++ ch ∷ []) c ≡ F c
each_more channels F n ch long each is c less = elim (cases_lt c n) [
  | inl old ↦ get_or_append_left channels (ch ∷ []) no_channel c (omega (arith, old, long)) ∙ each c old
  | inr last ↦
      let same : c ≡ n = omega (arith, less, last) in
      ap (channel_of (channels ++ ch ∷ [])) (same ∙ sym long) ∙ get_or-append_seam channels ch [] no_channel ∙ is ∙ ap F (sym same)
]

-- the first clocks stand for the empty list
module _ (declarations : List Declaration) (k : ClocksState) where
  pub opening_stands : IsFirst declarations k → StandsFor declarations (record { len = 0; clocks = k }) []
  opening_stands first = record {
    len = refl;
    all_goroutines = ap length first.slots ∙ length_slots (count_of Kind.Goroutine declarations);
    all_chans = first.all_channels;
    all_locks = ap length first.locks ∙ length-replicate (count_of Kind.Lock declarations) no_lock;
    all_onces = ap length first.ends ∙ length-replicate {A = List ℕ} (count_of Kind.Once declarations) [];
    clocks = record {
      wide = λ g less. subst (λ (s : ThreadClockState). g < length s.clock) (sym (slot_of_first g less)) (long_enough [] g);
      all_parts = λ g less. ap (λ (s : ThreadClockState). s.parts) (slot_of_first g less);
      all_clocks = λ g less.
          subst (λ (s : ThreadClockState). CountsSeen caps [] g (knows s.clock)) (sym (slot_of_first g less))
          (counts_none [] _ (λ i h. SeenBy caps [] i h g) (own g) (λ i h seen. seen_none caps i h g seen));
      all_channels = λ c less. subst (StandsForChannel caps [] c) (sym (first.each_channel c less)) (record {
        room = refl;
        sent = record { all = refl; each = λ j less. absurd (omega arith) };
        freed = record { all = nothing (caps c); each = λ j less. absurd (omega arith) };
        closed = no_event caps _ [] (λ h. refl);
      });
      all_locks = λ l less. subst (StandsForLock caps [] l) (sym (lock_at l less)) (record {
        all_unlocks = no_event caps _ [] (λ h. refl);
        last_unlock = no_event caps _ [] (λ h. refl);
        new_runlocks = no_event caps _ [] (λ h. refl);
        seen = λ g is. cc;
      });
      all_ends = λ o less. no_event caps _ _ (none o);
    };
  }
    where
      caps : ℕ → ℕ
      caps = capacity_of declarations

      slot_of_first : (g : ℕ) → g < length k.slots → slot_of k g ≡ first_slot g
      slot_of_first g less =
          ap (λ (ss : List ThreadClockState). get_or ss g no_slot) first.slots
          ∙ slot_at (count_of Kind.Goroutine declarations) g (omega (arith, less, ap length first.slots, length_slots (count_of Kind.Goroutine declarations)))

      lock_at : (l : ℕ) → l < length k.locks → lock_of k.locks l ≡ no_lock
      lock_at l less =
          ap (λ ls. lock_of ls l) first.locks
          ∙ get_or-replicate (count_of Kind.Lock declarations) l no_lock no_lock
          (omega (arith, less, ap length first.locks, length-replicate (count_of Kind.Lock declarations) no_lock))

      nothing : (n : ℕ) → 0 - n + 0 ≡ 0
      nothing n = omega arith

      own : (g h : ℕ) → (if h == g then 0 else knows (padded [] (g + 1)) h) ≡ 0
      own g h = go (h == g)
        where
          go : (b : Bool) → (if b then 0 else knows (padded [] (g + 1)) h) ≡ 0
          go true = refl
          go false = knows_padded [] (g + 1) h

      none : (o h : ℕ) → knows (end_of k.ends o) h ≡ 0
      none o h = ap (λ es. knows (end_of es o) h) first.ends ∙ ap (λ c. knows c h) (blank (count_of Kind.Once declarations) o)
