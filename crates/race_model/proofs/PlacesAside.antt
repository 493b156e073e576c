-- Lists of events that differ in places alone are judged alike.
use Rattle.std.proofs.Common.{◌≡◌, ℕ, ◌+◌, ◌-◌, cond, ◌==◌, ◌||◌, ◌&&◌, not, Bool, false, IsTrue, nat_lt, List, [], ◌∷◌}
use Rattle.std.proofs.Common.{Option, Some, None, is_some, if◌then◌else◌, option_map, count_by, filter_map, take}
use Rattle.std.proofs.{Common.{slice_get, unwrap_or, refl, sym, ap, ◌∙◌, subst, inl, inr}, lemmas.List.take-map}
use Rattle.std.proofs.lemmas.{List.Folds.fold-map, Option.{none-some, same_Some, slice_get-map}}
use Rattle.std.specs.List.{cons_option, list_any}
use Rattle.race_records.specs.declared.event.{Event.Event, Cause.{Cause, TheVariants.{SendClosed, CloseClosed}}}
use Rattle.race_records.specs.declared.event.{Cause.TheVariants.{CloseNil, UnlockFree, RUnlockFree}, Op.Op}
use Rattle.race_records.specs.declared.event.Op.TheVariants.{Go, Exit, Read, Write, Send, Recv, Meet, RecvClosed, Close}
use Rattle.race_records.specs.declared.event.Op.TheVariants.{Default, Lock, Unlock, RLock, TryLock, TryRLock, TryFail}
use Rattle.race_records.specs.declared.event.Op.TheVariants.{RUnlock, OnceBegin, OnceEnd, OnceDone, Fault}
use Rattle.race_records.specs.declared.cases.{Case.Case, Dir.Dir}
use Rattle.race_model.specs.Events.{At, operations, TakesPart, partner, gives, starts, is_exit, writes, accesses, count}
use Rattle.race_model.specs.Events.{sends, receives, closes, locks, unlocks, rlocks, runlocks, once_begins, once_ends}
use Rattle.race_model.specs.{Events.{is_fault, has, has_exited, last_of}, State.{over, started, runs, written}}
use Rattle.race_model.specs.State.{last_value, is_closed, buffered, sent, front, is_held, is_read_held, unended_once}
use Rattle.race_model.specs.{State.innermost, Legal.{op_rules, can_proceed, is_ready, cause_holds, receiver_runs}}
use Rattle.race_model.specs.{Legal.{least_broken, broken, IsLegal, IsIllegalAt}, Order.{Point, Begin, End}}
use Rattle.race_model.specs.Order.{SequencedBefore, SynchronizedInside, IsSource, SynchronizedBefore, Step, Reaches}
use Rattle.race_model.specs.{Order.{one_step, then_step, HappensBefore}, Race.{IsAccessOf, IsWriteOf, Conflict, IsRace}}
use Rattle.race_model.specs.{Race.IsReportedRace, Verdict.{Verdict, Illegal, Clean, Races, IsVerdict}}

abbrev doing : Event → ℕ × Op
doing e = (e.who, e.op)

-- a count and a last element by what is done
count_of_operations : (p : ℕ × Op → Bool) (es : List Event) → count_by (λ (e : Event). p (e.who, e.op)) es ≡ count_by p (operations es)
count_of_operations p es = sym (fold-map (λ n c. n + cond (p c) 1 0) doing 0 es)

last_of_operations : (f : Op → Option ℕ) (es : List Event) → last_of (λ e. f e.op) es ≡ last_of (λ (c : ℕ × Op). f c.1) (operations es)
last_of_operations f [] = refl
last_of_operations f (e ∷ es) = ap (λ o. elim o [ Some a ↦ Some a | None ↦ f e.op ]) (last_of_operations f es)

last_by_doing : (f : ℕ × Op → Option ℕ) (es : List Event) → last_of (λ (e : Event). f (e.who, e.op)) es ≡ last_of f (operations es)
last_by_doing f [] = refl
last_by_doing f (e ∷ es) = ap (λ o. elim o [ Some a ↦ Some a | None ↦ f (e.who, e.op) ]) (last_by_doing f es)

sent_of_operations : (c : ℕ) (es : List Event) → filter_map (λ (e : Event). sent c e.op) es ≡ filter_map (λ (d : ℕ × Op). sent c d.1) (operations es)
sent_of_operations c [] = refl
sent_of_operations c (e ∷ es) = ap (cons_option (sent c e.op)) (sent_of_operations c es)

-- the event at an index is matched by one that does the same
record IsMatched (fs : List Event) (i : ℕ) (e : Event) : Type 0 where
  f : Event
  at : At fs i f
  who : e.who ≡ f.who
  op : e.op ≡ f.op

-- lists of the same operations have as many of each kind
kinds_alike : (es fs : List Event) → operations es ≡ operations fs → (kind : Op → Bool) → count kind es ≡ count kind fs
kinds_alike es fs same kind = count_of_operations (λ c. kind c.1) es
    ∙ ap (count_by (λ (c : ℕ × Op). kind c.1)) same ∙ sym (count_of_operations (λ c. kind c.1) fs)

fronts_alike : (es fs : List Event) → operations es ≡ operations fs → (i : ℕ) (kind : Op → Bool) → count kind (take i es) ≡ count kind (take i fs)
fronts_alike es fs same i kind = kinds_alike (take i es) (take i fs) (sym (take-map doing i es) ∙ ap (take i) same ∙ take-map doing i fs) kind

-- and the same sources
source_alike : (es fs : List Event) → operations es ≡ operations fs → (caps : ℕ → ℕ) (i : ℕ) (s o : Op) → IsSource caps es i s o → IsSource caps fs i s o
source_alike es fs same caps i s (Recv c v) (is, n) = (is, sym (fronts_alike es fs same i (sends c)) ∙ n ∙ kinds_alike es fs same (receives c))
source_alike es fs same caps i s (Send c v) (k, (is, n), sum) =
    (k, (is, sym (fronts_alike es fs same i (receives c)) ∙ n), sum ∙ kinds_alike es fs same (sends c))
source_alike es fs same caps i s (RecvClosed c) is = is
source_alike es fs same caps i s (Lock l) (inl is) = inl is
source_alike es fs same caps i s (Lock l) (inr (is, n)) = inr (is, sym (fronts_alike es fs same i (locks l)) ∙ n ∙ kinds_alike es fs same (locks l))
source_alike es fs same caps i s (RLock l) (k, (is, n), sum) =
    (k, (is, sym (fronts_alike es fs same i (unlocks l)) ∙ n), sum ∙ kinds_alike es fs same (unlocks l))
source_alike es fs same caps i s (TryLock l) (inl is) = inl is
source_alike es fs same caps i s (TryLock l) (inr (is, n)) = inr (is, sym (fronts_alike es fs same i (locks l)) ∙ n ∙ kinds_alike es fs same (locks l))
source_alike es fs same caps i s (TryRLock l) (k, (is, n), sum) =
    (k, (is, sym (fronts_alike es fs same i (unlocks l)) ∙ n), sum ∙ kinds_alike es fs same (unlocks l))
source_alike es fs same caps i s (OnceDone o) is = is
source_alike es fs same caps i s _ never = absurd never

matched : (es fs : List Event) → operations es ≡ operations fs → (i : ℕ) (e : Event) → At es i e → IsMatched fs i e
matched es fs same i e at = by (slice_get fs i) refl (sym (slice_get-map doing fs i)
    ∙ ap (λ l. slice_get l i) (sym same) ∙ slice_get-map doing es i ∙ ap (option_map doing) at)
  where
    by : (o : Option Event) → slice_get fs i ≡ o → option_map doing o ≡ Some (e.who, e.op) → IsMatched fs i e
    by None is h = absurd (none-some (e.who, e.op) h)
    by (Some f) is h =
        let alike = same_Some (f.who, f.op) (e.who, e.op) h in
        record { f = f; at = is; who = ap (λ (c : ℕ × Op). c.0) (sym alike); op = ap (λ (c : ℕ × Op). c.1) (sym alike) }

module _ (es fs : List Event) (same : operations es ≡ operations fs) where
  front_alike : (n : ℕ) → operations (take n es) ≡ operations (take n fs)
  front_alike n = sym (take-map doing n es) ∙ ap (take n) same ∙ take-map doing n fs

  -- what the events say of the run
  pub counted_alike : (p : ℕ × Op → Bool) → count_by (λ (e : Event). p (e.who, e.op)) es ≡ count_by (λ (e : Event). p (e.who, e.op)) fs
  counted_alike p = count_of_operations p es ∙ ap (count_by p) same ∙ sym (count_of_operations p fs)

  exited_alike : (g : ℕ) → has_exited g es ≡ has_exited g fs
  exited_alike g = ap (nat_lt 0) (counted_alike (λ c. (c.0 == g) && is_exit c.1))

  started_alike : (g : ℕ) → started g es ≡ started g fs
  started_alike g = ap (nat_lt 0) (counted_alike (λ c. starts g c.1))

  last_alike : (x : ℕ) → last_value x es ≡ last_value x fs
  last_alike x = ap (λ o. unwrap_or o 0) (last_of_operations (written x) es
      ∙ ap (last_of (λ (c : ℕ × Op). written x c.1)) same ∙ sym (last_of_operations (written x) fs))

  kind_alike : (kind : Op → Bool) → count kind es ≡ count kind fs
  kind_alike kind = counted_alike (λ c. kind c.1)

  has_alike : (kind : Op → Bool) → has kind es ≡ has kind fs
  has_alike kind = ap (nat_lt 0) (kind_alike kind)

  closed_alike : (c : ℕ) → is_closed c es ≡ is_closed c fs
  closed_alike c = has_alike (closes c)

  over_alike : over es ≡ over fs
  over_alike i = exited_alike 0 i || has_alike is_fault i

  runs_alike : (g : ℕ) → runs g es ≡ runs g fs
  runs_alike g i = (g == 0 || started_alike g i) && not (exited_alike g i)

  buffered_alike : (c : ℕ) → buffered c es ≡ buffered c fs
  buffered_alike c i = kind_alike (sends c) i - kind_alike (receives c) i

  sent_alike : (c : ℕ) → filter_map (λ e. sent c e.op) es ≡ filter_map (λ e. sent c e.op) fs
  sent_alike c = sent_of_operations c es ∙ ap (filter_map (λ (d : ℕ × Op). sent c d.1)) same ∙ sym (sent_of_operations c fs)

  next_alike : (c : ℕ) → front c es ≡ front c fs
  next_alike c i = slice_get (sent_alike c i) (kind_alike (receives c) i)

  held_alike : (l : ℕ) → is_held l es ≡ is_held l fs
  held_alike l i = nat_lt (kind_alike (unlocks l) i) (kind_alike (locks l) i)

  read_held_alike : (l : ℕ) → is_read_held l es ≡ is_read_held l fs
  read_held_alike l i = nat_lt (kind_alike (runlocks l) i) (kind_alike (rlocks l) i)

  unended_alike : (g who : ℕ) (o : Op) → unended_once g es who o ≡ unended_once g fs who o
  unended_alike g who (OnceBegin p) = ap (λ b. if (who == g) && not b then Some p else None) (has_alike (once_ends p))
  unended_alike g who _ = refl

  innermost_alike : (g : ℕ) → innermost g es ≡ innermost g fs
  innermost_alike g =
      let opened = λ (d : ℕ × Op). unended_once g fs d.0 d.1 in
      (λ i. last_of (λ e. unended_alike g e.who e.op i) es) ∙ last_by_doing opened es ∙ ap (last_of opened) same ∙ sym (last_by_doing opened fs)

  can_alike : (caps : ℕ → ℕ) (c : ℕ) (dir : Dir) → can_proceed caps es c dir ≡ can_proceed caps fs c dir
  can_alike caps c Dir.Send i = closed_alike c i || (nat_lt 0 (caps c) && nat_lt (buffered_alike c i) (caps c))
  can_alike caps c Dir.Recv i = closed_alike c i || (nat_lt 0 (caps c) && nat_lt 0 (buffered_alike c i))

  ready_alike : (caps : ℕ → ℕ) (case : Case) → is_ready caps es case ≡ is_ready caps fs case
  ready_alike caps case = by case.chan
    where
      by : (chan : Option ℕ)
          → ◌≡◌ {A = Bool} (elim chan [ None ↦ false | Some c ↦ can_proceed caps es c case.dir ])
          (elim chan [ None ↦ false | Some c ↦ can_proceed caps fs c case.dir ])
      by None = refl
      by (Some c) = can_alike caps c case.dir

  cause_alike : (cause : Cause) → cause_holds es cause ≡ cause_holds fs cause
  cause_alike (SendClosed c) = closed_alike c
  cause_alike (CloseClosed c) = closed_alike c
  cause_alike CloseNil = refl
  cause_alike (UnlockFree l) = ap not (held_alike l)
  cause_alike (RUnlockFree l) = ap not (read_held_alike l)

  op_rules_alike : (caps : ℕ → ℕ) (g : ℕ) (o : Op) → op_rules caps es g o ≡ op_rules caps fs g o
  op_rules_alike caps g (Go h) = ap (λ b. (3, h == 0 || b) ∷ []) (started_alike h)
  op_rules_alike caps g Exit = ap (λ o. (20, is_some o) ∷ []) (innermost_alike g)
  op_rules_alike caps g (Read x v) = ap (λ n. (21, not (n == v)) ∷ []) (last_alike x)
  op_rules_alike caps g (Write x v) = refl
  op_rules_alike caps g (Send c v) = λ i. (5, caps c == 0) ∷ (6, closed_alike c i) ∷ (7, buffered_alike c i == caps c) ∷ []
  op_rules_alike caps g (Recv c v) =
      λ i. (5, caps c == 0) ∷ (8, kind_alike (sends c) i == kind_alike (receives c) i) ∷ (9, not (gives (next_alike c i) v)) ∷ []
  op_rules_alike caps g (Meet r c v) = λ i. (4, r == g) ∷ (5, nat_lt 0 (caps c)) ∷ (6, closed_alike c i) ∷ []
  op_rules_alike caps g (RecvClosed c) =
      λ i. (10, not (closed_alike c i)) ∷ (11, nat_lt (kind_alike (receives c) i) (kind_alike (sends c) i)) ∷ []
  op_rules_alike caps g (Close c) = λ i. (12, closed_alike c i) ∷ []
  op_rules_alike caps g (Default cases) = λ i. (22, list_any (λ case. ready_alike caps case i) cases) ∷ []
  op_rules_alike caps g (Lock l) = λ i. (13, held_alike l i) ∷ (14, read_held_alike l i) ∷ []
  op_rules_alike caps g (Unlock l) = λ i. (15, not (held_alike l i)) ∷ []
  op_rules_alike caps g (RLock l) = λ i. (13, held_alike l i) ∷ []
  op_rules_alike caps g (RUnlock l) = λ i. (16, not (read_held_alike l i)) ∷ []
  op_rules_alike caps g (TryLock l) = λ i. (13, held_alike l i) ∷ (14, read_held_alike l i) ∷ []
  op_rules_alike caps g (TryRLock l) = λ i. (13, held_alike l i) ∷ []
  op_rules_alike caps g (TryFail l) = refl
  op_rules_alike caps g (OnceBegin o) = λ i. (17, has_alike (once_begins o) i) ∷ []
  op_rules_alike caps g (OnceEnd o) = λ i. (18, not (gives (innermost_alike g i) o)) ∷ []
  op_rules_alike caps g (OnceDone o) = λ i. (19, not (has_alike (once_ends o) i)) ∷ []
  op_rules_alike caps g (Fault cause) = λ i. (23, not (cause_alike cause i)) ∷ []

  receiver_alike : (o : Op) → receiver_runs es o ≡ receiver_runs fs o
  receiver_alike (Meet r c v) = runs_alike r
  receiver_alike _ = refl

  broken_alike : (caps : ℕ → ℕ) (e f : Event) → e.who ≡ f.who → e.op ≡ f.op → broken caps es e ≡ broken caps fs f
  broken_alike caps e f who op =
      (λ i. least_broken ((1, over_alike i) ∷ (2, not (runs_alike e.who i && receiver_alike e.op i)) ∷ op_rules_alike caps e.who e.op i))
      ∙ (λ i. least_broken ((1, over fs) ∷ (2, not (runs (who i) fs && receiver_runs fs (op i))) ∷ op_rules caps fs (who i) (op i)))

  takes_part_alike : (i g : ℕ) → TakesPart es i g → TakesPart fs i g
  takes_part_alike i g (e, at, is) = let m = matched es fs same i e at in (m.f, m.at, subst IsTrue (λ j. (m.who j == g) || gives (partner (m.op j)) g) is)

  sequenced_alike : (p q : Point) → SequencedBefore es p q → SequencedBefore fs p q
  sequenced_alike (Begin i g) (End j h) (at, who, part) = (at, who, takes_part_alike i g part)
  sequenced_alike (End i g) (Begin j h) (less, who, part, later) = (less, who, takes_part_alike i g part, takes_part_alike j h later)
  sequenced_alike (Begin i g) (Begin j h) never = never
  sequenced_alike (End i g) (End j h) never = never

  synchronized_alike : (caps : ℕ → ℕ) (p q : Point) → SynchronizedBefore caps es p q → SynchronizedBefore caps fs p q
  synchronized_alike caps (Begin i g) (End j h) (e, at, which) =
      let m = matched es fs same j e at in (
        m.f,
        m.at,
        elim which [
          | inl inside ↦ inl (inside.0, subst (λ (c : ℕ × Op). SynchronizedInside c.0 c.1 g h) (λ k. (m.who k, m.op k)) inside.1)
          | inr (s, ats, source, from, to) ↦ (
              let x = matched (take j es) (take j fs) (front_alike j) i s ats in
              inr (
                x.f,
                x.at,
                subst (λ (c : Op × Op). IsSource caps (take j fs) i c.0 c.1) (λ k. (x.op k, m.op k))
                    (source_alike (take j es) (take j fs) (front_alike j) caps i s.op e.op source),
                sym x.who ∙ from,
                sym m.who ∙ to,
              )
              )
        ],
      )
  synchronized_alike caps (Begin i g) (Begin j h) never = never
  synchronized_alike caps (End i g) (Begin j h) never = never
  synchronized_alike caps (End i g) (End j h) never = never

  step_alike : (caps : ℕ → ℕ) (p q : Point) → Step caps es p q → Step caps fs p q
  step_alike caps p q (inl s) = inl (sequenced_alike p q s)
  step_alike caps p q (inr s) = inr (synchronized_alike caps p q s)

  reaches_alike : (caps : ℕ → ℕ) (p q : Point) → Reaches caps es p q → Reaches caps fs p q
  reaches_alike caps p q (one_step s) = one_step (step_alike caps p q s)
  reaches_alike caps p q (then_step {q = r} first s) = then_step (reaches_alike caps p r first) (step_alike caps r q s)

  happens_alike : (caps : ℕ → ℕ) (i j : ℕ) → HappensBefore caps es i j → HappensBefore caps fs i j
  happens_alike caps i j (a, b, at, there, reached) =
      let m = matched es fs same i a at in
      let n = matched es fs same j b there in (
        m.f,
        n.f,
        m.at,
        n.at,
        subst (λ (g : ℕ × ℕ). Reaches caps fs (End i g.0) (Begin j g.1))
            (λ k. (m.who k, n.who k)) (reaches_alike caps (End i a.who) (Begin j b.who) reached),
      )

  access_alike : (x i : ℕ) → IsAccessOf es x i → IsAccessOf fs x i
  access_alike x i (e, at, is) = let m = matched es fs same i e at in (m.f, m.at, subst IsTrue (ap (accesses x) m.op) is)

  write_alike : (x i : ℕ) → IsWriteOf es x i → IsWriteOf fs x i
  write_alike x i (e, at, is) = let m = matched es fs same i e at in (m.f, m.at, subst IsTrue (ap (writes x) m.op) is)

  conflict_alike : (x i j : ℕ) → Conflict es x i j → Conflict fs x i j
  conflict_alike x i j (other, first, second, inl w) = (other, access_alike x i first, access_alike x j second, inl (write_alike x i w))
  conflict_alike x i j (other, first, second, inr w) = (other, access_alike x i first, access_alike x j second, inr (write_alike x j w))

race_alike : (es fs : List Event) → operations es ≡ operations fs → (caps : ℕ → ℕ) (x i j : ℕ) → IsRace caps es x i j → IsRace caps fs x i j
race_alike es fs same caps x i j race = record {
  conflict = conflict_alike es fs same x i j race.conflict;
  not_before = λ h. race.not_before (happens_alike fs es (sym same) caps i j h);
  not_after = λ h. race.not_after (happens_alike fs es (sym same) caps j i h);
}

reported_alike : (es fs : List Event) → operations es ≡ operations fs → (caps : ℕ → ℕ) (x i j : ℕ) → IsReportedRace caps es x i j → IsReportedRace caps fs x i j
reported_alike es fs same caps x i j reported = record {
  race = race_alike es fs same caps x i j reported.race;
  in_order = reported.in_order;
  least = λ k m less race. reported.least k m less (race_alike fs es (sym same) caps x k m race);
  greatest = λ k less race. reported.greatest k less (race_alike fs es (sym same) caps x k j race);
}

still_legal : (es fs : List Event) → operations es ≡ operations fs → (caps : ℕ → ℕ) → IsLegal caps es → IsLegal caps fs
still_legal es fs same caps legal i f at =
    let m = matched fs es (sym same) i f at in
    broken_alike (take i fs) (take i es) (front_alike fs es (sym same) i) caps f m.f m.who m.op ∙ legal i m.f m.at

still_illegal : (es fs : List Event) → operations es ≡ operations fs → (caps : ℕ → ℕ) (i n : ℕ) → IsIllegalAt caps es i n → IsIllegalAt caps fs i n
still_illegal es fs same caps i n (e, at, is, legal) =
    let m = matched es fs same i e at in
    let front = front_alike es fs same i in
    (m.f, m.at, sym (broken_alike (take i es) (take i fs) front caps e m.f m.who m.op) ∙ is, still_legal (take i es) (take i fs) front caps legal)

pub verdict_alike : (es fs : List Event) → operations es ≡ operations fs → (caps : ℕ → ℕ) (v : Verdict) → IsVerdict caps es v → IsVerdict caps fs v
verdict_alike es fs same caps (Illegal i n) right = still_illegal es fs same caps i n right
verdict_alike es fs same caps Clean (legal, free) = (still_legal es fs same caps legal, λ x i j race. free x i j (race_alike fs es (sym same) caps x i j race))
verdict_alike es fs same caps (Races races) (legal, some, are) = (
  still_legal es fs same caps legal,
  some,
  record {
    each = λ k r at. reported_alike es fs same caps r.var r.first r.second (are.each k r at);
    rising = are.rising;
    every = λ x i j race. are.every x i j (race_alike fs es (sym same) caps x i j race);
  },
)
