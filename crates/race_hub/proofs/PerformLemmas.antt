-- The state after a firing.
use Rattle.std.proofs.Common.{◌≡◌, ◌≢◌, ◌==◌, ◌⊎◌, ℕ, zero, suc, ◌<◌, ◌≤◌, ◌+◌, ◌-◌, ◌++◌, nat_lt, Bool, true, false}
use Rattle.std.proofs.Common.{if◌then◌else◌, List, [], ◌∷◌, length, take, drop, All, IsTrue, IsOk, Result, Err, IfSome}
use Rattle.std.proofs.Common.{Option, Some, None, refl, sym, ap, ◌∙◌, subst, inl, inr, arith, not, ◌&&◌, nat_le}
use Rattle.std.proofs.Common.{slice_get, get_or, eq-eqb, true≢false}
use Rattle.std.proofs.lemmas.{Bool.Decides.nat_tests, Option.{none-some, slice_get-get_or}}
use Rattle.std.specs.List.{remove, count_by}
use Rattle.race_records.specs.declared.{event.{Event.Event, Op.Op}, kind.Kind.Kind}
use Rattle.race_records.specs.declared.trace.{PushFault.TheVariants.{BadNumber, WrongKind, Full}, TheConstants.MAX_EVENTS}
use Rattle.race_records.specs.{Declarations.{DeclsState, counts_of}, Events.{TraceState, fits, push_fault}}
use Rattle.race_records.specs.Events.{is_in_range, is_right_kind}
use Rattle.race_model.{specs.Events.is_fault, proofs.{Indexes.take_at_old, CountSteps.as_number}}
use Rattle.race_legal.specs.{ReplayState.{ReplayState, counts_in, IsInRange}, StandsFor.StandsFor}
use Rattle.race_requests.specs.declared.{choice.Choice.Choice, request.{Waiter.Waiter, Answer.Answer}}
use Rattle.race_requests.{specs.Sound.is_sound, proofs.ChoiceLemmas.all_at}
use Rattle.race_hub.specs.{declared.ending.End.End, Hub.{HubState, stop_by, stop_of, is_last, is_main_exit}}
use Rattle.race_hub.specs.{Firing.{CanAppend, HasPlace}, HubHolds.HaveRoom, Holds.Holds, Kept.{is_active, IsKept}}
use Rattle.race_hub.specs.Fires.{Fires, without, partner_of, is_asker, without_leaver, IsPartnerRow}
use Rattle.race_hub.proofs.{OnceLemmas.{at_most_one, count_without, passes, is_waiter}, EndedLemmas.kept_by}
use Rattle.race_hub.proofs.{KeptLemmas.fired_kept, SubmitLemmas.bad_stops}
use Rattle.race_hub.proofs.{TableLemmas.{both_true, leaver_len}, FiringLemmas.{below, second}}

-- what is right isn't wrong
pub not_both : {X E : Type 0} (r : Result X E) (e : E) → IsOk r → r ≡ Err e → ⊥
not_both r e ok is = true≢false (sym (subst IsOk is ok))

-- an event that fits is in the range of the replay's tables
fit_is_in_range : (decls : DeclsState) (k : ReplayState) (past : List Event) (e : Event) → StandsFor decls.declarations k past → IsTrue (fits decls e)
    → IsInRange (counts_in k) e
unfolding fits
fit_is_in_range decls k past e stands is =
    let range = (both_true (is_in_range decls e) (is_right_kind decls e.op) is).0 in
    subst (λ counts. IsInRange counts e) (sym stands.counts)
    (below e.who (counts_of decls.declarations Kind.Goroutine) (first _ _ _ _ range), second _ _ _ _ range)
  where
    first : (a b c d : Bool) → (a && b && c && d) ≡ true → a ≡ true
    first true b c d is = refl
    first false b c d is = absurd cc

-- such an event is taken while the trace isn't full
pub fit_is_taken : (trace : TraceState) (e : Event) → IsTrue (fits trace.decls e) → length trace.events < MAX_EVENTS → push_fault trace e ≡ None
unfolding fits push_fault
fit_is_taken trace e is less =
    let parts = both_true (is_in_range trace.decls e) (is_right_kind trace.decls e.op) is in
    by (is_in_range trace.decls e) (is_right_kind trace.decls e.op) (nat_le MAX_EVENTS (length trace.events)) parts.0 parts.1
    (grind (arith, nat_tests))
  where
    by : (a b c : Bool) → a ≡ true → b ≡ true → c ≡ false
        → (if not a then Some BadNumber else (if not b then Some WrongKind else (if c then Some Full else None))) ≡ None
    by a b c p q r = rw (p, q, r) refl

module _ {R : Type 0} where
  -- a hub that doesn't stop is below its limit, and nobody's request was bad
  pub below_limit : (h : HubState R) → stop_of h ≡ None → length h.events ≤ h.limit → length h.events < h.limit
  unfolding stop_by
  below_limit h on le =
      by (is_last is_main_exit h.events) (is_last (λ e. is_fault e.op) h.events) h.bad (length h.events == h.limit) refl on
    where
      by : (a b : Bool) (bad : Option ℕ) (full : Bool) → (length h.events == h.limit) ≡ full
          → ◌≡◌ {A = Option End} (if a then Some End.Main else (if b then Some End.Fault
          else elim bad [ Some g ↦ Some (End.Bad g) | None ↦ if full then Some End.Limit else None ])) None
          → length h.events < h.limit
      by false false None false is on =
          let unlike : length h.events ≡ h.limit → ⊥ = λ same. true≢false (sym (eq-eqb _ _ same) ∙ is) in
          omega (arith, le, unlike)
      by _ _ _ _ is on = absurd cc

  pub can_append : {k : ReplayState} {h : HubState R} {e : Event} → Holds k h → stop_of h ≡ None → IsTrue (fits h.decls e)
      → CanAppend k h.decls h.events e
  can_append {k} {h} {e} holds on is =
      let less = below_limit h on holds.kept.limited in
      let few = holds.few in
      let len = holds.stands.len in
      record {
        range = fit_is_in_range h.decls k h.events e holds.stands is;
        room = omega (arith, less, few, len);
        fits = is;
        few = omega (arith, less, few);
      }

-- what stands in a part of a list stands in the list
abbrev pub IsIn : {X : Type 0} → X → List X → Type 0
IsIn x xs = (i : ℕ) × (slice_get xs i ≡ Some x)

drop_old : {X : Type 0} (n : ℕ) (xs : List X) (i : ℕ) (x : X) → slice_get (drop n xs) i ≡ Some x → slice_get xs (n + i) ≡ Some x
drop_old zero xs i x is = let e : zero + i ≡ i = omega arith in rw e is
drop_old (suc n) [] i x is = absurd (none-some x is)
drop_old (suc n) (y ∷ xs) i x is = let e : suc n + i ≡ suc (n + i) = omega arith in rw e (drop_old n xs i x is)

join_old : {X : Type 0} (xs ys : List X) (i : ℕ) (x : X) → slice_get (xs ++ ys) i ≡ Some x → (slice_get xs i ≡ Some x) ⊎ ((j : ℕ) × (slice_get ys j ≡ Some x))
join_old [] ys i x is = inr (i, is)
join_old (y ∷ xs) ys zero x is = inl is
join_old (y ∷ xs) ys (suc i) x is = join_old xs ys i x is

remove_old : {X : Type 0} (xs : List X) (n : ℕ) (x : X) → IsIn x (remove xs n) → IsIn x xs
remove_old xs n x is = elim (join_old (take n xs) (drop (suc n) xs) is.0 x is.1) [
  | inl a ↦ (is.0, take_at_old n xs is.0 x a)
  | inr b ↦ (suc n + b.0, drop_old (suc n) xs b.0 x b.1)
]

without_if : {X : Type 0} (alone before : Bool) (xs us vs ws : List X) (x : X) → (IsIn x us → IsIn x xs) → (IsIn x vs → IsIn x xs) → (IsIn x ws → IsIn x xs)
    → IsIn x (if alone then us else (if before then vs else ws)) → IsIn x xs
without_if true before xs us vs ws x f g h is = f is
without_if false true xs us vs ws x f g h is = g is
without_if false false xs us vs ws x f g h is = h is

without_old : {X : Type 0} (t : Choice) (xs : List X) (x : X) → IsIn x (without t xs) → IsIn x xs
without_old t xs x is =
    without_if (t.partner == 0) (nat_lt t.place (t.partner - 1)) xs _ _ _ x (remove_old xs t.place x)
    (λ u. remove_old xs (t.partner - 1) x (remove_old (remove xs (t.partner - 1)) t.place x u))
    (λ u. remove_old xs t.place x (remove_old (remove xs t.place) (t.partner - 1) x u)) is

-- what holds of all holds of those that are left
pub all_without : {X : Type 0} (P : X → Type 0) (t : Choice) (xs : List X) → All P xs → All P (without t xs)
all_without P t xs all k d less =
    let old = without_old t xs (get_or (without t xs) k d) (k, slice_get-get_or (without t xs) k d less) in
    all_at P xs old.0 (get_or (without t xs) k d) all old.1

-- who is taken out of those that wait, by a choice of a kept hub
pub record AreTaken {R : Type 0} (h : HubState R) (t : Choice) (w : Waiter) (o : Option Waiter) : Type 0 where
  pub asks : slice_get h.waiting t.place ≡ Some w
  pub second : partner_of t h.waiting ≡ o
  pub partner : t.partner ≤ length h.waiting
  pub apart : t.partner ≢ t.place + 1
  pub kept : IsKept h

module _ {R : Type 0} {h : HubState R} {t : Choice} {w : Waiter} {o : Option Waiter} (taken : AreTaken h t w o) where
  -- all of those of this number that wait, of whom there is one at most
  waits : (g : ℕ) → count_by (is_waiter g) (without t h.waiting) + as_number (w.who == g) + passes (is_waiter g) o ≡ count_by (is_waiter g) h.waiting
  waits g =
      ap (λ o. count_by (is_waiter g) (without t h.waiting) + as_number (w.who == g) + passes (is_waiter g) o) (sym taken.second)
      ∙ count_without (is_waiter g) t h.waiting w taken.asks taken.partner taken.apart

  one_waits : (g : ℕ) → count_by (is_waiter g) h.waiting ≤ 1
  one_waits g =
      let once = taken.kept.once g in
      let most = at_most_one (is_active g h.events) in
      omega (arith, once, most)

  own : (g : ℕ) → as_number (g == g) ≡ 1
  own g = ap as_number (eq-eqb g g refl)

  pub asker_place : (rooms : List Bool) → HaveRoom h.waiting rooms → HasPlace w.who h.routines rooms
  asker_place rooms room =
      let all = waits w.who in
      let one = own w.who in
      (taken.kept.places w.who (omega (arith, all, one)), room w.who (omega (arith, all, one)))

  pub partner_place : (told : Option Answer) (rooms after : List Bool) → HaveRoom h.waiting rooms → ((k : ℕ) → is_asker k (Some w) ≡ false → slice_get after k ≡ slice_get rooms k)
      → IfSome o (λ r. HasPlace r.who (without_leaver (Some w) told h.routines) after)
  partner_place told rooms after room others = by o refl
    where
      by : (p : Option Waiter) → o ≡ p → IfSome p (λ r. HasPlace r.who (without_leaver (Some w) told h.routines) after)
      by None is = tt
      by (Some r) is =
          let all = waits r.who in
          let one = ap (passes (is_waiter r.who)) is ∙ own r.who in
          let most = one_waits r.who in (
            subst (λ n. r.who < n) (sym (leaver_len (Some w) told h.routines)) (taken.kept.places r.who (omega (arith, all, one))),
            others r.who (kept_by (w.who == r.who) (omega (arith, all, one, most))) ∙ room r.who (omega (arith, all, one)),
          )

  -- who waits on has its room still
  pub rest_room : (rooms after last : List Bool) → HaveRoom h.waiting rooms → ((k : ℕ) → is_asker k (Some w) ≡ false → slice_get after k ≡ slice_get rooms k)
      → ((k : ℕ) → is_asker k o ≡ false → slice_get last k ≡ slice_get after k) → HaveRoom (without t h.waiting) last
  rest_room rooms after last room earlier later g some =
      let all = waits g in
      let most = one_waits g in
      later g (other o (omega (arith, all, most, some))) ∙ earlier g (kept_by (w.who == g) (omega (arith, all, most, some))) ∙ room g (omega (arith, all, some))
    where
      other : (p : Option Waiter) → passes (is_waiter g) p ≡ 0 → is_asker g p ≡ false
      other None none = refl
      other (Some r) none = kept_by (r.who == g) none

-- a partner, which is told an answer, keeps its routine
pub partner_keeps : {R : Type 0} (o : Option Waiter) (branch : ℕ) (op : Op) (told : Option Answer) (routines : List (Option R)) → IsPartnerRow o branch op told
    → without_leaver o told routines ≡ routines
partner_keeps None branch op told routines row = refl
partner_keeps (Some w) branch op told routines row = ap (λ told. without_leaver (Some w) told routines) row.0.1

-- what a hub holds it holds after a firing
pub fired : {R P Q : Type 0} {k l : ReplayState} {old new : HubState R} {t : Choice} (f : Fires old t new) → t.partner ≤ length old.waiting
    → t.partner ≢ t.place + 1 → Holds k old → stop_of old ≡ None → StandsFor old.decls.declarations l (old.events ++ f.e ∷ []) → P → Q
    → Fires old t new × (Holds l new × P × Q)
fired {R} {P} {Q} {k} {l} {old} {new} {t} f partner apart holds on stands p q =
    let (decls, limit, out, bad) = f.same in
    let len = ap length f.routines ∙ leaver_len (Some f.w) f.told old.routines in (
      f,
      (
        record {
          kept = fired_kept old new t f partner apart (below_limit old on holds.kept.limited) holds.kept;
          stands = rw (decls, f.events) stands;
          few = rw limit holds.few;
          few_goroutines = rw len holds.few_goroutines;
          count = rw (len, decls) holds.count;
          sound = λ _. rw (f.waiting, decls) (all_without (λ w. IsTrue (is_sound old.decls w)) t old.waiting (holds.sound on));
          bad_waits = λ g is. absurd (bad_stops old g (sym bad ∙ is) on);
        },
        p,
        q,
      ),
    )
