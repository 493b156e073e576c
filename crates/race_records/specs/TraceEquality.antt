-- What `==` of two `Trace`s tests, and that it holds just where the two record the same.
use Rattle.std.proofs.Common.{◌≡◌, ◌==◌, ◌&&◌, ℕ, Bool, true, false, List, Option, Some, None, map, slice_get, Decides}
use Rattle.std.proofs.{Common.{refl, sym, ap, true≢false}, lemmas.Bool.Decides.Decides-eqb}
use Rattle.std.{proofs.lemmas.Slice.Eq.{bytes_eq-Decides, slice_eq-Decides}, specs.Option.option_and_then}
use Rattle.std.specs.Cmp.{IsPartialEquivalence, partial_equiv_from_equiv, decided, on_per, Lexicographic.pointwise}
use Rattle.std.specs.Str.{bytes_eq}
use Rattle.race_records.specs.declared.event.{Event.Event, Op.{Op, TheVariants.{Go, Exit, Read, Write, Send, Recv}}}
use Rattle.race_records.specs.declared.event.Op.TheVariants.{Meet, RecvClosed, Close, Default, Lock, Unlock, RLock}
use Rattle.race_records.specs.declared.event.Op.TheVariants.{RUnlock, TryLock, TryRLock, TryFail, OnceBegin, OnceEnd}
use Rattle.race_records.specs.declared.event.{Op.TheVariants.{OnceDone, Fault}, Cause.{Cause, TheVariants.SendClosed}}
use Rattle.race_records.specs.declared.event.Cause.TheVariants.{CloseClosed, CloseNil, UnlockFree, RUnlockFree}
use Rattle.race_records.specs.{Cases.{same_cases, same_cases-Decides}, Events.TraceState, Equality.{Declared, declared}}
use Rattle.race_records.specs.Equality.{same_declared, same_declared-Decides}

-- an event with the texts of its places
pub record PlacedEvent : Type 0 where
  pub who : ℕ
  pub op : Op
  pub place : Option (List ℕ)
  pub place2 : Option (List ℕ)

-- what a trace records: places that no event uses don't count, nor does the order of places
pub record Recorded : Type 0 where
  pub declared : Declared
  pub events : List PlacedEvent

abbrev pub placed : List (List ℕ) → Event → PlacedEvent
placed places e =
    record { who = e.who; op = e.op; place = slice_get places e.place; place2 = option_and_then (slice_get places) e.place2 }

abbrev pub placed_events : TraceState → List PlacedEvent
placed_events trace = map (placed trace.decls.places) trace.events

abbrev pub recorded : TraceState → Recorded
recorded trace = record { declared = declared trace.decls; events = placed_events trace }

-- the causes of a fault are the same
abbrev pub same_cause : Cause → Cause → Bool
same_cause (SendClosed c) (SendClosed d) = c == d
same_cause (CloseClosed c) (CloseClosed d) = c == d
same_cause CloseNil CloseNil = true
same_cause (UnlockFree l) (UnlockFree m) = l == m
same_cause (RUnlockFree l) (RUnlockFree m) = l == m
same_cause _ _ = false

-- the operations are the same
abbrev pub same_op : Op → Op → Bool
same_op (Go g) (Go h) = g == h
same_op Exit Exit = true
same_op (Read x v) (Read y w) = (x == y) && (v == w)
same_op (Write x v) (Write y w) = (x == y) && (v == w)
same_op (Send c v) (Send d w) = (c == d) && (v == w)
same_op (Recv c v) (Recv d w) = (c == d) && (v == w)
same_op (Meet r c v) (Meet s d w) = (r == s) && (c == d) && (v == w)
same_op (RecvClosed c) (RecvClosed d) = c == d
same_op (Close c) (Close d) = c == d
same_op (Default cases) (Default others) = same_cases cases others
same_op (Lock l) (Lock m) = l == m
same_op (Unlock l) (Unlock m) = l == m
same_op (RLock l) (RLock m) = l == m
same_op (RUnlock l) (RUnlock m) = l == m
same_op (TryLock l) (TryLock m) = l == m
same_op (TryRLock l) (TryRLock m) = l == m
same_op (TryFail l) (TryFail m) = l == m
same_op (OnceBegin o) (OnceBegin p) = o == p
same_op (OnceEnd o) (OnceEnd p) = o == p
same_op (OnceDone o) (OnceDone p) = o == p
same_op (Fault cause) (Fault other) = same_cause cause other
same_op _ _ = false

-- there is no text, or the same one
abbrev pub same_text : Option (List ℕ) → Option (List ℕ) → Bool
same_text None None = true
same_text (Some a) (Some b) = bytes_eq a b
same_text _ _ = false

abbrev pub same_placed : PlacedEvent → PlacedEvent → Bool
same_placed d e = (d.who == e.who) && same_op d.op e.op && same_text d.place e.place && same_text d.place2 e.place2

-- what `==` of two `Trace`s tests
abbrev pub same_recorded : Recorded → Recorded → Bool
same_recorded a b = same_declared a.declared b.declared && pointwise same_placed a.events b.events

both : {P Q : Type 0} {m n : Bool} → Decides m P → Decides n Q → Decides (m && n) (P × Q)
both {m = m} {n = n} p q = by m n p q
  where
    by : {P Q : Type 0} (m n : Bool) → Decides m P → Decides n Q → Decides (m && n) (P × Q)
    by true true p q = (λ _. (p.0 refl, q.0 refl), λ _. refl)
    by false n p q = (λ h. absurd (true≢false (sym h)), λ h. absurd (true≢false (sym (p.1 h.0))))
    by true false p q = (λ h. absurd (true≢false (sym h)), λ h. absurd (true≢false (sym (q.1 h.1))))

decides_by : {P Q : Type 0} (b : Bool) → Decides b P → (P → Q) → (Q → P) → Decides b Q
decides_by b p f g = (λ e. f (p.0 e), λ h. p.1 (g h))

same_cause-Decides : (a b : Cause) → Decides (same_cause a b) (a ≡ b)
same_cause-Decides (SendClosed c) (SendClosed d) = (λ e. ap SendClosed ((Decides-eqb c d).0 e), λ e. (Decides-eqb c d).1 cc)
same_cause-Decides (CloseClosed c) (CloseClosed d) = (λ e. ap CloseClosed ((Decides-eqb c d).0 e), λ e. (Decides-eqb c d).1 cc)
same_cause-Decides CloseNil CloseNil = (λ _. refl, λ _. refl)
same_cause-Decides (UnlockFree l) (UnlockFree m) = (λ e. ap UnlockFree ((Decides-eqb l m).0 e), λ e. (Decides-eqb l m).1 cc)
same_cause-Decides (RUnlockFree l) (RUnlockFree m) = (λ e. ap RUnlockFree ((Decides-eqb l m).0 e), λ e. (Decides-eqb l m).1 cc)
same_cause-Decides _ _ = (λ e. absurd (true≢false (sym e)), λ e. cc)

-- equal operations are the same, and those alone
pub same_op-Decides : (a b : Op) → Decides (same_op a b) (a ≡ b)
same_op-Decides (Go g) (Go h) = (λ e. ap Go ((Decides-eqb g h).0 e), λ e. (Decides-eqb g h).1 cc)
same_op-Decides Exit Exit = (λ _. refl, λ _. refl)
same_op-Decides (Read x v) (Read y w) =
    decides_by ((x == y) && (v == w)) (both (Decides-eqb x y) (Decides-eqb v w)) (λ e i. Read (e.0 i) (e.1 i)) (λ e. (cc, cc))
same_op-Decides (Write x v) (Write y w) =
    decides_by ((x == y) && (v == w)) (both (Decides-eqb x y) (Decides-eqb v w)) (λ e i. Write (e.0 i) (e.1 i)) (λ e. (cc, cc))
same_op-Decides (Send c v) (Send d w) =
    decides_by ((c == d) && (v == w)) (both (Decides-eqb c d) (Decides-eqb v w)) (λ e i. Send (e.0 i) (e.1 i)) (λ e. (cc, cc))
same_op-Decides (Recv c v) (Recv d w) =
    decides_by ((c == d) && (v == w)) (both (Decides-eqb c d) (Decides-eqb v w)) (λ e i. Recv (e.0 i) (e.1 i)) (λ e. (cc, cc))
same_op-Decides (Meet r c v) (Meet s d w) =
    decides_by ((r == s) && (c == d) && (v == w)) (both (both (Decides-eqb r s) (Decides-eqb c d)) (Decides-eqb v w))
    (λ e i. Meet (e.0.0 i) (e.0.1 i) (e.1 i)) (λ e. ((cc, cc), cc))
same_op-Decides (RecvClosed c) (RecvClosed d) = (λ e. ap RecvClosed ((Decides-eqb c d).0 e), λ e. (Decides-eqb c d).1 cc)
same_op-Decides (Close c) (Close d) = (λ e. ap Close ((Decides-eqb c d).0 e), λ e. (Decides-eqb c d).1 cc)
same_op-Decides (Default cases) (Default others) = (λ e. ap Default ((same_cases-Decides cases others).0 e), λ e. (same_cases-Decides cases others).1 cc)
same_op-Decides (Lock l) (Lock m) = (λ e. ap Lock ((Decides-eqb l m).0 e), λ e. (Decides-eqb l m).1 cc)
same_op-Decides (Unlock l) (Unlock m) = (λ e. ap Unlock ((Decides-eqb l m).0 e), λ e. (Decides-eqb l m).1 cc)
same_op-Decides (RLock l) (RLock m) = (λ e. ap RLock ((Decides-eqb l m).0 e), λ e. (Decides-eqb l m).1 cc)
same_op-Decides (RUnlock l) (RUnlock m) = (λ e. ap RUnlock ((Decides-eqb l m).0 e), λ e. (Decides-eqb l m).1 cc)
same_op-Decides (TryLock l) (TryLock m) = (λ e. ap TryLock ((Decides-eqb l m).0 e), λ e. (Decides-eqb l m).1 cc)
same_op-Decides (TryRLock l) (TryRLock m) = (λ e. ap TryRLock ((Decides-eqb l m).0 e), λ e. (Decides-eqb l m).1 cc)
same_op-Decides (TryFail l) (TryFail m) = (λ e. ap TryFail ((Decides-eqb l m).0 e), λ e. (Decides-eqb l m).1 cc)
same_op-Decides (OnceBegin o) (OnceBegin p) = (λ e. ap OnceBegin ((Decides-eqb o p).0 e), λ e. (Decides-eqb o p).1 cc)
same_op-Decides (OnceEnd o) (OnceEnd p) = (λ e. ap OnceEnd ((Decides-eqb o p).0 e), λ e. (Decides-eqb o p).1 cc)
same_op-Decides (OnceDone o) (OnceDone p) = (λ e. ap OnceDone ((Decides-eqb o p).0 e), λ e. (Decides-eqb o p).1 cc)
same_op-Decides (Fault cause) (Fault other) = (λ e. ap Fault ((same_cause-Decides cause other).0 e), λ e. (same_cause-Decides cause other).1 cc)
same_op-Decides _ _ = (λ e. absurd (true≢false (sym e)), λ e. cc)

same_text-Decides : (a b : Option (List ℕ)) → Decides (same_text a b) (a ≡ b)
same_text-Decides None None = (λ _. refl, λ _. refl)
same_text-Decides (Some a) (Some b) = (λ e. ap Some ((bytes_eq-Decides a b).0 e), λ e. (bytes_eq-Decides a b).1 cc)
same_text-Decides _ _ = (λ e. absurd (true≢false (sym e)), λ e. cc)

pub same_placed-Decides : (d e : PlacedEvent) → Decides (same_placed d e) (d ≡ e)
same_placed-Decides d e =
    decides_by (same_placed d e)
    (both (both (both (Decides-eqb d.who e.who) (same_op-Decides d.op e.op)) (same_text-Decides d.place e.place)) (same_text-Decides d.place2 e.place2))
    (λ h i. record { who = h.0.0.0 i; op = h.0.0.1 i; place = h.0.1 i; place2 = h.1 i })
    (λ h. (((ap (λ (x : PlacedEvent). x.who) h, ap (λ (x : PlacedEvent). x.op) h), ap (λ (x : PlacedEvent). x.place) h), ap (λ (x : PlacedEvent). x.place2) h))

pub same_recorded-Decides : (a b : Recorded) → Decides (same_recorded a b) (a ≡ b)
same_recorded-Decides a b =
    decides_by (same_recorded a b)
    (both (same_declared-Decides a.declared b.declared)
    (slice_eq-Decides {E = same_placed} same_placed-Decides a.events b.events (pointwise same_placed a.events b.events) refl))
    (λ h i. record { declared = h.0 i; events = h.1 i })
    (λ h. (ap (λ (x : Recorded). x.declared) h, ap (λ (x : Recorded). x.events) h))

abbrev pub same_traces : TraceState → TraceState → Bool
same_traces a b = same_recorded (recorded a) (recorded b)

pub same_traces_laws : IsPartialEquivalence same_traces
same_traces_laws = on_per recorded (partial_equiv_from_equiv (decided same_recorded same_recorded-Decides))
