-- What small lists are made of: on lists that are written out, refl answers.
use Rattle.std.proofs.Common.{◌≡◌, ℕ, zero, suc, ◌+◌, IsTrue, IfSome, Some, List, [], ◌∷◌, ◌++◌, take, slice_get, length}
use Rattle.std.proofs.Common.{ap, ◌∙◌, subst, refl, arith, inl, inr, Option}
use Rattle.race_records.specs.declared.event.{Event.Event, Op.TheVariants.{Go, Read, Write, Lock, Unlock}}
use Rattle.race_model.specs.{Clocks.participations, Events.{At, accesses, partner}, Predict.{told, CouldHaveRun, EndsWithRace}}
use Rattle.race_model.specs.{Examples.{main, w, x, does}, LockExamples.l, PredictExamples.{w_locks_first, main_locks_first, main_reads_first}}
use Rattle.race_model.proofs.{Indexes.at_same, ExampleLemmas.free_from, PredictTests.could_from, PredictLemmas.ends_by}
use Rattle.race_verdict.specs.Traces.{capacities}
use Rattle.race_predict.specs.{Certified.{AreKept, IsCertificate, IsMadeOf}, Fronts.IsNext}
use Rattle.race_predict.specs.Examples.{recorded, trace, locks_first, reads_first}
use Rattle.race_predict.proofs.{AttemptLemmas.made_push, FrontLemmas.takes_part_by}

pub of_nothing : (events : List Event) → IsMadeOf events [] []
of_nothing events = record { as_many = refl; each = λ k i at. cc; in_turn = λ k i e at. cc }

-- one event more: that of index i, where a read finds v
pub and : {events : List Event} {order : List ℕ} {past : List Event} → IsMadeOf events order past → (i v : ℕ) (e : Event) → At events i e
    → participations e.who past ≡ participations e.who (take i events)
    → IfSome (partner e.op) (λ g. participations g past ≡ participations g (take i events))
    → IsMadeOf events (order ++ i ∷ []) (past ++ told v e ∷ [])
and {events} {order} {past} made i v e at own partners = made_push events order past i e v made at next
  where
    next : IsNext events past i e
    next g part = elim (takes_part_by g e part) [
      | inl who ↦ subst (λ g. participations g past ≡ participations g (take i events)) who own
      | inr other ↦ subst (λ (o : Option ℕ). IfSome o (λ g. participations g past ≡ participations g (take i events))) other partners
    ]

-- main locks and unlocks before w writes
abbrev front : List Event
front = does main (Go w) ∷ does main (Lock l) ∷ does main (Unlock l) ∷ []

front_made : IsMadeOf w_locks_first (0 ∷ 4 ∷ 5 ∷ []) front
front_made =
    and (and (and (of_nothing w_locks_first) 0 0 (does main (Go w)) refl refl refl) 4 0 (does main (Lock l)) refl refl tt)
    5 0 (does main (Unlock l)) refl refl tt

front_kept : (order : List ℕ) (other : List Event) → AreKept w_locks_first (0 ∷ 4 ∷ 5 ∷ order) (front ++ other) 3
front_kept order other = kept
  where
    index : (j i : ℕ) → Some j ≡ Some i → j ≡ i
    index j i is = cc

    kept : AreKept w_locks_first (0 ∷ 4 ∷ 5 ∷ order) (front ++ other) 3
    kept zero i e less there at = ap (slice_get w_locks_first) (index 0 i there) ∙ at
    kept (suc zero) i e less there at = ap (slice_get w_locks_first) (index 4 i there) ∙ at
    kept (suc (suc zero)) i e less there at = ap (slice_get w_locks_first) (index 5 i there) ∙ at
    kept (suc (suc (suc k))) i e less there at = absurd (omega (arith, less))

-- with two accesses behind these it is a certificate
certified : (order : List ℕ) (a b : Event) → CouldHaveRun (capacities recorded) w_locks_first (front ++ a ∷ b ∷ [])
    → EndsWithRace (front ++ a ∷ b ∷ []) x → IsMadeOf w_locks_first (0 ∷ 4 ∷ 5 ∷ order) (front ++ a ∷ b ∷ [])
    → IsCertificate recorded x (0 ∷ 4 ∷ 5 ∷ order) (trace (front ++ a ∷ b ∷ []))
certified order a b could ends made = record {
  decls = refl;
  prediction = record {
    could_have_run = could;
    ends_with_race = ends;
    not_recorded = free_from (capacities recorded) w_locks_first refl x;
  };
  made = made;
  kept = λ k i e less. front_kept order (a ∷ b ∷ []) k i e (let two = ends.last_two in omega (arith, less, two));
  limited = omega arith;
}

pub locks_certificate : IsCertificate recorded x locks_first (trace main_locks_first)
locks_certificate =
    certified (1 ∷ 6 ∷ []) (does w (Write x 1)) (does main (Read x 1)) (could_from w_locks_first main_locks_first (capacities recorded) refl refl)
    (ends_by main_locks_first x 3 (does w (Write x 1)) (does main (Read x 1)) refl refl refl refl refl refl (λ same. absurd (omega arith)))
    (and (and front_made 1 0 (does w (Write x 1)) refl refl tt) 6 1 (does main (Read x 1)) refl refl tt)

pub reads_certificate : IsCertificate recorded x reads_first (trace main_reads_first)
reads_certificate =
    certified (6 ∷ 1 ∷ []) (does main (Read x 0)) (does w (Write x 1)) (could_from w_locks_first main_reads_first (capacities recorded) refl refl)
    (ends_by main_reads_first x 3 (does main (Read x 0)) (does w (Write x 1)) refl refl refl refl refl refl (λ same. absurd (omega arith)))
    (and (and front_made 6 0 (does main (Read x 1)) refl refl tt) 1 0 (does w (Write x 1)) refl refl tt)

-- what stands at k is the recorded event b of its index, but for what a read finds
pub told_by : {events other : List Event} {order : List ℕ} → IsMadeOf events order other → (k i : ℕ) (a b : Event) → slice_get order k ≡ Some i
    → At events i b → At other k a → (v : ℕ) × (a ≡ told v b)
told_by {events} {other} {order} made k i a b here at_b at_a =
    let (e, at_e, (v, stands)) = made.each k i here in
    (v, at_same other k a (told v e) at_a stands ∙ ap (told v) (at_same events i e b at_e at_b))

-- the first of the last two accesses the variable
pub first_access : {events : List Event} {x : ℕ} → EndsWithRace events x → (n : ℕ) (a : Event) → length events ≡ n + 2 → At events n a
    → IsTrue (accesses x a.op)
first_access {events} {x} ends n a len at =
    let (b, at_b, is) = ends.conflict.1 in
    let two = ends.last_two in
    let same : n ≡ ends.before = omega (arith, len, two) in
    subst (λ (e : Event). IsTrue (accesses x e.op)) (at_same events n b a (ap (slice_get events) same ∙ at_b) at) is
