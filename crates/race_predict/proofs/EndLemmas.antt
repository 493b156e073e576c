-- A run that ends with two accesses that race.
use Rattle.std.proofs.Common.{◌≡◌, ◌≢◌, ◌==◌, ◌||◌, ◌+◌, ◌<◌, ◌≤◌, ℕ, Bool, true, false, cond, IsTrue, None, Some, List, [], ◌∷◌}
use Rattle.std.proofs.Common.{◌++◌, length, take, slice_get, sym, ap, ◌∙◌, subst, refl, arith, eqb-true, take_all, inl, inr}
use Rattle.std.proofs.lemmas.{List.{length_push, length-take-le}, Bool.Decides.nat_tests}
use Rattle.race_records.specs.{declared.{event.{Event.Event, Op.{Op, TheVariants.{Read, Write}}}, kind.Kind.Kind, trace.TheConstants.MAX_EVENTS}}
use Rattle.race_records.specs.{Operands.op_is_in_range, Events.TraceState}
use Rattle.race_model.specs.{Events.{At, gives, takes_part, accesses, writes}, Clocks.participations}
use Rattle.race_model.specs.Predict.{execution_of, finding, told, AsksTheSame, EndsWithRace}
use Rattle.race_model.proofs.{ClockLemmas.participations_push, Reaching.who_takes_part}
use Rattle.race_model.proofs.{Indexes.{append_at_old, slice_get-push, slice_get-take}, PredictLemmas.{filter_push, filter_drop, ends_by}}
use Rattle.race_legal.{specs.{StandsFor.StandsFor, ReplayState.{ReplayState, IsInRange}}, proofs.{Fronts.take_next}}
use Rattle.race_predict.specs.{declared.{attempt.LastTwo.LastTwo}, Fronts.{IsNext}}
use Rattle.race_predict.specs.{Attempts.{AttemptState, IsAttempt, events_by, run_with}, Certified.{AreKept, IsMadeOf, IsRunWithRace}}
use Rattle.race_predict.proofs.FrontLemmas.{due_at, asks_front, asks_last, accesses_told, writes_told, access_alone}
use Rattle.race_predict.proofs.{FrontLemmas.{partner_told, takes_part_by}, AttemptLemmas.{made_push}}

-- the event is what its goroutine did next
abbrev pub IsDue : TraceState → List ℕ → Event → Type 0
IsDue recorded order e =
    slice_get (execution_of e.who recorded.events) (length (execution_of e.who (events_by recorded.events order))) ≡ Some e

pub due_from : (recorded : TraceState) (order : List ℕ) (i : ℕ) (e : Event) → At recorded.events i e
    → IsNext recorded.events (events_by recorded.events order) i e → IsDue recorded order e
due_from recorded order i e at next = due_at recorded.events (events_by recorded.events order) i e e.who at (who_takes_part e) (next e.who (who_takes_part e))

-- whatever an access finds, it is in the same range
pub finds_in_range : (counts : Kind → ℕ) (e : Event) (v : ℕ) → IsInRange counts e → IsInRange counts (told v e)
finds_in_range counts e v (who, op) = (who, by e.op op)
  where
    by : (o : Op) → IsTrue (op_is_in_range counts o) → IsTrue (op_is_in_range counts (finding v o))
    by (Read y w) is = is
    by _ is = is

-- and its variable has a row
pub var_in_range : (counts : Kind → ℕ) (x : ℕ) (o : Op) → IsTrue (op_is_in_range counts o) → IsTrue (accesses x o) → x < counts Kind.Var
var_in_range counts x (Read y w) is access = grind (arith, nat_tests)
var_in_range counts x (Write y w) is access = grind (arith, nat_tests)
var_in_range counts x _ is access = cc

or_false : (b : Bool) → (b || false) ≡ b
or_false true = refl
or_false false = refl

-- an access is its goroutine's alone, whatever it finds
alone : (x v g : ℕ) (e : Event) → IsTrue (accesses x e.op) → takes_part g (told v e) ≡ (e.who == g)
alone x v g e is = ap (λ o. (e.who == g) || gives o g) (partner_told v e.op ∙ access_alone x e.op is) ∙ or_false (e.who == g)

-- an access of another goroutine leaves what is next
pub next_behind : (recorded past : List Event) (x v j : ℕ) (e f : Event) → IsTrue (accesses x e.op) → IsTrue (accesses x f.op) → e.who ≢ f.who
    → (b : List Event) → b ≡ past ++ told v e ∷ [] → (g : ℕ) → IsTrue (takes_part g f) → participations g b ≡ participations g past
next_behind recorded past x v j e f is_e is_f differ b same g part =
    ap (participations g) same ∙ participations_push g past (told v e) ∙ ap (λ c. participations g past + cond c 1 0) none ∙ omega arith
  where
    none_takes : None ≡ Some g → ⊥
    none_takes is = cc

    who : f.who ≡ g
    who = elim (takes_part_by g f part) [
      | inl own ↦ own
      | inr other ↦ absurd (none_takes (sym (access_alone x f.op is_f) ∙ other))
    ]

    none : takes_part g (told v e) ≡ false
    none = alone x v g e is_e ∙ by (e.who == g) refl
      where
        by : (c : Bool) → (e.who == g) ≡ c → c ≡ false
        by false is = refl
        by true is = absurd (differ (eqb-true e.who g is ∙ sym who))

module _ (recorded : TraceState) (x v w : ℕ) (order : List ℕ) (a : AttemptState) (i j : ℕ) (e f : Event) (attempt : IsAttempt recorded order a)
    (at_e : At recorded.events i e) (at_f : At recorded.events j f) (next_e : IsNext recorded.events (events_by recorded.events order) i e)
    (next_f : IsNext recorded.events (events_by recorded.events order) j f) (is_e : IsTrue (accesses x e.op)) (is_f : IsTrue (accesses x f.op))
    (differ : e.who ≢ f.who) where
  abbrev past : List Event
  past = events_by recorded.events order

  abbrev both : List Event
  both = (past ++ told v e ∷ []) ++ told w f ∷ []

  due_e : IsDue recorded order e
  due_e = due_from recorded order i e at_e next_e

  due_f : IsDue recorded order f
  due_f = due_from recorded order j f at_f next_f

  asks : (g : ℕ) → AsksTheSame (execution_of g both) (execution_of g recorded.events)
  asks g = by (e.who == g) refl (f.who == g) refl
    where
      Asks : List Event → Type 0
      Asks es = AsksTheSame es (execution_of g recorded.events)

      by : (b : Bool) → (e.who == g) ≡ b → (c : Bool) → (f.who == g) ≡ c → Asks (execution_of g both)
      by true one true two = absurd (differ (eqb-true e.who g one ∙ sym (eqb-true f.who g two)))
      by true one false two =
          subst Asks (sym (filter_drop (takes_part g) (past ++ told v e ∷ []) (told w f) (alone x w g f is_f ∙ two)
          ∙ filter_push (takes_part g) past (told v e) (alone x v g e is_e ∙ one)))
          (asks_last (execution_of g past) (execution_of g recorded.events) e v (attempt.fronts g)
          (subst (λ g. slice_get (execution_of g recorded.events) (length (execution_of g past)) ≡ Some e) (eqb-true e.who g one) due_e))
      by false one true two =
          subst Asks (sym (filter_push (takes_part g) (past ++ told v e ∷ []) (told w f) (alone x w g f is_f ∙ two)
          ∙ ap (λ es. es ++ told w f ∷ []) (filter_drop (takes_part g) past (told v e) (alone x v g e is_e ∙ one))))
          (asks_last (execution_of g past) (execution_of g recorded.events) f w (attempt.fronts g)
          (subst (λ g. slice_get (execution_of g recorded.events) (length (execution_of g past)) ≡ Some f) (eqb-true f.who g two) due_f))
      by false one false two =
          subst Asks (sym (filter_drop (takes_part g) (past ++ told v e ∷ []) (told w f) (alone x w g f is_f ∙ two)
          ∙ filter_drop (takes_part g) past (told v e) (alone x v g e is_e ∙ one)))
          (asks_front (execution_of g past) (execution_of g recorded.events) (attempt.fronts g))

  ends : IsTrue (writes x e.op || writes x f.op) → EndsWithRace both x
  ends write =
      ends_by both x (length past) (told v e) (told w f)
      (length_push (past ++ told v e ∷ []) (told w f) ∙ (let one = length_push past (told v e) in omega (arith, one)))
      (append_at_old (past ++ told v e ∷ []) (told w f ∷ []) (length past) (told v e) (slice_get-push past (told v e)))
      (ap (slice_get both) (sym (length_push past (told v e))) ∙ slice_get-push (past ++ told v e ∷ []) (told w f))
      (accesses_told x v e.op ∙ is_e) (accesses_told x w f.op ∙ is_f)
      ((λ i. writes_told x v e.op i || writes_told x w f.op i) ∙ write) differ

  -- with the two at its end it is a run with a race
  pub ended : (k : ℕ) (whole : List ℕ) (replay : ReplayState) → order ≡ take k whole → k + 2 ≡ length whole → length whole ≤ MAX_EVENTS
      → slice_get whole k ≡ Some i → slice_get whole (k + 1) ≡ Some j → IsTrue (writes x e.op || writes x f.op)
      → StandsFor recorded.decls.declarations replay both
      → IsRunWithRace recorded x whole (run_with recorded order (record { first = told v e; second = told w f }))
  ended k whole replay front len room at_k at_next write stands = record {
    decls = refl;
    could_have_run = record { legal = stands.legal; asks_the_same = asks };
    ends_with_race = ends write;
    made = subst (λ o. IsMadeOf recorded.events o both) all made;
    kept = subst (AreKept recorded.events whole both) (sym before_is) kept;
    limited = let many = made.as_many in omega (arith, many, ap length all, room);
  }
    where
      all : (order ++ i ∷ []) ++ j ∷ [] ≡ whole
      all =
          ap (λ o. (o ++ i ∷ []) ++ j ∷ []) front ∙ ap (λ o. o ++ j ∷ []) (sym (take_next whole k i at_k)) ∙ sym (take_next whole (k + 1) j at_next)
          ∙ take_all (k + 1 + 1) whole (omega (arith, len))

      next : IsNext recorded.events (past ++ told v e ∷ []) j f
      next g part = next_behind recorded.events past x v j e f is_e is_f differ (past ++ told v e ∷ []) refl g part ∙ next_f g part

      made : IsMadeOf recorded.events ((order ++ i ∷ []) ++ j ∷ []) both
      made = made_push recorded.events (order ++ i ∷ []) (past ++ told v e ∷ []) j f w (made_push recorded.events order past i e v attempt.made at_e next_e) at_f next

      -- before the two stand as many events as before
      before_is : (ends write).before ≡ length past
      before_is =
          let two = (ends write).last_two in
          let one = length_push (past ++ told v e ∷ []) (told w f) in
          let first = length_push past (told v e) in
          omega (arith, two, one, first)

      kept : AreKept recorded.events whole both (length past)
      kept n m d less there at =
          let many = attempt.made.as_many in
          let shorter : length order ≡ k = ap length front ∙ length-take-le k whole (omega (arith, len)) in
          let old : slice_get order n ≡ Some m = ap (λ o. slice_get o n) front ∙ slice_get-take k whole n (omega (arith, less, many, shorter)) ∙ there in
          append_at_old (past ++ told v e ∷ []) (told w f ∷ []) n d (append_at_old past (told v e ∷ []) n d
          (attempt.kept n m d (omega (arith, less, many)) old at))

  -- the same of two events that are these
  pub ended_by : (k : ℕ) (whole : List ℕ) (replay : ReplayState) → order ≡ take k whole → k + 2 ≡ length whole → length whole ≤ MAX_EVENTS
      → slice_get whole k ≡ Some i → slice_get whole (k + 1) ≡ Some j → IsTrue (writes x e.op || writes x f.op) → (last : LastTwo)
      → last.first ≡ told v e → last.second ≡ told w f → StandsFor recorded.decls.declarations replay ((past ++ last.first ∷ []) ++ last.second ∷ [])
      → IsRunWithRace recorded x whole (run_with recorded order last)
  ended_by k whole replay front len room at_k at_next write last first second stands =
      subst (λ (l : LastTwo). IsRunWithRace recorded x whole (run_with recorded order l)) (λ m. record { first = sym first m; second = sym second m })
      (ended k whole replay front len room at_k at_next write
      (subst (λ (l : LastTwo). StandsFor recorded.decls.declarations replay ((past ++ l.first ∷ []) ++ l.second ∷ []))
      (λ m. record { first = first m; second = second m }) stands))
