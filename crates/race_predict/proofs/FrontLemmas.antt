-- Counts of participations, and fronts of executions.
use Rattle.std.proofs.Common.{◌≡◌, ◌≢◌, ◌⊎◌, ◌==◌, ◌||◌, ◌+◌, ◌<◌, ◌≤◌, ℕ, min, Bool, true, false, cond, IsTrue, IfSome}
use Rattle.std.proofs.Common.{Option, Some, None, List, [], ◌∷◌, ◌++◌, length, take, slice_get, slice_index_or}
use Rattle.std.proofs.Common.{refl, sym, ap, ◌∙◌, subst, inl, inr, arith, eqb-true, get_or}
use Rattle.std.proofs.lemmas.{List.{length-set, get_or-set_other, get_or-set_same, length_push, Sums.{count_by-le-length, length-filter}}}
use Rattle.std.proofs.lemmas.{Bool.{or_cases, Decides.nat_tests}}
use Rattle.race_records.specs.declared.event.{Event.Event, Op.{Op, TheVariants.{Read, Write}}}
use Rattle.race_records.specs.declared.trace.TheConstants.{MAX_EVENTS}
use Rattle.race_model.specs.Events.{At, partner, gives, takes_part, accesses, writes}
use Rattle.race_model.specs.{Clocks.participations, Predict.{execution_of, finding, told, AsksTheSame}}
use Rattle.race_model.proofs.{ClockLemmas.participations_push, Indexes.push_at}
use Rattle.race_model.proofs.PredictLemmas.{at_in_part, filter_push, filter_drop}
use Rattle.race_predict.specs.{Fronts.{Counts, one_more, counted, IsFront, IsPosition}, declared.positions.Position.Position}

-- who takes part in an event is its goroutine, or the partner
pub takes_part_by : (g : ℕ) (e : Event) → IsTrue (takes_part g e) → (e.who ≡ g) ⊎ (partner e.op ≡ Some g)
takes_part_by g e is = elim (or_cases _ _ is) [ inl who ↦ inl (eqb-true e.who g who) | inr other ↦ inr (by (partner e.op) other) ]
  where
    by : (o : Option ℕ) → IsTrue (gives o g) → o ≡ Some g
    by None is = cc
    by (Some h) is = ap Some (eqb-true h g is)

len_one_more : (counts : List ℕ) (g : ℕ) → length (one_more counts g) ≡ length counts
len_one_more counts g = length-set counts g _

-- a row of the counts with one more
one_more_same : (counts : List ℕ) (g : ℕ) → g < length counts → slice_index_or counts g 0 < MAX_EVENTS
    → slice_index_or (one_more counts g) g 0 ≡ slice_index_or counts g 0 + 1
one_more_same counts g less small = get_or-set_same counts g (min (get_or counts g 0 + 1) 4_294_967_295) 0 less ∙ omega (arith, small)

one_more_other : (counts : List ℕ) (g h : ℕ) → h ≢ g → slice_index_or (one_more counts g) h 0 ≡ slice_index_or counts h 0
one_more_other counts g h other = get_or-set_other counts g h (min (get_or counts g 0 + 1) 4_294_967_295) 0 other

pub len_counted : (counts : List ℕ) (who : ℕ) (o : Option ℕ) → length (counted counts who o) ≡ length counts
len_counted counts who None = len_one_more counts who
len_counted counts who (Some h) = by (h == who)
  where
    by : (b : Bool) → length (cond b (one_more counts who) (one_more (one_more counts who) h)) ≡ length counts
    by true = len_one_more counts who
    by false = len_one_more (one_more counts who) h ∙ len_one_more counts who

-- one more for who takes part
abbrev part_in : ℕ → ℕ → Option ℕ → Bool
part_in g who o = (who == g) || gives o g

counted_at : (counts : List ℕ) (who : ℕ) (o : Option ℕ) → who < length counts → IfSome o (λ h. h < length counts)
    → (g : ℕ) → g < length counts → slice_index_or counts g 0 < MAX_EVENTS
    → slice_index_or (counted counts who o) g 0 ≡ slice_index_or counts g 0 + cond (part_in g who o) 1 0
counted_at counts who None in_who in_other g less small = by (who == g) refl
  where
    by : (b : Bool) → (who == g) ≡ b → slice_index_or (one_more counts who) g 0 ≡ slice_index_or counts g 0 + cond (b || false) 1 0
    by true is = subst (λ who. slice_index_or (one_more counts who) g 0 ≡ slice_index_or counts g 0 + 1) (sym (eqb-true who g is)) (one_more_same counts g less small)
    by false is = one_more_other counts who g (λ same. absurd (grind (arith, nat_tests))) ∙ omega arith
counted_at counts who (Some h) in_who in_other g less small = by (h == who) refl (who == g) refl (h == g) refl
  where
    once : (k : ℕ) → (b : Bool) → (k == g) ≡ b → slice_index_or (one_more counts k) g 0 ≡ slice_index_or counts g 0 + cond b 1 0
    once k true is = subst (λ k. slice_index_or (one_more counts k) g 0 ≡ slice_index_or counts g 0 + 1) (sym (eqb-true k g is)) (one_more_same counts g less small)
    once k false is = one_more_other counts k g (λ same. absurd (grind (arith, nat_tests))) ∙ omega arith

    by : (b : Bool) → (h == who) ≡ b → (c : Bool) → (who == g) ≡ c → (d : Bool) → (h == g) ≡ d
        → slice_index_or (cond b (one_more counts who) (one_more (one_more counts who) h)) g 0 ≡ slice_index_or counts g 0 + cond (c || d) 1 0
    by true one true is d more = once who true is
    by true one false is false more = once who false is
    by true one false is true more = absurd (grind (arith, nat_tests))
    by false two true is true more = absurd (grind (arith, nat_tests))
    by false two c is false more = one_more_other (one_more counts who) h g (λ same. absurd (grind (arith, nat_tests))) ∙ once who c is ∙ same c
      where
        same : (c : Bool) → slice_index_or counts g 0 + cond c 1 0 ≡ slice_index_or counts g 0 + cond (c || false) 1 0
        same true = refl
        same false = refl
    by false two false is true more =
        let kept : slice_index_or (one_more counts who) g 0 ≡ slice_index_or counts g 0 = one_more_other counts who g (λ same. absurd (grind (arith, nat_tests))) in
        let same : h ≡ g = eqb-true h g more in
        subst (λ h. slice_index_or (one_more (one_more counts who) h) g 0 ≡ slice_index_or counts g 0 + 1) (sym same)
        (one_more_same (one_more counts who) g (let len = len_one_more counts who in omega (arith, len)) (omega (arith, kept, small)) ∙ ap (λ n. n + 1) kept)

-- what was counted goes on behind an event
pub counts_go_on : (counts : List ℕ) (past : List Event) (e : Event) → e.who < length counts → IfSome (partner e.op) (λ h. h < length counts)
    → length past < MAX_EVENTS → Counts counts past → Counts (counted counts e.who (partner e.op)) (past ++ e ∷ [])
counts_go_on counts past e in_who in_other room c g less =
    let len = len_counted counts e.who (partner e.op) in
    let under : g < length counts = omega (arith, len) in
    let is = c g under in
    let few : participations g past ≤ length past = count_by-le-length (takes_part g) past in
    counted_at counts e.who (partner e.op) in_who in_other g under (omega (arith, is, few)) ∙ ap (λ n. n + cond (takes_part g e) 1 0) is
    ∙ sym (participations_push g past e)

-- of who takes part in the event, as many stand in the list as before the event among the recorded ones
pub is_due : (recorded past : List Event) (counts : List ℕ) (i : ℕ) (e : Event) (p : Position) → Counts counts past → IsPosition recorded i e p
    → e.who < length counts → IfSome (partner e.op) (λ h. h < length counts) → slice_index_or counts e.who 0 ≡ p.own
    → IfSome (partner e.op) (λ h. slice_index_or counts h 0 ≡ p.partners)
    → (g : ℕ) → IsTrue (takes_part g e) → participations g past ≡ participations g (take i recorded)
is_due recorded past counts i e p c pos in_who in_other own others g part = elim (takes_part_by g e part) [
  | inl who ↦ subst (λ g. participations g past ≡ participations g (take i recorded)) who (sym (c e.who in_who) ∙ own ∙ pos.own)
  | inr other ↦
      let less : g < length counts = subst (λ o. IfSome o (λ h. h < length counts)) other in_other in
      let is : slice_index_or counts g 0 ≡ p.partners = subst (λ o. IfSome o (λ h. slice_index_or counts h 0 ≡ p.partners)) other others in
      sym (c g less) ∙ is ∙ pos.partners g other
]

-- then it stands there in the recorded execution
pub due_at : (recorded past : List Event) (i : ℕ) (e : Event) (g : ℕ) → At recorded i e → IsTrue (takes_part g e)
    → participations g past ≡ participations g (take i recorded)
    → slice_get (execution_of g recorded) (length (execution_of g past)) ≡ Some e
due_at recorded past i e g at part due =
    ap (slice_get (execution_of g recorded)) (length-filter (takes_part g) past ∙ due) ∙ at_in_part (takes_part g) recorded i e at part

-- a front with what comes next is a front
front_push : (front whole : List Event) (e : Event) → IsFront front whole → slice_get whole (length front) ≡ Some e → IsFront (front ++ e ∷ []) whole
front_push front whole e is next k a at = elim (push_at front e k a at) [
  | inl old ↦ is k a old
  | inr (last, same) ↦ ap (slice_get whole) last ∙ next ∙ ap Some same
]

-- so each execution stays a front
pub fronts_go_on : (recorded past : List Event) (i : ℕ) (e : Event) (g : ℕ) → At recorded i e
    → (IsTrue (takes_part g e) → participations g past ≡ participations g (take i recorded))
    → IsFront (execution_of g past) (execution_of g recorded) → IsFront (execution_of g (past ++ e ∷ [])) (execution_of g recorded)
fronts_go_on recorded past i e g at due is = by (takes_part g e) refl
  where
    by : (b : Bool) → takes_part g e ≡ b → IsFront (execution_of g (past ++ e ∷ [])) (execution_of g recorded)
    by true part =
        subst (λ es. IsFront es (execution_of g recorded)) (sym (filter_push (takes_part g) past e part))
        (front_push (execution_of g past) (execution_of g recorded) e is (due_at recorded past i e g at part (due part)))
    by false none = subst (λ es. IsFront es (execution_of g recorded)) (sym (filter_drop (takes_part g) past e none)) is

pub asks_front : (front whole : List Event) → IsFront front whole → AsksTheSame front whole
asks_front front whole is k a at = (a, is k a at, inl refl)

-- behind a front a read may find another value, as its last event
pub asks_last : (front whole : List Event) (e : Event) (v : ℕ) → IsFront front whole → slice_get whole (length front) ≡ Some e
    → AsksTheSame (front ++ told v e ∷ []) whole
asks_last front whole e v is next k a at = elim (push_at front (told v e) k a at) [
  | inl old ↦ (a, is k a old, inl refl)
  | inr (last, same) ↦ (e, ap (slice_get whole) last ∙ next, inr (omega (arith, last, length_push front (told v e)), (v, sym same)))
]

-- whatever a read finds, it is an access of the same variable, and no partner takes part
pub accesses_told : (x v : ℕ) (o : Op) → accesses x (finding v o) ≡ accesses x o
accesses_told x v (Read y w) = refl
accesses_told x v _ = refl

pub writes_told : (x v : ℕ) (o : Op) → writes x (finding v o) ≡ writes x o
writes_told x v (Read y w) = refl
writes_told x v _ = refl

pub access_alone : (x : ℕ) (o : Op) → IsTrue (accesses x o) → partner o ≡ None
access_alone x (Read y w) is = refl
access_alone x (Write y w) is = refl
access_alone x _ is = cc

pub partner_told : (v : ℕ) (o : Op) → partner (finding v o) ≡ partner o
partner_told v (Read y w) = refl
partner_told v _ = refl

-- each event is told what it found
told_same_op : (o : Op) → (v : ℕ) × (o ≡ finding v o)
told_same_op (Read x v) = (v, refl)
told_same_op _ = (0, refl)

pub told_same : (e : Event) → (v : ℕ) × (e ≡ told v e)
told_same e = let (v, same) = told_same_op e.op in (v, (λ i. record { who = e.who; op = same i; place = e.place; place2 = e.place2 }))
