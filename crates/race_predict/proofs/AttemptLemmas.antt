-- A run goes on by an event, or can't.
use Rattle.std.proofs.Common.{◌≡◌, ◌+◌, ◌<◌, ◌≤◌, ℕ, IsTrue, IfSome, None, Some}
use Rattle.std.proofs.Common.{List, [], ◌∷◌, ◌++◌, length, take, slice_get, slice_index_or, replicate, sym, ap}
use Rattle.std.proofs.Common.{Result, Ok, Err, OnOk, ◌∙◌, subst, inl, inr, refl, arith, take_all}
use Rattle.std.specs.List.{cons_option}
use Rattle.std.proofs.lemmas.{List.{length_push, length-replicate, get_or-replicate, length-take-le, take-append-le, Elements.filter_map-append}}
use Rattle.std.proofs.lemmas.{Option.slice_get_within, Bool.Decides.nat_tests}
use Rattle.race_records.specs.declared.{event.{Event.Event, Op.{Op, TheVariants.{Go, Meet}}}, kind.Kind.Kind, trace.TheConstants.MAX_EVENTS}
use Rattle.race_records.specs.{Declarations.{counts_of}, Events.{TraceState, fits}, Operands.op_is_in_range}
use Rattle.race_model.specs.{Events.{At, partner}, Legal.broken}
use Rattle.race_model.specs.Predict.{execution_of, told}
use Rattle.race_model.proofs.{Indexes.{push_at, append_at_old, at_same, slice_get-push}}
use Rattle.race_legal.{specs.StandsFor.{StandsFor, GoesOn, IsLeastBroken}, proofs.{Fronts.take_next, RangeLemmas.range_from_fits}}
use Rattle.race_verdict.specs.Traces.{capacities}
use Rattle.race_predict.specs.Fronts.{Counts, counted, IsFront, IsNext}
use Rattle.race_predict.specs.{Attempts.{AttemptState, IsAttempt, IsFound, IsNextAt, CanComeNext, events_by}, Certified.{AreKept, IsMadeOf}}
use Rattle.race_predict.proofs.FrontLemmas.{counts_go_on, fronts_go_on, len_counted}
use Rattle.race_predict.proofs.FrontLemmas.{told_same}

-- before the first event
pub starts : (recorded : TraceState) (a : AttemptState) (n : ℕ) → StandsFor recorded.decls.declarations a.replay [] → a.taken ≡ replicate n 0
    → n ≡ counts_of recorded.decls.declarations Kind.Goroutine → IsAttempt recorded [] a
starts recorded a n stands zeros rows = record {
  stands = stands;
  rows = ap length zeros ∙ length-replicate n 0 ∙ rows;
  counts = λ g less.
      let len = ap length zeros ∙ length-replicate n 0 in
      ap (λ xs. slice_index_or xs g 0) zeros ∙ get_or-replicate n g 0 0 (omega (arith, less, len));
  fronts = λ g k b at. cc;
  made = record { as_many = refl; each = λ k i at. cc; in_turn = λ k i e at. cc };
  kept = λ k i e less at. cc;
}

-- the recorded events of one index more
pub events_next : (recorded : List Event) (order : List ℕ) (k i : ℕ) (e : Event) → slice_get order k ≡ Some i → At recorded i e
    → events_by recorded (take (k + 1) order) ≡ events_by recorded (take k order) ++ e ∷ []
events_next recorded order k i e here at =
    ap (events_by recorded) (take_next order k i here) ∙ filter_map-append (slice_get recorded) (take k order) (i ∷ [])
    ∙ ap (λ o. events_by recorded (take k order) ++ cons_option o []) at

-- a list that is made of recorded events, and one more
pub made_push : (recorded : List Event) (order : List ℕ) (past : List Event) (i : ℕ) (e : Event) (v : ℕ) → IsMadeOf recorded order past → At recorded i e
    → IsNext recorded past i e → IsMadeOf recorded (order ++ i ∷ []) (past ++ told v e ∷ [])
made_push recorded order past i e v made at next = record {
  as_many = let len = made.as_many in omega (arith, len, length_push past (told v e), length_push order i);
  each = λ k j there. elim (push_at order i k j there) [
    | inl old ↦ let (b, at_b, (w, stands)) = made.each k j old in (b, at_b, (w, append_at_old past (told v e ∷ []) k (told w b) stands))
    | inr (last, same) ↦
        let len = made.as_many in
        let is : k ≡ length past = omega (arith, len, last) in
        (e, subst (λ i. At recorded i e) same at, (v, ap (slice_get (past ++ told v e ∷ [])) is ∙ slice_get-push past (told v e)))
  ];
  in_turn = λ k j d there at_d. elim (push_at order i k j there) [
    | inl old ↦
        let len = made.as_many in
        let less = slice_get_within order k j old in
        subst (λ es. IsNext recorded es j d) (sym (take-append-le k past (told v e ∷ []) (omega (arith, len, less)))) (made.in_turn k j d old at_d)
    | inr (last, same) ↦
        let len = made.as_many in
        let is : k ≡ length past = omega (arith, len, last) in
        let front : take k (past ++ told v e ∷ []) ≡ past =
        take-append-le k past (told v e ∷ []) (omega (arith, is)) ∙ take_whole k past is in
        let event : e ≡ d = at_same recorded i e d at (ap (slice_get recorded) same ∙ at_d) in
        subst (λ es. IsNext recorded es j d) (sym front) (subst (λ j. IsNext recorded past j d) same (subst (IsNext recorded past i) event next))
  ];
}
  where
    take_whole : (k : ℕ) (es : List Event) → k ≡ length es → take k es ≡ es
    take_whole k es is = take_all k es (omega (arith, is))

-- what they found is kept, and one more
pub kept_push : (recorded : List Event) (order : List ℕ) (past : List Event) (i : ℕ) (e : Event) → length past ≡ length order
    → AreKept recorded order past (length order) → At recorded i e → AreKept recorded (order ++ i ∷ []) (past ++ e ∷ []) (length (order ++ i ∷ []))
kept_push recorded order past i e len kept at k j d less there at_d = elim (push_at order i k j there) [
  | inl old ↦ append_at_old past (e ∷ []) k d (kept k j d (slice_get_within order k j old) old at_d)
  | inr (last, same) ↦
      let is : k ≡ length past = omega (arith, len, last) in
      ap (slice_get (past ++ e ∷ [])) is ∙ slice_get-push past e ∙ ap Some (at_same recorded i e d at (ap (slice_get recorded) same ∙ at_d))
]

partner_in_range : (counts : Kind → ℕ) (o : Op) → IsTrue (op_is_in_range counts o) → IfSome (partner o) (λ g. g < counts Kind.Goroutine)
partner_in_range counts (Go h) is = grind (arith, nat_tests)
partner_in_range counts (Meet r c v) is = grind (arith, nat_tests)
partner_in_range counts _ is = tt

-- whoever takes part in an event that fits has a row
pub rows_from_fits : (recorded : TraceState) (counts : List ℕ) (e : Event) → IsTrue (fits recorded.decls e)
    → length counts ≡ counts_of recorded.decls.declarations Kind.Goroutine
    → (e.who < length counts) × IfSome (partner e.op) (λ g. g < length counts)
rows_from_fits recorded counts e fit rows =
    let (who, op) = range_from_fits recorded.decls e fit in
    (omega (arith, who, rows), subst (λ n. IfSome (partner e.op) (λ g. g < n)) (sym rows) (partner_in_range (counts_of recorded.decls.declarations) e.op op))

-- what two facts of a result give together
pub more_on_ok : {T E : Type 0} (r : Result T E) (X Y Z : Type 0) → (X → Y → Z) → OnOk r X → OnOk r Y → OnOk r Z
more_on_ok (Ok t) X Y Z more x y = more x y
more_on_ok (Err e) X Y Z more x y = tt

-- the run goes on by the event that is next
pub goes_on : (recorded : TraceState) (order : List ℕ) (k i : ℕ) (e : Event) (a b : AttemptState) → IsAttempt recorded (take k order) a
    → slice_get order k ≡ Some i → IsFound recorded a i e → length order ≤ MAX_EVENTS → GoesOn a.replay b.replay e
    → b.taken ≡ counted a.taken e.who (partner e.op) → IsAttempt recorded (take (k + 1) order) b
goes_on recorded order k i e a b attempt here found room goes taken = record {
  stands = subst (StandsFor recorded.decls.declarations b.replay) (sym events) (goes recorded.decls.declarations past attempt.stands);
  rows = ap length taken ∙ len_counted a.taken e.who (partner e.op) ∙ attempt.rows;
  counts = subst (λ es. Counts b.taken es) (sym events) (subst (λ xs. Counts xs (past ++ e ∷ [])) (sym taken)
      (counts_go_on a.taken past e rows.0 rows.1 (omega (arith, few, room)) attempt.counts));
  fronts = λ g. subst (λ es. IsFront (execution_of g es) (execution_of g recorded.events)) (sym events)
      (fronts_go_on recorded.events past i e g found.event (next g) (attempt.fronts g));
  made = subst (λ es. IsMadeOf recorded.events (take (k + 1) order) es) (sym events) (subst (λ o. IsMadeOf recorded.events o (past ++ e ∷ []))
      (sym (take_next order k i here)) made);
  kept = subst (λ es. AreKept recorded.events (take (k + 1) order) es (length (take (k + 1) order))) (sym events)
      (subst (λ o. AreKept recorded.events o (past ++ e ∷ []) (length o)) (sym (take_next order k i here))
      (kept_push recorded.events (take k order) past i e attempt.made.as_many attempt.kept found.event));
}
  where
    past : List Event
    past = events_by recorded.events (take k order)

    events : events_by recorded.events (take (k + 1) order) ≡ past ++ e ∷ []
    events = events_next recorded.events order k i e here found.event

    rows : (e.who < length a.taken) × IfSome (partner e.op) (λ g. g < length a.taken)
    rows = rows_from_fits recorded a.taken e found.fit attempt.rows

    next : IsNext recorded.events past i e
    next = found.next (take k order) attempt

    few : length past < length order
    few =
        let less = slice_get_within order k i here in
        let many = attempt.made.as_many in
        let front = length-take-le k order (omega (arith, less)) in
        omega (arith, less, many, front)

    made : IsMadeOf recorded.events (take k order ++ i ∷ []) (past ++ e ∷ [])
    made =
        let (v, same) = told_same e in
        subst (λ e. IsMadeOf recorded.events (take k order ++ i ∷ []) (past ++ e ∷ [])) (sym same)
        (made_push recorded.events (take k order) past i e v attempt.made found.event next)

-- an event of an index that isn't next can't come next
pub not_next : (recorded : TraceState) (order : List ℕ) (k i : ℕ) → slice_get order k ≡ Some i → ¬ IsNextAt recorded (take k order) i
    → ¬ CanComeNext recorded order k
not_next recorded order k i here never can = never (subst (IsNextAt recorded (take k order)) (same_index can.i i (sym can.index ∙ here)) can.found)
  where
    same_index : (x y : ℕ) → Some x ≡ Some y → x ≡ y
    same_index x y is = cc

-- nor can an event that breaks a rule
pub not_legal : (recorded : TraceState) (order : List ℕ) (k i : ℕ) (e : Event) (a : AttemptState) → IsAttempt recorded (take k order) a
    → slice_get order k ≡ Some i → At recorded.events i e → ((rule : ℕ) × IsLeastBroken a.replay e (Some rule)) → ¬ CanComeNext recorded order k
not_legal recorded order k i e a attempt here at (rule, breaks) can =
    none_is rule (sym can.legal ∙ ap (broken (capacities recorded) past) same ∙ breaks recorded.decls.declarations past attempt.stands)
  where
    past : List Event
    past = events_by recorded.events (take k order)

    same_index : (x y : ℕ) → Some x ≡ Some y → x ≡ y
    same_index x y is = cc

    none_is : (rule : ℕ) → None ≡ Some rule → ⊥
    none_is rule is = cc

    same : can.found.e ≡ e
    same =
        at_same recorded.events i can.found.e e
        (ap (slice_get recorded.events) (sym (same_index can.i i (sym can.index ∙ here))) ∙ can.found.event) at
