-- What a run with a race says of each event of its order, so that a test that refuses one refuses no such run.
use Rattle.std.proofs.Common.{◌≡◌, ◌≢◌, ◌==◌, ◌||◌, ◌+◌, ◌<◌, ◌≤◌, ℕ, zero, suc, Bool, true, false, IsTrue, None, Some, List, [], ◌∷◌, ◌++◌, not}
use Rattle.std.proofs.Common.{length, take, slice_get, get_or, sym, ap, ◌∙◌, subst, refl, arith, inl, inr, eqb-true, take_all}
use Rattle.std.proofs.lemmas.{List.take-append-le, Option.slice_get-get_or, Bool.{or_left, or_right}}
use Rattle.race_records.specs.declared.event.{Event.Event, Op.{Op, TheVariants.{Read, Write}}}
use Rattle.race_records.specs.{declared.trace.TheConstants.MAX_EVENTS, Declarations.capacity_of, Events.{TraceState}}
use Rattle.race_model.specs.{Events.{At, accesses, writes}, Legal.{broken, rules, IsLegal}, State.last_value, Race.IsRace}
use Rattle.race_model.specs.Predict.{told, finding}
use Rattle.race_model.proofs.{ChannelOrder.rules_kept, Indexes.{at_same, at_below, slice_get-push}}
use Rattle.race_legal.{specs.{ReplayState.ReplayState, StandsFor.{ForEachPast, IsLeastBroken}}, proofs.Fronts.take_next}
use Rattle.race_verdict.specs.Traces.{capacities}
use Rattle.race_predict.specs.{Fronts.IsNext, Attempts.{CanComeNext, ForEachLegal, IsNextAt, events_by}, Certified.{HasNoCertificate, IsCertificate, IsRunWithRace}}
use Rattle.race_predict.proofs.{AttemptLemmas.events_next, FrontLemmas.{accesses_told, writes_told}, EndLemmas.next_behind}

-- a read that is legal finds the last value
pub finds_last : (caps : ℕ → ℕ) (past : List Event) (x v : ℕ) (e : Event) → IsTrue (accesses x e.op) → broken caps past (told v e) ≡ None
    → told v e ≡ told (last_value x past) e
finds_last caps past x v e is legal = ap (λ o. record { who = e.who; op = o; place = e.place; place2 = e.place2 }) (by e.op is legal)
  where
    known : (b : Bool) → not b ≡ false → b ≡ true
    known true is = refl
    known false is = cc

    left : (b : Bool) → (b || false) ≡ true → b ≡ true
    left true is = refl
    left false is = cc

    by : (o : Op) → IsTrue (accesses x o) → broken caps past (record { who = e.who; op = finding v o; place = e.place; place2 = e.place2 }) ≡ None
        → finding v o ≡ finding (last_value x past) o
    by (Read y w) is legal =
        let kept : not (last_value y past == v) ≡ false =
        rules_kept (rules caps past (record { who = e.who; op = Read y v; place = e.place; place2 = e.place2 })) 2
        (21, not (last_value y past == v)) legal refl in
        let value : last_value y past ≡ v = eqb-true (last_value y past) v (known (last_value y past == v) kept) in
        let var : y ≡ x = eqb-true y x (left (y == x) is) in
        ap (Read y) (sym value ∙ ap (λ x. last_value x past) var)
    by (Write y w) is legal = refl
    by _ is legal = cc

none_is : (rule : ℕ) → None ≡ Some rule → ⊥
none_is rule is = cc

-- the last event of a legal list breaks no rule
last_legal : (caps : ℕ → ℕ) (past : List Event) (d : Event) → IsLegal caps (past ++ d ∷ []) → broken caps past d ≡ None
last_legal caps past d legal =
    subst (λ es. broken caps es d ≡ None)
    (take-append-le (length past) past (d ∷ []) (omega arith) ∙ take_all (length past) past (omega arith))
    (legal (length past) d (slice_get-push past d))

-- an access that breaks a rule where it finds the last value breaks one whatever it finds
pub never_legal : (x : ℕ) (e found : Event) (k : ReplayState) (v : ℕ) → IsTrue (accesses x e.op) → found ≡ told v e
    → ForEachPast k (λ past. v ≡ last_value x past) → ((rule : ℕ) × IsLeastBroken k found (Some rule))
    → ForEachLegal k (λ caps past. (u : ℕ) → broken caps past (told u e) ≢ None)
never_legal x e found k v is same last (rule, breaks) declarations past stands u legal =
    none_is rule
    (sym legal ∙ ap (broken (capacity_of declarations) past)
    (finds_last (capacity_of declarations) past x u e is legal ∙ ap (λ v. told v e) (sym (last declarations past stands)) ∙ sym same)
    ∙ breaks declarations past stands)

-- the last two indexes of an order
pub at_first : (order : List ℕ) (k : ℕ) → k + 2 ≡ length order → slice_get order k ≡ Some (get_or order k 0)
at_first order k len = slice_get-get_or order k 0 (omega (arith, len))

pub at_second : (order : List ℕ) (k : ℕ) → k + 2 ≡ length order → slice_get order (k + 1) ≡ Some (get_or order (k + 1) 0)
at_second order k len = slice_get-get_or order (k + 1) 0 (omega (arith, len))

module _ (recorded : TraceState) (x : ℕ) (order : List ℕ) (other : TraceState) (run : IsRunWithRace recorded x order other) (k : ℕ)
    (len : k + 2 ≡ length order) where
  before_is : run.ends_with_race.before ≡ k
  before_is = let many = run.made.as_many in let two = run.ends_with_race.last_two in omega (arith, many, two, len)

  -- the front is that of the recorded events
  pub front_is : (n : ℕ) → n ≤ k → take n other.events ≡ events_by recorded.events (take n order)
  front_is zero less = refl
  front_is (suc n) less =
      let (i, here) = at_below order n (omega (arith, less, len)) in
      let (e, at, found) = run.made.each n i here in
      let there : At other.events n e = run.kept n i e (omega (arith, less, before_is)) here at in
      let next : n + 1 ≡ suc n = omega arith in
      subst (λ m. take m other.events ≡ events_by recorded.events (take m order)) next
      (take_next other.events n e there ∙ ap (λ es. es ++ e ∷ []) (front_is n (omega (arith, less)))
      ∙ sym (events_next recorded.events order n i e here at))

  -- each event of the front can come next
  pub can_come : (n : ℕ) → n < k → CanComeNext recorded order n
  can_come n less =
      let (i, here) = at_below order n (omega (arith, less, len)) in
      let (e, at, found) = run.made.each n i here in
      let there : At other.events n e = run.kept n i e (omega (arith, less, before_is)) here at in
      let front = front_is n (omega (arith, less)) in
      record {
        i = i;
        index = here;
        found = record {
          e = e;
          event = at;
          next = subst (λ es. IsNext recorded.events es i e) front (run.made.in_turn n i e here at);
        };
        legal = subst (λ es. broken (capacities recorded) es e ≡ None) front (run.could_have_run.legal n e there);
      }

  abbrev i : ℕ
  i = get_or order k 0

  abbrev j : ℕ
  j = get_or order (k + 1) 0

  at_i : slice_get order k ≡ Some i
  at_i = at_first order k len

  at_j : slice_get order (k + 1) ≡ Some j
  at_j = at_second order k len

  module _ (e f : Event) (at_e : At recorded.events i e) (at_f : At recorded.events j f) where
    abbrev past : List Event
    past = events_by recorded.events (take k order)

    first : (v : ℕ) × At other.events k (told v e)
    first =
        let (d, at_d, found) = run.made.each k i at_i in
        subst (λ (d : Event). (v : ℕ) × At other.events k (told v d)) (at_same recorded.events i d e at_d at_e) found

    second : (v : ℕ) × At other.events (k + 1) (told v f)
    second =
        let (d, at_d, found) = run.made.each (k + 1) j at_j in
        subst (λ (d : Event). (v : ℕ) × At other.events (k + 1) (told v d)) (at_same recorded.events j d f at_d at_f) found

    behind : take (k + 1) other.events ≡ past ++ told first.0 e ∷ []
    behind = take_next other.events k (told first.0 e) first.1 ∙ ap (λ es. es ++ told first.0 e ∷ []) (front_is k (omega arith))

    pub accesses_e : IsTrue (accesses x e.op)
    accesses_e =
        let (d, at_d, is) = run.ends_with_race.conflict.1 in
        let same = at_same other.events k d (told first.0 e) (ap (slice_get other.events) (sym before_is) ∙ at_d) first.1 in
        sym (accesses_told x first.0 e.op) ∙ ap (λ (d : Event). accesses x d.op) (sym same) ∙ is

    pub accesses_f : IsTrue (accesses x f.op)
    accesses_f =
        let (d, at_d, is) = run.ends_with_race.conflict.2 in
        let same = at_same other.events (k + 1) d (told second.0 f) (ap (λ n. slice_get other.events (n + 1)) (sym before_is) ∙ at_d) second.1 in
        sym (accesses_told x second.0 f.op) ∙ ap (λ (d : Event). accesses x d.op) (sym same) ∙ is

    pub one_writes : IsTrue (writes x e.op || writes x f.op)
    one_writes = elim run.ends_with_race.conflict.3 [
      | inl written ↦
          let (d, at_d, is) = written in
          let same = at_same other.events k d (told first.0 e) (ap (slice_get other.events) (sym before_is) ∙ at_d) first.1 in
          or_left (writes x e.op) (writes x f.op) (sym (writes_told x first.0 e.op) ∙ ap (λ (d : Event). writes x d.op) (sym same) ∙ is)
      | inr written ↦
          let (d, at_d, is) = written in
          let same = at_same other.events (k + 1) d (told second.0 f) (ap (λ n. slice_get other.events (n + 1)) (sym before_is) ∙ at_d) second.1 in
          or_right (writes x e.op) (writes x f.op) (sym (writes_told x second.0 f.op) ∙ ap (λ (d : Event). writes x d.op) (sym same) ∙ is)
    ]

    pub differ : e.who ≢ f.who
    differ = run.ends_with_race.two_goroutines (told first.0 e) (told second.0 f) (ap (slice_get other.events) before_is ∙ first.1)
        (ap (λ n. slice_get other.events (n + 1)) before_is ∙ second.1)

    pub next_f : IsNext recorded.events past j f
    next_f g part =
        sym (next_behind recorded.events past x first.0 j e f accesses_e accesses_f differ (take (k + 1) other.events) behind g part)
        ∙ run.made.in_turn (k + 1) j f at_j at_f g part

    pub legal_e : (v : ℕ) × (broken (capacities recorded) past (told v e) ≡ None)
    legal_e = (
      first.0,
      subst (λ es. broken (capacities recorded) es (told first.0 e) ≡ None) (front_is k (omega arith))
          (run.could_have_run.legal k (told first.0 e) first.1),
    )

    -- whatever a test let the first of the two find
    pub legal_f : (u : ℕ) → broken (capacities recorded) past (told u e) ≡ None
        → (v : ℕ) × (broken (capacities recorded) (past ++ told u e ∷ []) (told v f) ≡ None)
    unfolding first legal_e
    legal_f u legal = (
      second.0,
      subst (λ d. broken (capacities recorded) (past ++ d ∷ []) (told second.0 f) ≡ None)
          (finds_last (capacities recorded) past x first.0 e accesses_e legal_e.1 ∙ sym (finds_last (capacities recorded) past x u e accesses_e legal))
          (subst (λ es. broken (capacities recorded) es (told second.0 f) ≡ None) behind (run.could_have_run.legal (k + 1) (told second.0 f) second.1)),
    )

    -- so they conflict, and the second is legal after whatever a test let the first find
    pub no_conflict : (IsTrue (accesses x e.op) → IsTrue (accesses x f.op) → IsTrue (writes x e.op || writes x f.op) → e.who ≡ f.who) → ⊥
    no_conflict same = differ (same accesses_e accesses_f one_writes)

    pub first_refused : ((v : ℕ) → broken (capacities recorded) past (told v e) ≢ None) → ⊥
    first_refused never = never legal_e.0 legal_e.1

    second_legal : (d : Event) (u : ℕ) → d ≡ told u e → IsLegal (capacities recorded) (past ++ d ∷ [])
        → (v : ℕ) × (broken (capacities recorded) (past ++ d ∷ []) (told v f) ≡ None)
    second_legal d u is legal =
        subst (λ d. (v : ℕ) × (broken (capacities recorded) (past ++ d ∷ []) (told v f) ≡ None)) (sym is)
        (legal_f u (subst (λ d. broken (capacities recorded) past d ≡ None) is (last_legal (capacities recorded) past d legal)))

    pub second_refused : (d : Event) (u : ℕ) → d ≡ told u e → IsLegal (capacities recorded) (past ++ d ∷ [])
        → ((v : ℕ) → broken (capacities recorded) (past ++ d ∷ []) (told v f) ≢ None) → ⊥
    second_refused d u is legal never = let (v, legal_v) = second_legal d u is legal in never v legal_v

  -- the last two are next after the front
  pub first_next : IsNextAt recorded (take k order) i
  first_next =
      let (e, at, found) = run.made.each k i at_i in
      record { e = e; event = at; next = subst (λ es. IsNext recorded.events es i e) (front_is k (omega arith)) (run.made.in_turn k i e at_i at) }

  pub second_next : IsNextAt recorded (take k order) j
  second_next =
      let (e, at_e, found) = run.made.each k i at_i in
      let (f, at_f, finds) = run.made.each (k + 1) j at_j in
      record { e = f; event = at_f; next = next_f e f at_e at_f }

-- a certificate is a run with a race
pub run_of : (recorded : TraceState) (x : ℕ) (order : List ℕ) (trace : TraceState) → IsCertificate recorded x order trace → IsRunWithRace recorded x order trace
run_of recorded x order trace c = record {
  decls = c.decls;
  could_have_run = c.prediction.could_have_run;
  ends_with_race = c.prediction.ends_with_race;
  made = c.made;
  kept = c.kept;
  limited = c.limited;
}

-- so where no run has one there is no certificate, nor where the order is too short or too long, or where the variable has a recorded race
pub no_certificate : (recorded : TraceState) (x : ℕ) (order : List ℕ) → ((other : TraceState) → ¬ IsRunWithRace recorded x order other)
    → HasNoCertificate recorded x order
no_certificate recorded x order none trace c = none trace (run_of recorded x order trace c)

pub of_two : (recorded : TraceState) (x : ℕ) (order : List ℕ) → length order < 2 → HasNoCertificate recorded x order
of_two recorded x order short trace c =
    let many = c.made.as_many in
    let two = c.prediction.ends_with_race.last_two in
    absurd (omega (arith, many, two, short))

pub of_limit : (recorded : TraceState) (x : ℕ) (order : List ℕ) → MAX_EVENTS < length order → HasNoCertificate recorded x order
of_limit recorded x order long trace c =
    let many = c.made.as_many in
    let limited = c.limited in
    absurd (omega (arith, many, limited, long))

pub of_race : (recorded : TraceState) (x : ℕ) (order : List ℕ) → ((i : ℕ) × ((j : ℕ) × IsRace (capacities recorded) recorded.events x i j))
    → HasNoCertificate recorded x order
of_race recorded x order (i, (j, race)) trace c = c.prediction.not_recorded i j race

-- and where an event of its front can't come next
pub of_front : (recorded : TraceState) (x : ℕ) (order : List ℕ) (k : ℕ) → k + 2 < length order → ¬ CanComeNext recorded order k
    → HasNoCertificate recorded x order
of_front recorded x order k less never trace c =
    let run = run_of recorded x order trace c in
    let before = run.ends_with_race.before in
    let many = run.made.as_many in
    let two = run.ends_with_race.last_two in
    never (can_come recorded x order trace run before (omega (arith, many, two)) k (omega (arith, many, two, less)))
