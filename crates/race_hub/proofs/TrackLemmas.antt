-- How a trace passes along logs.
use Rattle.std.proofs.Common.{◌≡◌, ◌≢◌, ◌==◌, ◌||◌, ◌&&◌, not, ℕ, zero, suc, ◌≤◌, ◌+◌, ◌++◌, Bool, true, false}
use Rattle.std.proofs.Common.{cond, if◌then◌else◌, List, [], ◌∷◌, length, slice_get, slice_set, Option, Some, None}
use Rattle.std.proofs.Common.{refl, sym, ap, ◌∙◌, subst, arith, true≢false, length-append, append-nil, append_assoc}
use Rattle.std.proofs.{Common.eq-eqb, lemmas.{Bool.Decides.nat_tests, Option.{none-some, slice_get_within}}}
use Rattle.std.proofs.lemmas.List.{length-set, Elements.filter-append}
use Rattle.race_records.specs.declared.event.{Event.Event, Op.{Op, TheVariants.{Go, Meet}}}
use Rattle.race_model.{specs.Events.{starts, gives, partner}, proofs.Indexes.{append_at_old, slice_get-push}}
use Rattle.race_requests.{specs.{declared.request.Step.Step, Table.Fits}, proofs.ChoiceLemmas.some_is}
use Rattle.race_hub.specs.{Part.{part_of, IsPart}, Tracks.{TrackState, HasPart, IsPassed, IsTracked, is_in_part}}
use Rattle.race_hub.specs.Tracks.{HavePassed, OneHasPassed, is_through, asker_of, receiver_of}
use Rattle.race_hub.proofs.TableLemmas.{set_other, get_set}

-- the part with one event more
part_push : (g : ℕ) (past : List Event) (e : Event) → part_of g (past ++ e ∷ []) ≡ part_of g past ++ cond (is_in_part g e) (e ∷ []) []
part_push g past e = filter-append (λ e. is_in_part g e) past (e ∷ [])

part_with : (g : ℕ) (past : List Event) (e : Event) → is_in_part g e ≡ true → part_of g (past ++ e ∷ []) ≡ part_of g past ++ e ∷ []
part_with g past e is = part_push g past e ∙ ap (λ b. part_of g past ++ cond b (e ∷ []) []) is

part_without : (g : ℕ) (past : List Event) (e : Event) → is_in_part g e ≡ false → part_of g (past ++ e ∷ []) ≡ part_of g past
part_without g past e is = part_push g past e ∙ ap (λ b. part_of g past ++ cond b (e ∷ []) []) is ∙ append-nil (part_of g past)

-- what stands in a list with one element more stands in the list, or is that element
pub pushed_at : {X : Type 0} (xs : List X) (x : X) (k : ℕ) (y : X) → slice_get (xs ++ x ∷ []) k ≡ Some y → k ≢ length xs → slice_get xs k ≡ Some y
pushed_at [] x zero y is other = absurd (other refl)
pushed_at [] x (suc k) y is other = absurd (none-some y is)
pushed_at (z ∷ xs) x zero y is other = is
pushed_at (z ∷ xs) x (suc k) y is other = pushed_at xs x k y is (λ same. other (ap suc same))

-- a log that has the part with one event more has the part
fewer : (g : ℕ) (log : List Step) (past : List Event) (e : Event) → is_in_part g e ≡ true → HasPart g log (past ++ e ∷ []) → HasPart g log past
fewer g log past e is has =
    let more = part_with g past e is in
    let len = ap length more ∙ length-append (part_of g past) (e ∷ []) in
    let enough = has.enough in
    record {
      enough = omega (arith, len, enough);
      each = λ k s d step at. has.each k s d step (ap (λ es. slice_get es k) more ∙ append_at_old (part_of g past) (e ∷ []) k d at);
    }

-- one step more fits
pub passes_one : (g : ℕ) (log : List Step) (past : List Event) (e : Event) (n : ℕ) (s : Step) → is_in_part g e ≡ true → IsPassed g log past (Some n)
    → slice_get log n ≡ Some s → Fits g s e → IsPassed g log (past ++ e ∷ []) (Some (n + 1))
passes_one g log past e n s is passed at fits =
    let more = part_with g past e is in
    let len = ap length more ∙ length-append (part_of g past) (e ∷ []) in
    let count = passed.0 in
    let within = slice_get_within log n s at in (
      omega (arith, len, count),
      record {
        enough = omega (arith, len, count, within);
        each = λ k t d step there.
            by k t d step (sym (ap (λ es. slice_get es k) more) ∙ there) (k == n) refl;
      },
    )
  where
    by : (k : ℕ) (t : Step) (d : Event) → slice_get log k ≡ Some t → slice_get (part_of g past ++ e ∷ []) k ≡ Some d → (b : Bool) → (k == n) ≡ b → Fits g t d
    by k t d step there true test =
        let same : k ≡ n = grind (arith, nat_tests) in
        let own = some_is (sym at ∙ ap (slice_get log) (sym same) ∙ step) in
        let last : slice_get (part_of g past ++ e ∷ []) k ≡ Some e =
        ap (slice_get (part_of g past ++ e ∷ [])) (same ∙ passed.0) ∙ slice_get-push (part_of g past) e in
        let event = some_is (sym last ∙ there) in
        subst (λ t. Fits g t d) own (subst (Fits g s) event fits)
    by k t d step there false test =
        let other : k ≢ n = λ same. true≢false (sym (ap (λ m. m == n) same ∙ eq-refl n) ∙ test) in
        passed.1.each k t d step (pushed_at (part_of g past) e k d there (λ same. other (same ∙ sym passed.0)))
      where
        eq-refl : (n : ℕ) → (n == n) ≡ true
        eq-refl n = grind (arith, nat_tests)

-- there is no step for the event
pub passes_no_step : (g : ℕ) (log : List Step) (past : List Event) (e : Event) (n : ℕ) → is_in_part g e ≡ true → IsPassed g log past (Some n)
    → length log ≤ n → IsPassed g log (past ++ e ∷ []) None
passes_no_step g log past e n is passed all has =
    let len = ap length (part_with g past e is) ∙ length-append (part_of g past) (e ∷ []) in
    let enough = has.enough in
    let count = passed.0 in
    absurd (omega (arith, len, enough, count, all))

-- its step doesn't fit it
pub passes_no_fit : (g : ℕ) (log : List Step) (past : List Event) (e : Event) (n : ℕ) (s : Step) → is_in_part g e ≡ true → IsPassed g log past (Some n)
    → slice_get log n ≡ Some s → (Fits g s e → ⊥) → IsPassed g log (past ++ e ∷ []) None
passes_no_fit g log past e n s is passed at not has =
    not (has.each n s e at (ap (λ es. slice_get es n) (part_with g past e is) ∙ ap (slice_get (part_of g past ++ e ∷ [])) passed.0
    ∙ slice_get-push (part_of g past) e))

-- a log that hadn't the part hasn't it with one event more
pub passes_never : (g : ℕ) (log : List Step) (past : List Event) (e : Event) → is_in_part g e ≡ true → IsPassed g log past None
    → IsPassed g log (past ++ e ∷ []) None
passes_never g log past e is passed has = passed (fewer g log past e is has)

-- an event of others changes nothing
pub passes_others : (g : ℕ) (past : List Event) (e : Event) (t : TrackState) → is_in_part g e ≡ false → IsTracked g past t → IsTracked g (past ++ e ∷ []) t
passes_others g past e t is tracked = by t.passed tracked
  where
    same : part_of g (past ++ e ∷ []) ≡ part_of g past
    same = part_without g past e is

    has_same : HasPart g t.log (past ++ e ∷ []) → HasPart g t.log past
    has_same has = record {
      enough = subst (λ es. length es ≤ length t.log) same has.enough;
      each = λ k s d step at. has.each k s d step (ap (λ es. slice_get es k) same ∙ at);
    }

    by : (n : Option ℕ) → IsPassed g t.log past n → IsPassed g t.log (past ++ e ∷ []) n
    by None not = λ has. not (has_same has)
    by (Some n) (count, has) = (
      count ∙ sym (ap length same),
      record {
        enough = subst (λ es. length es ≤ length t.log) (sym same) has.enough;
        each = λ k s d step at. has.each k s d step (sym (ap (λ es. slice_get es k) same) ∙ at);
      },
    )

-- The way along more events.

pub passed_none : (tracks : List TrackState) → HavePassed [] tracks tracks
passed_none tracks = record {
  count = refl;
  each = λ g t at. (t, at, refl, λ past tracked. subst (λ es. IsTracked g es t) (sym (append-nil past)) tracked);
}

pub passed_more : (a b c : List TrackState) (xs ys : List Event) → HavePassed xs a b → HavePassed ys b c → HavePassed (xs ++ ys) a c
passed_more a b c xs ys first second = record {
  count = second.count ∙ first.count;
  each = λ g t at.
      let (u, there, log, on) = first.each g t at in
      let (v, beyond, same, further) = second.each g u there in
      (v, beyond, same ∙ log, λ past tracked. subst (λ es. IsTracked g es v) (joins past) (further (past ++ xs) (on past tracked)));
}
  where
    joins : (past : List Event) → (past ++ xs) ++ ys ≡ past ++ (xs ++ ys)
    joins past = simp append_assoc

-- A log is its goroutine's part where all of it is passed.

pub is_part_of : (g : ℕ) (log : List Step) (events : List Event) (n : ℕ) → IsPassed g log events (Some n) → n ≡ length log → IsPart g log events
is_part_of g log events n passed all = record { as_many = sym all ∙ passed.0; each = passed.1.each }

pub is_no_part : (g : ℕ) (log : List Step) (events : List Event) (n : ℕ) → IsPassed g log events (Some n) → (n ≡ length log → ⊥) → IsPart g log events → ⊥
is_no_part g log events n passed other part = other (passed.0 ∙ sym part.as_many)

pub has_no_part : (g : ℕ) (log : List Step) (events : List Event) → IsPassed g log events None → IsPart g log events → ⊥
has_no_part g log events passed part =
    let many = part.as_many in
    passed (record { enough = omega (arith, many); each = part.each })

-- All of a log is passed, or not.

pub through_is_part : (g : ℕ) (t : TrackState) (events : List Event) → is_through t ≡ true → IsTracked g events t → IsPart g t.log events
through_is_part g t events all tracked = by t.passed all tracked
  where
    by : (n : Option ℕ) → elim n [ Some n ↦ n == length t.log | None ↦ false ] ≡ true → IsPassed g t.log events n → IsPart g t.log events
    by None all passed = absurd cc
    by (Some n) all passed = let same : n ≡ length t.log = grind (arith, nat_tests) in is_part_of g t.log events n passed same

pub other_is_no_part : (g : ℕ) (t : TrackState) (events : List Event) → is_through t ≡ false → IsTracked g events t → IsPart g t.log events → ⊥
other_is_no_part g t events not tracked = by t.passed not tracked
  where
    by : (n : Option ℕ) → elim n [ Some n ↦ n == length t.log | None ↦ false ] ≡ false → IsPassed g t.log events n → IsPart g t.log events → ⊥
    by None not passed = has_no_part g t.log events passed
    by (Some n) not passed = is_no_part g t.log events n passed (λ same. true≢false (sym (eq-eqb n (length t.log) same) ∙ not))

-- One goroutine passes an event.

pub one_passes : (h : ℕ) (e : Event) (old : List TrackState) (t u : TrackState) → slice_get old h ≡ Some t → u.log ≡ t.log
    → ((past : List Event) → IsTracked h past t → IsTracked h (past ++ e ∷ []) u) → OneHasPassed (Some h) e old (slice_set old h u)
one_passes h e old t u at log tracked = record { count = length-set old h u; each = λ g s here. by g s here (h == g) refl }
  where
    by : (g : ℕ) (s : TrackState) → slice_get old g ≡ Some s → (b : Bool) → (h == g) ≡ b
        → (v : TrackState) × (slice_get (slice_set old h u) g ≡ Some v) × (v.log ≡ s.log)
        × ((h == g) ≡ true → (past : List Event) → IsTracked g past s → IsTracked g (past ++ e ∷ []) v) × ((h == g) ≡ false → v ≡ s)
    by g s here true test =
        let same : h ≡ g = grind (arith, nat_tests) in
        let own : t ≡ s = some_is (sym at ∙ ap (slice_get old) same ∙ here) in (
          u,
          ap (slice_get (slice_set old h u)) (sym same) ∙ get_set old h u (slice_get_within old h t at),
          log ∙ ap (λ (t : TrackState). t.log) own,
          λ _ past before. subst (λ n. IsTracked n (past ++ e ∷ []) u) same
              (tracked past (subst (λ n. IsTracked n past t) (sym same) (subst (IsTracked g past) (sym own) before))),
          λ not. absurd (true≢false (sym test ∙ not)),
        )
    by g s here false test = (
      s,
      set_other old h g u (λ same. true≢false (sym (eq-eqb h g same) ∙ test)) ∙ here,
      refl,
      λ is. absurd (true≢false (sym is ∙ test)),
      λ _. refl,
    )

pub nobody_passes : (who : Option ℕ) (e : Event) (old : List TrackState)
    → ((g : ℕ) (t : TrackState) → slice_get old g ≡ Some t → gives who g ≡ false) → OneHasPassed who e old old
nobody_passes who e old none = record {
  count = refl;
  each = λ g t at. (t, at, refl, λ is. absurd (true≢false (sym is ∙ none g t at)), λ _. refl);
}

-- All that take part pass it: who asked, and who receives.

gives_one : (h g : ℕ) → gives (Some h) g ≡ (h == g)
gives_one h g = refl

in_part_by : (g : ℕ) (e : Event) → is_in_part g e ≡ (gives (asker_of e) g || gives (receiver_of e) g)
in_part_by g e = by e.op
  where
    plain : (b : Bool) → ((b || false) && true) ≡ (b || false)
    plain true = refl
    plain false = refl

    go : (k : ℕ) (own : Bool) → (k == e.who) ≡ own → (((e.who == g) || (k == g)) && not (k == g)) ≡ (gives (if own then None else Some e.who) g || false)
    go k true test =
        let same : k ≡ e.who = grind (arith, nat_tests) in
        ap (λ n. ((e.who == g) || (n == g)) && not (n == g)) same ∙ again (e.who == g)
      where
        again : (b : Bool) → ((b || b) && not b) ≡ false
        again true = refl
        again false = refl
    go k false test = other (e.who == g) (k == g) refl refl
      where
        other : (a b : Bool) → (e.who == g) ≡ a → (k == g) ≡ b → ((a || b) && not b) ≡ (a || false)
        other true true p q =
            let same : k ≡ e.who = grind (arith, nat_tests) in
            absurd (true≢false (sym (eq-eqb k e.who same) ∙ test))
        other true false p q = refl
        other false true p q = refl
        other false false p q = refl

    meet : (r : ℕ) (own : Bool) → (r == e.who) ≡ own → (((e.who == g) || (r == g)) && true) ≡ ((e.who == g) || gives (if own then None else Some r) g)
    meet r true test =
        let same : r ≡ e.who = grind (arith, nat_tests) in
        ap (λ n. ((e.who == g) || (n == g)) && true) same ∙ again (e.who == g)
      where
        again : (b : Bool) → ((b || b) && true) ≡ (b || false)
        again true = refl
        again false = refl
    meet r false test = all (e.who == g) (r == g)
      where
        all : (a b : Bool) → ((a || b) && true) ≡ (a || b)
        all true b = refl
        all false true = refl
        all false false = refl

    by : (op : Op) → (((e.who == g) || gives (partner op) g) && not (starts g op))
        ≡ (gives (if starts e.who op then None else Some e.who) g || gives (elim op [ Meet r c v ↦ if r == e.who then None else Some r | _ ↦ None ]) g)
    by (Go k) = go k (k == e.who) refl
    by (Meet r c v) = meet r (r == e.who) refl
    by _ = plain (e.who == g)

-- the one who asked isn't the one who receives
not_both_ways : (g : ℕ) (e : Event) → gives (receiver_of e) g ≡ true → gives (asker_of e) g ≡ false
not_both_ways g e = by e.op
  where
    meet : (r : ℕ) (own : Bool) → (r == e.who) ≡ own → gives (if own then None else Some r) g ≡ true → (e.who == g) ≡ false
    meet r true test is = absurd cc
    meet r false test is = other (e.who == g) refl
      where
        other : (a : Bool) → (e.who == g) ≡ a → a ≡ false
        other true p =
            let same : r ≡ e.who = grind (arith, nat_tests) in
            absurd (true≢false (sym (eq-eqb r e.who same) ∙ test))
        other false p = refl

    by : (op : Op) → gives (elim op [ Meet r c v ↦ if r == e.who then None else Some r | _ ↦ None ]) g ≡ true
        → gives (if starts e.who op then None else Some e.who) g ≡ false
    by (Meet r c v) is = meet r (r == e.who) refl is
    by _ is = absurd cc

pub all_pass : (e : Event) (old mid new : List TrackState) → OneHasPassed (asker_of e) e old mid → OneHasPassed (receiver_of e) e mid new
    → HavePassed (e ∷ []) old new
all_pass e old mid new first second = record {
  count = second.count ∙ first.count;
  each = λ g t at.
      let (u, there, log, on, stays) = first.each g t at in
      let (v, beyond, same, further, rests) = second.each g u there in
      (v, beyond, same ∙ log, λ past tracked. by g t u v past on stays further rests tracked (gives (asker_of e) g) (gives (receiver_of e) g) refl refl);
}
  where
    by : (g : ℕ) (t u v : TrackState) (past : List Event)
        → (gives (asker_of e) g ≡ true → (past : List Event) → IsTracked g past t → IsTracked g (past ++ e ∷ []) u) → (gives (asker_of e) g ≡ false → u ≡ t)
        → (gives (receiver_of e) g ≡ true → (past : List Event) → IsTracked g past u → IsTracked g (past ++ e ∷ []) v)
        → (gives (receiver_of e) g ≡ false → v ≡ u)
        → IsTracked g past t → (a b : Bool) → gives (asker_of e) g ≡ a → gives (receiver_of e) g ≡ b → IsTracked g (past ++ e ∷ []) v
    by g t u v past on stays further rests tracked true true p q = absurd (true≢false (sym p ∙ not_both_ways g e q))
    by g t u v past on stays further rests tracked true false p q = subst (IsTracked g (past ++ e ∷ [])) (sym (rests q)) (on p past tracked)
    by g t u v past on stays further rests tracked false true p q = further q past (subst (IsTracked g past) (sym (stays p)) tracked)
    by g t u v past on stays further rests tracked false false p q =
        subst (IsTracked g (past ++ e ∷ [])) (sym (stays p) ∙ sym (rests q))
        (passes_others g past e t (in_part_by g e ∙ (λ i. p i || q i)) tracked)
