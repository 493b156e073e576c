-- The touches of one variable are lawful, and their reported race is that of the events.
use Rattle.std.proofs.Common.{◌≡◌, ◌⊎◌, ◌↔◌, ℕ, ◌+◌, ◌<◌, ◌==◌, ◌||◌, Bool, true, false, List, [], ◌∷◌, ◌++◌, length}
use Rattle.std.proofs.Common.{take, Option, Some, None, slice_get, refl, sym, ap, ◌∙◌, subst, inl, inr, arith, IsTrue}
use Rattle.std.proofs.{Common.{length-append, eq-eqb, eqb-true}, lemmas.Bool.cases_lt}
use Rattle.std.proofs.lemmas.List.{take-append-le, take_all}
use Rattle.std.proofs.lemmas.List.Elements.{Contains-append_left, Contains-push, Contains-push_cases}
use Rattle.std.{proofs.lemmas.Option.{slice_get_within, get_or_from_slice_get}, specs.List.Contains}
use Rattle.race_records.specs.declared.event.{Event.Event, Op.{Op, TheVariants.{Read, Write}}}
use Rattle.race_model.specs.{Events.{At, accesses, writes}, Order.HappensBefore, Race.{IsAccessOf, IsWriteOf, Conflict}}
use Rattle.race_model.{specs.{Race.{RaceBy, IsReportedBy}, Clocks.participations}, proofs.Indexes.at_same}
use Rattle.race_model.proofs.Indexes.{append_at_old, slice_get-push, slice_get-append}
use Rattle.race_clock.specs.{declared.stamp.Stamp.Stamp, Stamps.{stamp_with, stamp_of}, StandsFor.CountsReaching}
use Rattle.race_clock.{specs.Laws.{IsStampIn, StampsAreLawful}, proofs.StampLaws.{Says, says, known_is_happens_before}}
use Rattle.race_clock.proofs.StampLaws.{stamps_are_lawful}
use Rattle.race_access.specs.Touches.{Touch, IsKnownTo, IsLawful, IsAt, Conflicting, Known, IsReported}
use Rattle.race_access.specs.StampsOf.{AreStampsOf, IsReportedOn}

-- what the stamp of an operation says of its variable
pub accessed : (at who count : ℕ) (o : Op) (stamp : Stamp) → stamp_with at who count o ≡ Some stamp
    → IsTrue (accesses stamp.var o) × (writes stamp.var o ≡ stamp.write)
accessed at who count (Read y v) stamp is =
    let same : record { at = at; who = who; count = count; var = y; write = false } ≡ stamp = cc in
    let var : y ≡ stamp.var = ap (λ (s : Stamp). s.var) same in
    (rw (eq-eqb y stamp.var var) refl, ap (λ (s : Stamp). s.write) same)
accessed at who count (Write y v) stamp is =
    let same : record { at = at; who = who; count = count; var = y; write = true } ≡ stamp = cc in
    let var : y ≡ stamp.var = ap (λ (s : Stamp). s.var) same in
    (rw (eq-eqb y stamp.var var) refl, eq-eqb y stamp.var var ∙ ap (λ (s : Stamp). s.write) same)
accessed at who count _ stamp is = cc

-- an operation with a stamp accesses its variable alone
pub accesses_one : (at who count : ℕ) (o : Op) (stamp : Stamp) → stamp_with at who count o ≡ Some stamp → (x : ℕ) → IsTrue (accesses x o) → stamp.var ≡ x
accesses_one at who count (Read y v) stamp is x access =
    let same : record { at = at; who = who; count = count; var = y; write = false } ≡ stamp = cc in
    sym (ap (λ (s : Stamp). s.var) same) ∙ eqb-true y x (either (y == x) access)
  where
    either : (b : Bool) → (b || false) ≡ true → b ≡ true
    either true is = refl
    either false is = is
accesses_one at who count (Write y v) stamp is x access =
    let same : record { at = at; who = who; count = count; var = y; write = true } ≡ stamp = cc in
    sym (ap (λ (s : Stamp). s.var) same) ∙ eqb-true y x access
accesses_one at who count _ stamp is x access = cc

-- and one without a stamp none
pub accesses_none : (at who count : ℕ) (o : Op) → stamp_with at who count o ≡ None → (x : ℕ) → ¬ IsTrue (accesses x o)
accesses_none at who count (Read y v) none x access = cc
accesses_none at who count (Write y v) none x access = cc
accesses_none at who count _ none x access = cc

-- an event behind the list changes no stamp
stamp_stays : (caps : ℕ → ℕ) (past : List Event) (e : Event) (stamp : Stamp) (clock : List ℕ)
    → IsStampIn caps past stamp clock → IsStampIn caps (past ++ e ∷ []) stamp clock
stamp_stays caps past e stamp clock is = record {
  event = is.event;
  stands = append_at_old past (e ∷ []) stamp.at is.event is.stands;
  is = subst (λ front. stamp_of front is.event ≡ Some stamp) same is.is;
  reaching = subst (λ front. CountsReaching caps front is.event stamp.who clock) same is.reaching;
}
  where
    within : stamp.at < length past
    within = slice_get_within past stamp.at is.event is.stands

    same : take stamp.at past ≡ take stamp.at (past ++ e ∷ [])
    same = sym (take-append-le stamp.at past (e ∷ []) (omega (arith, within)))

-- the stamp of the event that comes next, with a clock that counts what reaches it
stamp_comes : (caps : ℕ → ℕ) (past : List Event) (e : Event) (stamp : Stamp) (clock : List ℕ)
    → stamp_of past e ≡ Some stamp → CountsReaching caps past e e.who clock
    → IsStampIn caps (past ++ e ∷ []) stamp clock
stamp_comes caps past e stamp clock is reaching = record {
  event = e;
  stands = ap (slice_get (past ++ e ∷ [])) said.index ∙ slice_get-push past e;
  is = subst (λ front. stamp_of front e ≡ Some stamp) front is;
  reaching = subst (λ g. CountsReaching caps (take stamp.at (past ++ e ∷ [])) e g clock) (sym said.actor)
      (subst (λ front. CountsReaching caps front e e.who clock) front reaching);
}
  where
    said : Says (length past) e.who (participations e.who past + 1) e.op stamp
    said = says (length past) e.who (participations e.who past + 1) e.op stamp is

    front : past ≡ take stamp.at (past ++ e ∷ [])
    front = sym (ap (λ n. take n (past ++ e ∷ [])) said.index
        ∙ take-append-le (length past) past (e ∷ []) (omega arith) ∙ take_all (length past) past (omega arith))

-- what stands at an index is an element
contains_at : {X : Type 0} (xs : List X) (k : ℕ) (x : X) → slice_get xs k ≡ Some x → Contains xs x
contains_at xs k x at = (k, slice_get_within xs k x at, get_or_from_slice_get xs k x x at)

-- a pair is the reported one of conflicts and an order that say the same of it
module _ (C D R S : ℕ → ℕ → Type 0) (same : (i j : ℕ) → C i j ↔ D i j) (turned : (i j : ℕ) → C i j → C j i) (alike : (i j : ℕ) → C i j → R i j ↔ S i j) where
  race_same : (i j : ℕ) → RaceBy C R i j → RaceBy D S i j
  race_same i j race = record {
    conflict = (same i j).0 race.conflict;
    not_before = λ s. race.not_before ((alike i j race.conflict).1 s);
    not_after = λ s. race.not_after ((alike j i (turned i j race.conflict)).1 s);
  }

  race_back : (i j : ℕ) → RaceBy D S i j → RaceBy C R i j
  race_back i j race =
      let conflict : C i j = (same i j).1 race.conflict in
      record {
        conflict = conflict;
        not_before = λ r. race.not_before ((alike i j conflict).0 r);
        not_after = λ r. race.not_after ((alike j i (turned i j conflict)).0 r);
      }

  pub free_same : ((i j : ℕ) → ¬ RaceBy C R i j) → (i j : ℕ) → ¬ RaceBy D S i j
  free_same free i j race = free i j (race_back i j race)

  pub reported_same : (i j : ℕ) → IsReportedBy C R i j → IsReportedBy D S i j
  reported_same i j reported = record {
    race = race_same i j reported.race;
    in_order = reported.in_order;
    least = λ k m less race. reported.least k m less (race_back k m race);
    greatest = λ k less race. reported.greatest k less (race_back k j race);
  }

module _ (caps : ℕ → ℕ) (events : List Event) (x : ℕ) (touched : List Touch) (stamps : AreStampsOf caps events x touched) where
  -- the stamp of a touch
  stamp_in : (a : Touch) → Contains touched a → IsStampIn caps events a.stamp a.clock
  stamp_in a ina = (stamps.each a ina).0

  -- what a stamp's event is
  event_of : (a : Touch) → Contains touched a → (e : Event) → At events a.stamp.at e → IsTrue (accesses x e.op) × (writes x e.op ≡ a.stamp.write)
  event_of a ina e at =
      subst (λ y. IsTrue (accesses y e.op) × (writes y e.op ≡ a.stamp.write)) (stamps.each a ina).1
      (subst (λ (e : Event). IsTrue (accesses a.stamp.var e.op) × (writes a.stamp.var e.op ≡ a.stamp.write)) (at_same events a.stamp.at s.event e s.stands at)
      (accessed (length (take a.stamp.at events)) s.event.who (participations s.event.who (take a.stamp.at events) + 1) s.event.op a.stamp s.is))
    where
      s : IsStampIn caps events a.stamp a.clock
      s = stamp_in a ina

  -- an access happens before another exactly where it is known to it
  ordered : (a b : Touch) → Contains touched a → Contains touched b → IsKnownTo a b ↔ HappensBefore caps events a.stamp.at b.stamp.at
  ordered a b ina inb = known_is_happens_before events caps a.stamp b.stamp a.clock b.clock (stamp_in a ina) (stamp_in b inb)

  is_access : (a : Touch) → Contains touched a → IsAccessOf events x a.stamp.at
  is_access a ina = let s = stamp_in a ina in (s.event, s.stands, (event_of a ina s.event s.stands).0)

  -- a Write of the list is one of the touches, and the other way round
  is_write : (a : Touch) → Contains touched a → IsTrue a.stamp.write → IsWriteOf events x a.stamp.at
  is_write a ina write = let s = stamp_in a ina in (s.event, s.stands, (event_of a ina s.event s.stands).1 ∙ write)

  was_write : (a : Touch) → Contains touched a → IsWriteOf events x a.stamp.at → IsTrue a.stamp.write
  was_write a ina (e, at, writes) = sym (event_of a ina e at).1 ∙ writes

  -- the conflicts are the same
  conflicts : (i j : ℕ) → Conflicting touched i j ↔ Conflict events x i j
  conflicts i j = (there, back)
    where
      there : Conflicting touched i j → Conflict events x i j
      there (differ, (a, b, (ina, ati), (inb, atj), write)) = (
        differ,
        subst (IsAccessOf events x) ati (is_access a ina),
        subst (IsAccessOf events x) atj (is_access b inb),
        elim write [ inl w ↦ inl (subst (IsWriteOf events x) ati (is_write a ina w)) | inr w ↦ inr (subst (IsWriteOf events x) atj (is_write b inb w)) ],
      )

      back : Conflict events x i j → Conflicting touched i j
      back (differ, accessi, accessj, write) =
          let (a, (ina, ati)) = stamps.every i accessi in
          let (b, (inb, atj)) = stamps.every j accessj in (
            differ,
            (
              a,
              b,
              (ina, ati),
              (inb, atj),
              elim write [
                | inl w ↦ inl (was_write a ina (subst (IsWriteOf events x) (sym ati) w))
                | inr w ↦ inr (was_write b inb (subst (IsWriteOf events x) (sym atj) w))
              ],
            ),
          )

  turned : (i j : ℕ) → Conflicting touched i j → Conflicting touched j i
  turned i j (differ, (a, b, ati, atj, write)) = (λ same. differ (sym same), (b, a, atj, ati, elim write [ inl w ↦ inr w | inr w ↦ inl w ]))

  -- and so is the order of what conflicts
  orders : (i j : ℕ) → Conflicting touched i j → Known touched i j ↔ HappensBefore caps events i j
  orders i j (differ, (a, b, ati, atj, write)) = (there, back)
    where
      there : Known touched i j → HappensBefore caps events i j
      there (c, d, (inc, atc), (ind, atd), known) =
          subst (HappensBefore caps events i) atd (subst (λ i. HappensBefore caps events i d.stamp.at) atc ((ordered c d inc ind).0 known))

      back : HappensBefore caps events i j → Known touched i j
      back before =
          let here : HappensBefore caps events a.stamp.at b.stamp.at =
          subst (HappensBefore caps events a.stamp.at) (sym atj.1) (subst (λ i. HappensBefore caps events i j) (sym ati.1) before) in
          (a, b, ati, atj, (ordered a b ati.0 atj.0).1 here)

  -- the reported race of the touches is that of the events
  pub reported_on : (p : Option (ℕ × ℕ)) → IsReported touched p → IsReportedOn caps events x p
  reported_on None free = free_same (Conflicting touched) (Conflict events x) (Known touched) (HappensBefore caps events) conflicts turned orders free
  reported_on (Some (i, j)) reported = reported_same (Conflicting touched) (Conflict events x)
      (Known touched) (HappensBefore caps events) conflicts turned orders i j reported

  -- the touches are lawful
  pub touches_lawful : IsLawful touched
  touches_lawful = record {
    rising = stamps.rising;
    own = λ a b ina inb less same. lawful.own caps a.stamp b.stamp a.clock b.clock (stamp_in a ina) (stamp_in b inb) same less;
    onward = λ a b ina inb less known. lawful.onward caps a.stamp b.stamp a.clock b.clock (stamp_in a ina) (stamp_in b inb) less known;
    transitive = λ a b c ina inb inc first second.
        lawful.transitive caps a.stamp b.stamp c.stamp a.clock b.clock c.clock (stamp_in a ina) (stamp_in b inb) (stamp_in c inc) first second;
  }
    where
      lawful : StampsAreLawful events
      lawful = stamps_are_lawful events

module _ (caps : ℕ → ℕ) (past : List Event) (e : Event) (x : ℕ) (touched : List Touch) (stamps : AreStampsOf caps past x touched) where
  -- an old access stands in the list
  within : (a : Touch) → Contains touched a → a.stamp.at < length past
  within a ina = let s = (stamps.each a ina).0 in slice_get_within past a.stamp.at s.event s.stands

  old_each : (a : Touch) → Contains touched a → IsStampIn caps (past ++ e ∷ []) a.stamp a.clock × (a.stamp.var ≡ x)
  old_each a ina = let s = stamps.each a ina in (stamp_stays caps past e a.stamp a.clock s.0, s.1)

  old_place : (a : Touch) → Contains touched a → (s : Event) → At (past ++ e ∷ []) a.stamp.at s → s.place ≡ a.place
  old_place a ina s at = stamps.places a ina s (sym (slice_get-append past (e ∷ []) a.stamp.at (within a ina)) ∙ at)

  -- an access of the longer list is an old one or the next event
  access_cases : (i : ℕ) → IsAccessOf (past ++ e ∷ []) x i → IsAccessOf past x i ⊎ ((i ≡ length past) × IsTrue (accesses x e.op))
  access_cases i (s, at, access) = elim (cases_lt i (length past)) [
    | inl less ↦ inl (s, sym (slice_get-append past (e ∷ []) i less) ∙ at, access)
    | inr more ↦
        let short : i < length (past ++ e ∷ []) = slice_get_within (past ++ e ∷ []) i s at in
        let here : i ≡ length past = omega (arith, more, short, length-append past (e ∷ [])) in
        let same : s ≡ e = at_same (past ++ e ∷ []) (length past) s e (ap (slice_get (past ++ e ∷ [])) (sym here) ∙ at) (slice_get-push past e) in
        inr (here, subst (λ (s : Event). IsTrue (accesses x s.op)) same access)
  ]

  -- an event that is no access of x changes nothing
  pub stamps_other : ¬ IsTrue (accesses x e.op) → AreStampsOf caps (past ++ e ∷ []) x touched
  stamps_other other = record {
    rising = stamps.rising;
    each = old_each;
    places = old_place;
    every = λ i access. elim (access_cases i access) [ inl old ↦ stamps.every i old | inr new ↦ absurd (other new.1) ];
  }

  -- an access of x brings its touch
  pub stamps_next : (t : Touch) → stamp_of past e ≡ Some t.stamp → t.stamp.var ≡ x → e.place ≡ t.place → CountsReaching caps past e e.who t.clock
      → AreStampsOf caps (past ++ e ∷ []) x (touched ++ t ∷ [])
  stamps_next t is var place reaching = record {
    rising = rising;
    each = λ a ina. elim (Contains-push_cases touched t a ina) [
      | inl old ↦ old_each a old
      | inr new ↦ subst (λ (a : Touch). IsStampIn caps (past ++ e ∷ []) a.stamp a.clock × (a.stamp.var ≡ x)) new
          (stamp_comes caps past e t.stamp t.clock is reaching, var)
    ];
    places = λ a ina s ats. elim (Contains-push_cases touched t a ina) [
      | inl old ↦ old_place a old s ats
      | inr new ↦
          let here : slice_get (past ++ e ∷ []) (length past) ≡ Some s =
          ap (slice_get (past ++ e ∷ [])) (sym at ∙ ap (λ (t : Touch). t.stamp.at) new) ∙ ats in
          ap (λ (s : Event). s.place) (at_same (past ++ e ∷ []) (length past) s e here (slice_get-push past e)) ∙ place ∙ ap (λ (t : Touch). t.place) new
    ];
    every = λ i acc. elim (access_cases i acc) [
      | inl old ↦ let s = stamps.every i old in (s.0, (Contains-append_left touched (t ∷ []) s.0 s.1.0, s.1.1))
      | inr new ↦ (t, (Contains-push touched t, at ∙ sym new.0))
    ];
  }
    where
      at : t.stamp.at ≡ length past
      at = (says (length past) e.who (participations e.who past + 1) e.op t.stamp is).index

      rising : (k m : ℕ) (a b : Touch) → k < m → slice_get (touched ++ t ∷ []) k ≡ Some a → slice_get (touched ++ t ∷ []) m ≡ Some b → a.stamp.at < b.stamp.at
      rising k m a b less atk atm = elim (cases_lt m (length touched)) [
        | inl early ↦
            stamps.rising k m a b less (sym (slice_get-append touched (t ∷ []) k (omega (arith, less, early))) ∙ atk)
            (sym (slice_get-append touched (t ∷ []) m early) ∙ atm)
        | inr late ↦
            let short : m < length (touched ++ t ∷ []) = slice_get_within (touched ++ t ∷ []) m b atm in
            let last : m ≡ length touched = omega (arith, late, short, length-append touched (t ∷ [])) in
            let same : b ≡ t = at_same (touched ++ t ∷ []) (length touched) b t
            (ap (slice_get (touched ++ t ∷ [])) (sym last) ∙ atm) (slice_get-push touched t) in
            let front : k < length touched = omega (arith, less, last) in
            let old : slice_get touched k ≡ Some a = sym (slice_get-append touched (t ∷ []) k front) ∙ atk in
            let below : a.stamp.at < length past = within a (contains_at touched k a old) in
            let number : b.stamp.at ≡ t.stamp.at = ap (λ (b : Touch). b.stamp.at) same in
            omega (arith, below, number, at)
      ]
