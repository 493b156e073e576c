-- What two stamps with their clocks say of a race.
use Rattle.std.proofs.Common.{◌≡◌, ◌↔◌, ℕ, ◌+◌, ◌<◌, ◌==◌, ◌&&◌, ◌||◌, not, nat_lt, Bool, true, false, List, take}
use Rattle.std.proofs.Common.{length, refl, sym, ◌∙◌, subst, inl, inr, arith, IsTrue, eqb-true, eq-eqb}
use Rattle.std.proofs.lemmas.Bool.{or_cases, or_left, or_right, le-leb, leb-true, ltb-true, lt-ltb}
use Rattle.race_records.specs.declared.event.Event.{Event}
use Rattle.race_model.specs.{Events.{is_access, accesses, writes}, Order.HappensBefore}
use Rattle.race_model.specs.{Race.{IsAccessOf, IsWriteOf, IsRace}, Reorder.IsAccess, Clocks.participations}
use Rattle.race_model.{specs.Legal.IsLegal, proofs.{Indexes.at_same, Ranks.happens_before_up}}
use Rattle.race_model.proofs.ReorderLemmas.{passes_from}
use Rattle.race_verdict.specs.declared.races.Race.{Race}
use Rattle.race_clock.specs.{declared.stamp.Stamp.Stamp, Laws.IsStampIn}
use Rattle.race_clock.proofs.StampLaws.{says, known_is_happens_before}
use Rattle.race_access.proofs.StampSteps.{accessed, accesses_one}
use Rattle.race_shards.specs.{Witness.{IsBeforeEither, RacesInOrder}, Pairs.{SeenState, PairState, is_known, is_early}}
use Rattle.race_shards.specs.Pairs.{races_on, IsTouchAt, IsPairIn, IsPairOf}

-- five tests that pass together, the last of which is to fail
record AllPass (p q r w k : Bool) : Type 0 where
  one : p ≡ true
  two : q ≡ true
  three : r ≡ true
  four : w ≡ true
  five : k ≡ false

all_pass : (p q r w k : Bool) → (p && (q && (r && (w && not k)))) ≡ true → AllPass p q r w k
all_pass true true true true false is = record { one = refl; two = refl; three = refl; four = refl; five = refl }
all_pass true true true true true is = cc
all_pass true true true false k is = cc
all_pass true true false w k is = cc
all_pass true false r w k is = cc
all_pass false q r w k is = cc

pass_all : (p q r w k : Bool) → p ≡ true → q ≡ true → r ≡ true → w ≡ true → (k ≡ true → ⊥) → (p && (q && (r && (w && not k)))) ≡ true
pass_all true true true true false one two three four five = refl
pass_all true true true true true one two three four five = absurd (five refl)
pass_all true true true false k one two three four five = cc
pass_all true true false w k one two three four five = cc
pass_all true false r w k one two three four five = cc
pass_all false q r w k one two three four five = cc

module _ (caps : ℕ → ℕ) (events : List Event) where
  -- a stamp known to a clock is that of an access that happens before
  pub known : (t : Stamp) (c : List ℕ) → IsStampIn caps events t c → (h : SeenState) → IsStampIn caps events h.stamp h.clock
      → IsTrue (is_known t h.clock) ↔ HappensBefore caps events t.at h.stamp.at
  known t c T h H =
      let both = known_is_happens_before events caps t h.stamp c h.clock T H in
      ((λ is. both.0 (leb-true _ _ is)), (λ before. le-leb _ _ (both.1 before)))

  pub stamp_is_access : (t : Stamp) (c : List ℕ) → IsStampIn caps events t c → IsAccess events t.at
  stamp_is_access t c T = passes_from is_access events t.at T.event T.stands
      (says (length (take t.at events)) T.event.who (participations T.event.who (take t.at events) + 1) T.event.op t T.is).access

  module _ (h : SeenState) (H : IsStampIn caps events h.stamp h.clock) where
    of_op : IsTrue (accesses h.stamp.var H.event.op) × (writes h.stamp.var H.event.op ≡ h.stamp.write)
    of_op = accessed (length (take h.stamp.at events)) H.event.who (participations H.event.who (take h.stamp.at events) + 1) H.event.op h.stamp H.is

    access_of : IsAccessOf events h.stamp.var h.stamp.at
    access_of = (H.event, H.stands, of_op.0)

    write_of : h.stamp.write ≡ true → IsWriteOf events h.stamp.var h.stamp.at
    write_of is = (H.event, H.stands, of_op.1 ∙ is)

    var_of : (x : ℕ) → IsAccessOf events x h.stamp.at → h.stamp.var ≡ x
    var_of x (e, at, is) =
        accesses_one (length (take h.stamp.at events)) H.event.who (participations H.event.who (take h.stamp.at events) + 1) H.event.op h.stamp H.is x
        (subst (λ (e : Event). IsTrue (accesses x e.op)) (at_same events h.stamp.at e H.event at H.stands) is)

    was_write : IsWriteOf events h.stamp.var h.stamp.at → h.stamp.write ≡ true
    was_write (e, at, is) = sym of_op.1 ∙ subst (λ (e : Event). IsTrue (writes h.stamp.var e.op)) (at_same events h.stamp.at e H.event at H.stands) is

  module _ (x : ℕ) (p : PairState) (P : IsPairIn caps events p) where
    abbrev f : SeenState
    f = p.first

    abbrev g : SeenState
    g = p.second

    -- the test finds a race
    race_found : races_on x p ≡ true → IsRace caps events x f.stamp.at g.stamp.at × (f.stamp.at < g.stamp.at)
    race_found is = (
      record {
        conflict = (
          (λ same. absurd (omega (arith, less, same))),
          subst (λ y. IsAccessOf events y f.stamp.at) var_f (access_of f P.first),
          subst (λ y. IsAccessOf events y g.stamp.at) var_g (access_of g P.second),
          elim (or_cases f.stamp.write g.stamp.write pass.four) [
            | inl w ↦ inl (subst (λ y. IsWriteOf events y f.stamp.at) var_f (write_of f P.first w))
            | inr w ↦ inr (subst (λ y. IsWriteOf events y g.stamp.at) var_g (write_of g P.second w))
          ],
        );
        not_before = λ before. let yes : is_known f.stamp g.clock ≡ true = (known f.stamp f.clock P.first g P.second).1 before in let fails = pass.five in cc;
        not_after = λ after. let up : g.stamp.at < f.stamp.at = happens_before_up caps events g.stamp.at f.stamp.at after in absurd (omega (arith, less, up));
      },
      less,
    )
      where
        pass : AllPass (nat_lt f.stamp.at g.stamp.at) (f.stamp.var == x) (g.stamp.var == x) (f.stamp.write || g.stamp.write) (is_known f.stamp g.clock)
        pass = all_pass (nat_lt f.stamp.at g.stamp.at) (f.stamp.var == x) (g.stamp.var == x) (f.stamp.write || g.stamp.write) (is_known f.stamp g.clock) is

        less : f.stamp.at < g.stamp.at
        less = ltb-true _ _ pass.one

        var_f : f.stamp.var ≡ x
        var_f = eqb-true f.stamp.var x pass.two

        var_g : g.stamp.var ≡ x
        var_g = eqb-true g.stamp.var x pass.three

    -- and each race is found
    race_told : IsRace caps events x f.stamp.at g.stamp.at → f.stamp.at < g.stamp.at → races_on x p ≡ true
    race_told race less = pass_all (nat_lt f.stamp.at g.stamp.at) (f.stamp.var == x) (g.stamp.var == x) (f.stamp.write || g.stamp.write) (is_known f.stamp g.clock)
        (lt-ltb _ _ less) (eq-eqb f.stamp.var x var_f) (eq-eqb g.stamp.var x var_g)
        (elim race.conflict.3 [
          | inl w ↦ or_left f.stamp.write g.stamp.write (was_write f P.first (subst (λ y. IsWriteOf events y f.stamp.at) (sym var_f) w))
          | inr w ↦ or_right f.stamp.write g.stamp.write (was_write g P.second (subst (λ y. IsWriteOf events y g.stamp.at) (sym var_g) w))
        ])
        (λ yes. race.not_before ((known f.stamp f.clock P.first g P.second).0 yes))
      where
        var_f : f.stamp.var ≡ x
        var_f = var_of f P.first x race.conflict.1

        var_g : g.stamp.var ≡ x
        var_g = var_of g P.second x race.conflict.2

  module _ (p : PairState) (P : IsPairIn caps events p) where
    -- a stamp is known to either exactly where its access happens before either
    pub early_says : (t : Stamp) (c : List ℕ) → IsStampIn caps events t c → IsTrue (is_early p t) ↔ IsBeforeEither caps events p.first.stamp.at p.second.stamp.at t.at
    early_says t c T = (there, back)
      where
        there : IsTrue (is_early p t) → IsBeforeEither caps events p.first.stamp.at p.second.stamp.at t.at
        there is = elim (or_cases (is_known t p.first.clock) (is_known t p.second.clock) is) [
          | inl w ↦ inl ((known t c T p.first P.first).0 w)
          | inr w ↦ inr ((known t c T p.second P.second).0 w)
        ]

        back : IsBeforeEither caps events p.first.stamp.at p.second.stamp.at t.at → IsTrue (is_early p t)
        back (inl before) = or_left (is_known t p.first.clock) (is_known t p.second.clock) ((known t c T p.first P.first).1 before)
        back (inr before) = or_right (is_known t p.first.clock) (is_known t p.second.clock) ((known t c T p.second P.second).1 before)

  module _ (r : Race) where
    module _ (p : PairState) (F : IsTouchAt caps events r.first p.first) (G : IsTouchAt caps events r.second p.second) where
      in_events : IsPairIn caps events p
      in_events = record { first = F.stamped; second = G.stamped }

      -- where the test finds no race there is none
      pub no_race : races_on r.var p ≡ false → ¬ RacesInOrder caps events r
      no_race fails R =
          let there = subst (λ i. IsRace caps events r.var i p.second.stamp.at × (i < p.second.stamp.at)) (sym F.at)
          (subst (λ j. IsRace caps events r.var r.first j × (r.first < j)) (sym G.at) (R.race, R.in_order)) in
          let yes : races_on r.var p ≡ true = race_told r.var p in_events there.0 there.1 in
          cc

      -- and where it finds one they are the two of it
      pub is_pair_of : IsLegal caps events → races_on r.var p ≡ true → IsPairOf caps events r p
      is_pair_of legal is = record {
        pair = in_events;
        first = F.at;
        second = G.at;
        races = record { legal = legal; race = races.0; in_order = races.1 };
      }
        where
          races : IsRace caps events r.var r.first r.second × (r.first < r.second)
          races = subst (λ j. IsRace caps events r.var r.first j × (r.first < j)) G.at
              (subst (λ i. IsRace caps events r.var i p.second.stamp.at × (i < p.second.stamp.at)) F.at (race_found r.var p in_events is))
