-- The parts of a witness's order are put together.
use Rattle.std.proofs.Common.{◌≡◌, ◌↔◌, ℕ, ◌+◌, ◌<◌, ◌≤◌, ◌==◌, ◌&&◌, not, Bool, true, false, cond, List, [], ◌∷◌, ◌++◌}
use Rattle.std.proofs.Common.{Option, Some, None, length, refl, sym, ap, ◌∙◌, subst, arith, IsTrue, eqb-true, eq-eqb}
use Rattle.std.proofs.{Common.{append_assoc, append-nil}, lemmas.Option.slice_get_within}
use Rattle.race_records.specs.{declared.event.Event.Event, Events.TraceState}
use Rattle.race_model.{specs.{Events.is_access, Reorder.{IsAccess, IsReordering}}, proofs.ReorderLemmas.passes_at}
use Rattle.race_verdict.specs.{Traces.capacities, declared.races.Race.Race}
use Rattle.race_clock.specs.{declared.stamp.Stamp.Stamp, Laws.IsStampIn, StamperState.StamperState}
use Rattle.race_shards.specs.{declared.order.Part.Part, Witness.{IsOther, IsWitnessList, IsWitness, StandsNext}}
use Rattle.race_shards.specs.{Walking.IsStampAt, Pairs.{PairState, is_early, IsPairIn, IsPairOf}, Listing.IsOfPart}
use Rattle.race_shards.{specs.Listing.{belongs, listed_of, Adds}, proofs.AllLemmas.{Below, all_none, all_more}}
use Rattle.race_shards.proofs.{AllLemmas.{all_passed, all_whole}, PairSteps.{stamp_is_access, early_says}}
use Rattle.race_shards.proofs.WitnessLaws.{list_is_reordering}

-- three tests that fail together
none_pass : (p q r : Bool) → (not p && (not q && not r)) ≡ true → (p ≡ false) × (q ≡ false) × (r ≡ false)
none_pass false false false is = (refl, refl, refl)
none_pass false false true is = cc
none_pass false true r is = cc
none_pass true q r is = cc

pass_none : (p q r : Bool) → (p ≡ true → ⊥) → (q ≡ true → ⊥) → (r ≡ true → ⊥) → (not p && (not q && not r)) ≡ true
pass_none false false false one two three = refl
pass_none false false true one two three = absurd (three refl)
pass_none false true r one two three = absurd (two refl)
pass_none true q r one two three = absurd (one refl)

-- what belongs to a part is an access
part_is_access : (part : Part) (caps : ℕ → ℕ) (events : List Event) (i j a : ℕ) → IsOfPart part caps events i j a → IsAccess events a
part_is_access Part.Early caps events i j a is = is.0
part_is_access Part.Others caps events i j a is = is.0

-- and so stands in the trace
pub part_within : (part : Part) (caps : ℕ → ℕ) (events : List Event) (i j a : ℕ) → IsOfPart part caps events i j a → a < length events
part_within part caps events i j a is =
    let access = passes_at is_access events a (part_is_access part caps events i j a is) in
    slice_get_within events a access.0 access.1

module _ (caps : ℕ → ℕ) (events : List Event) (p : PairState) (P : IsPairIn caps events p) where
  abbrev i : ℕ
  i = p.first.stamp.at

  abbrev j : ℕ
  j = p.second.stamp.at

  -- the clocks say which accesses belong to a part
  part_says : (part : Part) (s : Stamp) (c : List ℕ) → IsStampIn caps events s c → IsTrue (belongs part p s) ↔ IsOfPart part caps events i j s.at
  part_says Part.Early s c S =
      ((λ is. (stamp_is_access caps events s c S, (early_says caps events p P s c S).0 is)), (λ early. (early_says caps events p P s c S).1 early.1))
  part_says Part.Others s c S = (there, back)
    where
      there : IsTrue (belongs Part.Others p s) → IsOther caps events i j s.at
      there is = (
        stamp_is_access caps events s c S,
        (λ same. let yes : (s.at == i) ≡ true = eq-eqb s.at i same in let fails = fail.1 in cc),
        (λ same. let yes : (s.at == j) ≡ true = eq-eqb s.at j same in let fails = fail.2 in cc),
        (λ before. let yes : is_early p s ≡ true = (early_says caps events p P s c S).1 before in let fails = fail.0 in cc),
      )
        where
          fail : (is_early p s ≡ false) × ((s.at == i) ≡ false) × ((s.at == j) ≡ false)
          fail = none_pass (is_early p s) (s.at == i) (s.at == j) is

      back : IsOther caps events i j s.at → IsTrue (belongs Part.Others p s)
      back (access, not_i, not_j, not_early) = pass_none (is_early p s) (s.at == i) (s.at == j)
          (λ yes. not_early ((early_says caps events p P s c S).0 yes))
          (λ yes. not_i (eqb-true s.at i yes))
          (λ yes. not_j (eqb-true s.at j yes))

-- before the first event nothing is put behind a list
pub adds_none : (P : ℕ → Type 0) (old : List ℕ) → Adds (Below 0 P) old old
adds_none P old = record { added = []; all = all_none P; list = sym (append-nil old) }

-- at the end all of a part is
pub adds_whole : (part : Part) (caps : ℕ → ℕ) (events : List Event) (i j n : ℕ) (old new : List ℕ) → length events ≤ n
    → Adds (Below n (IsOfPart part caps events i j)) old new → Adds (IsOfPart part caps events i j) old new
adds_whole part caps events i j n old new all A = record {
  added = A.added;
  all = all_whole (IsOfPart part caps events i j) n A.added A.all
      (λ a is. let within : a < length events = part_within part caps events i j a is in omega (arith, all, within));
  list = A.list;
}

-- behind one event more
module _ (trace : TraceState) (p : PairState) (P : IsPairIn (capacities trace) trace.events p) (part : Part) (n : ℕ) (k : StamperState) where
  abbrev Q : ℕ → Type 0
  Q = IsOfPart part (capacities trace) trace.events p.first.stamp.at p.second.stamp.at

  pub adds_next : (o : Option Stamp) → IsStampAt trace n k o → (first old new : List ℕ) → Adds (Below n Q) first old → new ≡ old ++ listed_of part p o
      → Adds (Below (n + 1) Q) first new
  adds_next None none first old new A is = record {
    added = A.added;
    all = all_passed Q n A.added A.all (λ of. none (part_is_access part (capacities trace) trace.events p.first.stamp.at p.second.stamp.at n of));
    list = is ∙ append-nil old ∙ A.list;
  }
  adds_next (Some s) stamp first old new A is = go (belongs part p s) refl is
    where
      word : IsTrue (belongs part p s) ↔ Q n
      word = subst (λ m. IsTrue (belongs part p s) ↔ Q m) stamp.at (part_says (capacities trace) trace.events p P part s _ stamp.stamped)

      go : (b : Bool) → belongs part p s ≡ b → new ≡ old ++ cond b (s.at ∷ []) [] → Adds (Below (n + 1) Q) first new
      go true passes is = record {
        added = A.added ++ n ∷ [];
        all = all_more Q n A.added A.all (word.0 passes);
        list = is ∙ ap (λ m. old ++ m ∷ []) stamp.at ∙ ap (λ xs. xs ++ n ∷ []) A.list ∙ append_assoc first A.added (n ∷ []);
      }
      go false fails is = record {
        added = A.added;
        all = all_passed Q n A.added A.all (λ of. let passes : belongs part p s ≡ true = word.1 of in cc);
        list = is ∙ append-nil old ∙ A.list;
      }

-- the order of the two of a race is its witness
pub order_is_witness : (caps : ℕ → ℕ) (events : List Event) (r : Race) (p : PairState) (order : List ℕ) → IsPairOf caps events r p
    → IsWitnessList caps events p.first.stamp.at p.second.stamp.at order → IsWitness caps events r order
order_is_witness caps events r p order P is = record { races = P.races; list = list; reordering = both.0; adjacent = both.1 }
  where
    list : IsWitnessList caps events r.first r.second order
    list = subst (λ j. IsWitnessList caps events r.first j order) P.second (subst (λ i. IsWitnessList caps events i p.second.stamp.at order) P.first is)

    both : IsReordering caps events order × StandsNext order r.second r.first
    both = list_is_reordering caps events r.var r.first r.second order P.races.race list
