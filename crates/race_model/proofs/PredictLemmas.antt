-- Other runs of the same goroutines: which race ends one, and what a part of a front is.
use Rattle.std.proofs.Common.{◌≡◌, ◌≢◌, ℕ, ◌+◌, ◌<◌, List, ◌++◌, Some, filter, take, drop, length, slice_get}
use Rattle.std.proofs.Common.{zero, suc, Bool, true, false, cond, count_by, [], ◌∷◌, ◌||◌, IsTrue, sym, ap, ◌∙◌, subst, refl, inl, inr, append-nil, arith}
use Rattle.std.proofs.lemmas.Bool.{or_cases}
use Rattle.std.proofs.lemmas.List.{take-append-drop, Elements.filter-append, Sums.length-filter}
use Rattle.race_records.specs.declared.event.Event.{Event}
use Rattle.race_model.specs.{Events.{At, takes_part, accesses, writes}, Legal.IsLegal, Race.IsRace, Predict.{CouldHaveRun}}
use Rattle.race_model.specs.{Predict.EndsWithRace, Order.{Point, Begin, End, HappensBefore, Step, Reaches}}
use Rattle.race_model.specs.Order.{one_step, then_step}
use Rattle.race_model.proofs.{Indexes.{append_at_old, at_same, take_suc, slice_get-push}, LegalSteps.legal_take, Ranks.{reaches_up, happens_before_up}}

-- what stands in the filtered list stands in the list, and passes
pub in_part : {X : Type 0} (p : X → Bool) (xs : List X) (k : ℕ) (a : X) → slice_get (filter p xs) k ≡ Some a
    → (i : ℕ) × (slice_get xs i ≡ Some a) × IsTrue (p a)
in_part p [] k a at = cc
in_part {X} p (x ∷ xs) k a at = go (p x) refl k at (λ j. in_part p xs j a)
  where
    behind : ((i : ℕ) × (slice_get xs i ≡ Some a) × IsTrue (p a)) → (i : ℕ) × (slice_get (x ∷ xs) i ≡ Some a) × IsTrue (p a)
    behind (i, there, is) = (suc i, there, is)

    go : (b : Bool) → p x ≡ b → (k : ℕ) → slice_get (cond b (x ∷ filter p xs) (filter p xs)) k ≡ Some a
        → ((j : ℕ) → slice_get (filter p xs) j ≡ Some a → (i : ℕ) × (slice_get xs i ≡ Some a) × IsTrue (p a))
        → (i : ℕ) × (slice_get (x ∷ xs) i ≡ Some a) × IsTrue (p a)
    go false is k at rest = behind (rest k at)
    go true is zero at rest = (0, at, (let same : x ≡ a = cc in subst (λ (a : X). IsTrue (p a)) same is))
    go true is (suc k) at rest = behind (rest k at)

-- a filtered front is a front of the filtered list
pub front_in_part : {X : Type 0} (p : X → Bool) (xs : List X) (n k : ℕ) (a : X) → slice_get (filter p (take n xs)) k ≡ Some a → slice_get (filter p xs) k ≡ Some a
front_in_part {X} p xs n k a at =
    let whole : filter p xs ≡ filter p (take n xs) ++ filter p (drop n xs) =
    sym (ap (filter p) (take-append-drop n xs)) ∙ filter-append p (take n xs) (drop n xs) in
    subst (λ (es : List X). slice_get es k ≡ Some a) (sym whole) (append_at_old (filter p (take n xs)) (filter p (drop n xs)) k a at)

-- a list with one element more, filtered
pub filter_push : {X : Type 0} (p : X → Bool) (xs : List X) (a : X) → IsTrue (p a) → filter p (xs ++ a ∷ []) ≡ filter p xs ++ a ∷ []
filter_push p xs a is = filter-append p xs (a ∷ []) ∙ ap (λ b. filter p xs ++ cond b (a ∷ []) []) is

pub filter_drop : {X : Type 0} (p : X → Bool) (xs : List X) (a : X) → p a ≡ false → filter p (xs ++ a ∷ []) ≡ filter p xs
filter_drop p xs a is = filter-append p xs (a ∷ []) ∙ ap (λ b. filter p xs ++ cond b (a ∷ []) []) is ∙ append-nil (filter p xs)

-- an element that passes has as its number in the filtered list how many pass before it
pub at_in_part : {X : Type 0} (p : X → Bool) (xs : List X) (i : ℕ) (a : X) → slice_get xs i ≡ Some a → IsTrue (p a)
    → slice_get (filter p xs) (count_by p (take i xs)) ≡ Some a
at_in_part p xs i a at is =
    let next : filter p (take (suc i) xs) ≡ filter p (take i xs) ++ a ∷ [] = ap (filter p) (take_suc i xs a at) ∙ filter_push p (take i xs) a is in
    front_in_part p xs (suc i) (count_by p (take i xs)) a
    (ap (λ es. slice_get es (count_by p (take i xs))) next ∙ ap (slice_get (filter p (take i xs) ++ a ∷ [])) (sym (length-filter p (take i xs)))
    ∙ slice_get-push (filter p (take i xs)) a)

-- two accesses of x at the end, by two goroutines, one of them a write
pub ends_by : (events : List Event) (x n : ℕ) (a b : Event) → length events ≡ n + 2 → At events n a → At events (n + 1) b → IsTrue (accesses x a.op)
    → IsTrue (accesses x b.op) → IsTrue (writes x a.op || writes x b.op) → a.who ≢ b.who → EndsWithRace events x
ends_by events x n a b len ata atb is_a is_b write two = record {
  before = n;
  last_two = len;
  conflict = (
    (λ same. absurd (omega arith)),
    (a, ata, is_a),
    (b, atb, is_b),
    elim (or_cases _ _ write) [ inl is ↦ inl (a, ata, is) | inr is ↦ inr (b, atb, is) ],
  );
  two_goroutines = λ c d atc atd same.
      two (ap (λ (e : Event). e.who) (at_same events n a c ata atc) ∙ same ∙ ap (λ (e : Event). e.who) (at_same events (n + 1) d b atd atb));
}

module _ (caps : ℕ → ℕ) (events : List Event) where
  -- no way leads from an event's end to the begin of the next event, where that is another goroutine's
  pub no_way_to_next : (n g h : ℕ) → g ≢ h → Reaches caps events (End n g) (Begin (n + 1) h) → ⊥
  no_way_to_next n g h other (one_step (inl s)) = other s.1
  no_way_to_next n g h other (one_step (inr s)) = s
  no_way_to_next n g h other (then_step {q} w s) = go q w s
    where
      go : (q : Point) → Reaches caps events (End n g) q → Step caps events q (Begin (n + 1) h) → ⊥
      go (Begin m f) w (inl s) = s
      go (Begin m f) w (inr s) = s
      go (End m f) w (inr s) = s
      go (End m f) w (inl s) = let up : n + n + 1 < m + m + 1 = reaches_up w in let less : m < n + 1 = s.0 in absurd (omega arith)

  -- who ends with the two accesses has a race there
  pub race_at_end : (x : ℕ) (ends : EndsWithRace events x) → IsRace caps events x ends.before (ends.before + 1)
  race_at_end x ends = record {
    conflict = ends.conflict;
    not_before = not_before;
    not_after = λ h. let up : ends.before + 1 < ends.before = happens_before_up caps events (ends.before + 1) ends.before h in absurd (omega arith);
  }
    where
      not_before : HappensBefore caps events ends.before (ends.before + 1) → ⊥
      not_before (a, b, ata, atb, way) = no_way_to_next ends.before a.who b.who (ends.two_goroutines a b ata atb) way

  -- each front of a legal list could have run
  pub front_could_run : (n : ℕ) → IsLegal caps events → CouldHaveRun caps events (take n events)
  front_could_run n legal = record {
    legal = legal_take caps events n legal;
    asks_the_same = λ g k a at. (a, front_in_part (takes_part g) events n k a at, inl refl);
  }
