-- A list of entries that say of a key how often it was met.
use Rattle.std.proofs.Common.{ℕ, zero, suc, ◌≡◌, ◌⊎◌, ◌<◌, ◌+◌, ◌++◌, Bool, true, false, cond, List, [], ◌∷◌, length, Some, refl, sym, ap, ◌∙◌, arith, subst, inl, inr, true≢false}
use Rattle.std.{proofs.lemmas.Option.same_Some, specs.Prelude.{slice_get, slice_set}}
use Rattle.race_explore.proofs.ElementLemmas.{at_front, at_end, at_push, set_there, set_elsewhere, at_set}

module _ {E K : Type 0} (key : E → K) (runs : E → ℕ) where
  -- each entry says so of its key; fails key has two entries, and each that was met has one
  pub record IsTally (entries : List E) (count : K → ℕ) : Type 0 where
    pub each : (i : ℕ) (e : E) → slice_get entries i ≡ Some e → runs e ≡ count (key e)
    pub once : (i j : ℕ) (e d : E) → slice_get entries i ≡ Some e → slice_get entries j ≡ Some d → key e ≡ key d → i ≡ j
    pub every : (x : K) → 0 < count x → (i : ℕ) × (e : E) × (slice_get entries i ≡ Some e) × (key e ≡ x)

  -- nothing was met
  pub no_tally : (count : K → ℕ) → ((x : K) → count x ≡ 0) → IsTally [] count
  no_tally count none = record {
    each = λ i e at. absurd (cc at);
    once = λ i j e d at there same. absurd (cc at);
    every = λ x some. let fails = none x in absurd (omega (arith, some, fails));
  }

  -- nothing more was
  pub same_tally : (entries : List E) (count after : K → ℕ) → IsTally entries count → ((x : K) → after x ≡ count x) → IsTally entries after
  same_tally entries count after tally same = record {
    each = λ i e at. tally.each i e at ∙ sym (same (key e));
    once = tally.once;
    every = λ x some. tally.every x (subst (λ n. 0 < n) (same x) some);
  }

  -- what has fails entry wasn't met
  pub not_met : (entries : List E) (count : K → ℕ) → IsTally entries count → (x : K) → ((i : ℕ) (e : E) → slice_get entries i ≡ Some e → key e ≡ x → ⊥)
      → count x ≡ 0
  not_met entries count tally x none = by (count x) refl
    where
      by : (n : ℕ) → count x ≡ n → count x ≡ 0
      by zero none_is = none_is
      by (suc n) some =
          let (i, e, at, of) = tally.every x (omega (arith, some)) in
          absurd (none i e at of)

  -- this key was met once more
  module _ (entries : List E) (count after : K → ℕ) (tally : IsTally entries count) (met : K) (is : K → Bool)
      (sound : (x : K) → is x ≡ true → x ≡ met) (there : is met ≡ true) (more : (x : K) → after x ≡ count x + cond (is x) 1 0)
    where
      at_met : after met ≡ count met + 1
      at_met = more met ∙ ap (λ b. count met + cond b 1 0) there

      elsewhere : (x : K) → (x ≡ met → ⊥) → after x ≡ count x
      elsewhere x other = by (is x) refl
        where
          by : (b : Bool) → is x ≡ b → after x ≡ count x
          by true passes = absurd (other (sound x passes))
          by false fails = let known : after x ≡ count x + 0 = more x ∙ ap (λ b. count x + cond b 1 0) fails in omega (arith, known)

      -- where it has an entry
      module _ (i : ℕ) (e d : E) (at : slice_get entries i ≡ Some e) (of : key e ≡ met) (same : key d ≡ key e) (one : runs d ≡ runs e + 1) where
        -- what is there has the key of what was there
        old_there : (k : ℕ) (x : E) → slice_get (slice_set entries i d) k ≡ Some x → (y : E) × (slice_get entries k ≡ Some y) × (key y ≡ key x)
        old_there k x here = by (at_set entries i k x d here)
          where
            by : ((k ≡ i) × (d ≡ x)) ⊎ ((k ≡ i → ⊥) × (slice_get entries k ≡ Some x)) → (y : E) × (slice_get entries k ≡ Some y) × (key y ≡ key x)
            by (inl (place, is)) = (e, ap (slice_get entries) place ∙ at, sym same ∙ ap key is)
            by (inr (other, old)) = (x, old, refl)

        pub counted_there : IsTally (slice_set entries i d) after
        counted_there = record { each = each; once = once; every = every }
          where
            each : (k : ℕ) (x : E) → slice_get (slice_set entries i d) k ≡ Some x → runs x ≡ after (key x)
            each k x here = by (at_set entries i k x d here)
              where
                by : ((k ≡ i) × (d ≡ x)) ⊎ ((k ≡ i → ⊥) × (slice_get entries k ≡ Some x)) → runs x ≡ after (key x)
                by (inl (place, is)) =
                    let before : runs e ≡ count met = tally.each i e at ∙ ap count of in
                    let now : runs x ≡ runs e + 1 = ap runs (sym is) ∙ one in
                    let whose : key x ≡ met = ap key (sym is) ∙ same ∙ of in
                    now ∙ ap (λ n. n + 1) before ∙ sym at_met ∙ ap after (sym whose)
                by (inr (other, old)) =
                    tally.each k x old ∙ sym (elsewhere (key x) (λ met_too. other (tally.once k i x e old at (met_too ∙ sym of))))

            once : (k m : ℕ) (x y : E) → slice_get (slice_set entries i d) k ≡ Some x → slice_get (slice_set entries i d) m ≡ Some y → key x ≡ key y → k ≡ m
            once k m x y here there alike =
                let (u, at_k, key_u) = old_there k x here in
                let (v, at_m, key_v) = old_there m y there in
                tally.once k m u v at_k at_m (key_u ∙ alike ∙ sym key_v)

            every : (x : K) → 0 < after x → (k : ℕ) × (y : E) × (slice_get (slice_set entries i d) k ≡ Some y) × (key y ≡ x)
            every x some = by (is x) refl
              where
                found : (k : ℕ) × (y : E) × (slice_get entries k ≡ Some y) × (key y ≡ x) → (x ≡ met → ⊥)
                    → (k : ℕ) × (y : E) × (slice_get (slice_set entries i d) k ≡ Some y) × (key y ≡ x)
                found (k, y, old, whose) other =
                    (k, y, set_elsewhere entries i k y d (λ place. other (sym whose ∙ ap key (same_Some y e (sym old ∙ ap (slice_get entries) place ∙ at)) ∙ of)) old, whose)

                by : (b : Bool) → is x ≡ b → (k : ℕ) × (y : E) × (slice_get (slice_set entries i d) k ≡ Some y) × (key y ≡ x)
                by true passes = (i, d, set_there entries i e d at, same ∙ of ∙ sym (sound x passes))
                by false fails =
                    let other : x ≡ met → ⊥ = λ so. true≢false (sym (ap is so ∙ there) ∙ fails) in
                    found (tally.every x (subst (λ n. 0 < n) (elsewhere x other) some)) other

      -- where it has none
      module _ (none : (i : ℕ) (e : E) → slice_get entries i ≡ Some e → key e ≡ met → ⊥) (d : E) (whose : key d ≡ met) (one : runs d ≡ 1) where
        pub counted_new : IsTally (entries ++ d ∷ []) after
        counted_new = record { each = each; once = once; every = every }
          where
            each : (k : ℕ) (x : E) → slice_get (entries ++ d ∷ []) k ≡ Some x → runs x ≡ after (key x)
            each k x here = by (at_push entries d x k here)
              where
                by : (slice_get entries k ≡ Some x) ⊎ ((k ≡ length entries) × (d ≡ x)) → runs x ≡ after (key x)
                by (inl old) = tally.each k x old ∙ sym (elsewhere (key x) (none k x old))
                by (inr (last, is)) =
                    let first : after met ≡ 1 = at_met ∙ ap (λ n. n + 1) (not_met entries count tally met none) in
                    ap runs (sym is) ∙ one ∙ sym first ∙ ap after (sym whose ∙ ap key is)

            once : (k m : ℕ) (x y : E) → slice_get (entries ++ d ∷ []) k ≡ Some x → slice_get (entries ++ d ∷ []) m ≡ Some y → key x ≡ key y → k ≡ m
            once k m x y here there alike = by (at_push entries d x k here) (at_push entries d y m there)
              where
                by : (slice_get entries k ≡ Some x) ⊎ ((k ≡ length entries) × (d ≡ x)) → (slice_get entries m ≡ Some y) ⊎ ((m ≡ length entries) × (d ≡ y)) → k ≡ m
                by (inl old) (inl old2) = tally.once k m x y old old2 alike
                by (inl old) (inr (last, is)) = absurd (none k x old (alike ∙ ap key (sym is) ∙ whose))
                by (inr (last, is)) (inl old) = absurd (none m y old (sym alike ∙ ap key (sym is) ∙ whose))
                by (inr (last, is)) (inr (last2, is2)) = last ∙ sym last2

            every : (x : K) → 0 < after x → (k : ℕ) × (y : E) × (slice_get (entries ++ d ∷ []) k ≡ Some y) × (key y ≡ x)
            every x some = by (is x) refl
              where
                found : (k : ℕ) × (y : E) × (slice_get entries k ≡ Some y) × (key y ≡ x)
                    → (k : ℕ) × (y : E) × (slice_get (entries ++ d ∷ []) k ≡ Some y) × (key y ≡ x)
                found (k, y, old, of) = (k, y, at_front entries d y k old, of)

                by : (b : Bool) → is x ≡ b → (k : ℕ) × (y : E) × (slice_get (entries ++ d ∷ []) k ≡ Some y) × (key y ≡ x)
                by true passes = (length entries, d, at_end entries d, whose ∙ sym (sound x passes))
                by false fails =
                    let other : x ≡ met → ⊥ = λ so. true≢false (sym (ap is so ∙ there) ∙ fails) in
                    found (tally.every x (subst (λ n. 0 < n) (elsewhere x other) some))
