-- What is kept stands for the list, one touch on.
use Rattle.std.proofs.Common.{◌≡◌, ◌⊎◌, ◌<◌, ◌≤◌, Bool, true, false, List, [], ◌∷◌, ◌++◌, Some, sym, ap, ◌∙◌, subst}
use Rattle.std.proofs.{Common.{inl, inr, arith, IsTrue}, lemmas.Bool.cases_lt}
use Rattle.std.proofs.lemmas.List.Elements.{Contains-append_left, Contains-push, Contains-push_cases}
use Rattle.std.specs.List.{Contains}
use Rattle.race_verdict.specs.declared.report.ReportedAccess.{ReportedAccess}
use Rattle.race_access.specs.{declared.access.Access.Access, Touches.{Touch, IsKnownTo, IsLawful, noted_of}}
use Rattle.race_access.specs.Kept.{access_of, note_of, Knows, IsGreatestUnknown, KeepsRead}
use Rattle.race_access.{specs.TouchHolds.{IsCovered, Covers}, proofs.TouchSteps.later}

module _ (touched : List Touch) (t : Touch) (lawful : IsLawful (touched ++ t ∷ [])) (passes : Touch → Bool) where
  inside : (a : Touch) → Contains touched a → Contains (touched ++ t ∷ []) a
  inside a is = Contains-append_left touched (t ∷ []) a is

  last : Contains (touched ++ t ∷ []) t
  last = Contains-push touched t

  -- what a known one covers is known
  known_under : (a b : Touch) → Contains touched a → Contains touched b → (a ≡ b) ⊎ IsKnownTo a b → IsKnownTo b t → IsKnownTo a t
  known_under a b ina inb (inl same) known = subst (λ a. IsKnownTo a t) (sym same) known
  known_under a b ina inb (inr covered) known = lawful.transitive a b t (inside a ina) (inside b inb) last covered known

  module _ (kept : List Access) (covers : Covers passes touched kept) where
    -- where all that is kept is known, all that it covers is
    pub all_known : ((e : Access) → Contains kept e → Knows t.clock e) → (a : Touch) → Contains touched a → IsTrue (passes a) → IsKnownTo a t
    all_known known a ina passed = go (covers.covered a ina passed)
      where
        go : IsCovered touched kept a → IsKnownTo a t
        go (b, inb, keptb, order, under) = known_under a b ina inb under (known (access_of b.stamp b.place) keptb)

    -- the greatest one that is kept and isn't known is the greatest of all that it covers
    pub greatest_of_all : (n : ReportedAccess) → IsGreatestUnknown t.clock kept (Some n)
        → (a : Touch) × Contains touched a × IsTrue (passes a) × (noted_of a ≡ n) × (¬ IsKnownTo a t)
        × ((b : Touch) → Contains touched b → IsTrue (passes b) → ¬ IsKnownTo b t → b.stamp.at ≤ n.at)
    greatest_of_all n (e, kepte, noted, unknown, greatest) = go (covers.real e kepte counted)
      where
        counted : 0 < e.count
        counted = elim (cases_lt 0 e.count) [ inl less ↦ less | inr none ↦ absurd (unknown (omega (arith, none))) ]

        most : (b : Touch) → Contains touched b → IsTrue (passes b) → ¬ IsKnownTo b t → b.stamp.at ≤ n.at
        most b inb passed unknownb = over (covers.covered b inb passed)
          where
            over : IsCovered touched kept b → b.stamp.at ≤ n.at
            over (c, inc, keptc, order, under) =
                let bound : c.stamp.at ≤ n.at = greatest (access_of c.stamp c.place) keptc (λ known. unknownb (known_under b c inb inc under known)) in
                omega (arith, bound, order)

        go : ((a : Touch) × Contains touched a × IsTrue (passes a) × (access_of a.stamp a.place ≡ e))
            → (a : Touch) × Contains touched a × IsTrue (passes a) × (noted_of a ≡ n) × (¬ IsKnownTo a t)
            × ((b : Touch) → Contains touched b → IsTrue (passes b) → ¬ IsKnownTo b t → b.stamp.at ≤ n.at)
        go (a, ina, passed, is) = (a, ina, passed, ap note_of is ∙ noted, (λ known. unknown (subst (Knows t.clock) is known)), most)

    -- what is kept goes on covering where the next one doesn't pass
    pub covers_on : passes t ≡ false → Covers passes (touched ++ t ∷ []) kept
    covers_on fails = record {
      real = λ e kepte counted. let old = covers.real e kepte counted in (old.0, inside old.0 old.1, old.2, old.3);
      covered = λ a ina passed. elim (Contains-push_cases touched t a ina) [
        | inl olda ↦ let old = covers.covered a olda passed in (old.0, inside old.0 old.1, old.2, old.3, old.4)
        | inr new ↦ let passed : passes t ≡ true = subst (λ a. passes a ≡ true) (sym new) passed in cc
      ];
    }

    -- and covers the next one too, where it is kept with all that it doesn't know
    pub covers_next : (new : List Access) → IsTrue (passes t) → KeepsRead kept new (access_of t.stamp t.place) t.clock → Covers passes (touched ++ t ∷ []) new
    covers_next new passed keeps = record {
      real = λ e kepte counted. elim (keeps.nothing_else e kepte counted) [
        | inl olde ↦ let old = covers.real e olde counted in (old.0, inside old.0 old.1, old.2, old.3)
        | inr is ↦ (t, last, passed, sym is)
      ];
      covered = λ a ina passeda. elim (Contains-push_cases touched t a ina) [
        | inl olda ↦ old a olda (covers.covered a olda passeda)
        | inr newa ↦ (t, last, keeps.itself, at_most a newa, inl (sym newa))
      ];
    }
      where
        at_most : (a : Touch) → t ≡ a → a.stamp.at ≤ t.stamp.at
        at_most a is = let same : t.stamp.at ≡ a.stamp.at = ap (λ (a : Touch). a.stamp.at) is in omega (arith, same)

        old : (a : Touch) → Contains touched a → IsCovered touched kept a → IsCovered (touched ++ t ∷ []) new a
        old a ina (b, inb, keptb, order, under) = go (keeps.dropped (access_of b.stamp b.place) keptb)
          where
            by_next : IsKnownTo b t → IsCovered (touched ++ t ∷ []) new a
            by_next known =
                let less : a.stamp.at < t.stamp.at = later touched t lawful a ina in
                (t, last, keeps.itself, omega (arith, less), inr (known_under a b ina inb under known))

            go : Contains new (access_of b.stamp b.place) ⊎ Knows t.clock (access_of b.stamp b.place) ⊎ (b.stamp.who ≡ t.stamp.who) → IsCovered (touched ++ t ∷ []) new a
            go (inl stays) = (b, inside b inb, stays, order, under)
            go (inr (inl known)) = by_next known
            go (inr (inr own)) = by_next (lawful.own b t (inside b inb) last (later touched t lawful b inb) own)
