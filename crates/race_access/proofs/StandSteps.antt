-- What is kept stands for the list, one touch on.
use Rattle.std.proofs.Common.{◌≡◌, ℕ, ◌≤◌, Bool, true, false, List, [], ◌∷◌, ◌++◌, Option, Some, None, refl, sym, ap}
use Rattle.std.proofs.Common.{◌∙◌, subst, inl, inr, arith, IsTrue}
use Rattle.std.{proofs.lemmas.List.Elements.{Contains-append_left, Contains-push}, specs.Option.is_some}
use Rattle.std.specs.List.{Contains}
use Rattle.race_model.specs.Race.{IsReportedBy}
use Rattle.race_access.specs.{declared.access.Access.Access, Touches.{Touch, IsKnownTo, IsLawful, Conflicting, Known}}
use Rattle.race_access.specs.{Touches.{IsReported, noted_of, IsNotedIn, AreNotedIn}, Kept.{Kept, no_access, access_of}}
use Rattle.race_access.specs.Kept.{Knows, IsGreatestUnknown, candidates, candidates_by, KeepsBy, IsKeptOn}
use Rattle.race_access.specs.TouchHolds.{Covers, is_write, is_any, CoversAll, HoldsBy, StandsFor}
use Rattle.race_access.proofs.{TouchSteps.{IsPartner, first_race, still_free, race_stays}, KeptSteps.all_known}
use Rattle.race_access.proofs.{KeptSteps.{greatest_of_all, covers_on, covers_next}, KeepSteps.{only_one, cons_first}}
use Rattle.race_access.proofs.KeepSteps.{keeps_alone, keeps_under}
use Rattle.race_verdict.specs.declared.report.ReportedAccess.{ReportedAccess}

not_both : true ≡ false → ⊥
not_both e = cc

module _ (touched : List Touch) (t : Touch) (lawful : IsLawful (touched ++ t ∷ [])) where
  -- what is noted stays so
  still_noted : (noted : Option (ReportedAccess × ReportedAccess)) → AreNotedIn touched noted → AreNotedIn (touched ++ t ∷ []) noted
  still_noted None are = tt
  still_noted (Some (m, n)) ((a, ina, is), (b, inb, isb)) =
      ((a, Contains-append_left touched (t ∷ []) a ina, is), (b, Contains-append_left touched (t ∷ []) b inb, isb))

  -- a pair stays
  pub stands_raced : (kept : Kept) → is_some kept.pair ≡ true → StandsFor kept touched → StandsFor kept (touched ++ t ∷ [])
  stands_raced kept some stands = record { holds = go kept.pair some stands.holds; noted = still_noted kept.noted stands.noted }
    where
      go : (pair : Option (ℕ × ℕ)) → is_some pair ≡ true → HoldsBy touched kept.write kept.reads pair → HoldsBy (touched ++ t ∷ []) kept.write kept.reads pair
      go None some holds = absurd (not_both (sym some))
      go (Some (i, j)) some holds = race_stays touched t lawful i j holds

  -- without a pair all is covered
  unraced : (kept : Kept) → is_some kept.pair ≡ false → StandsFor kept touched → CoversAll touched kept.write kept.reads
  unraced kept none stands = go kept.pair none stands.holds
    where
      go : (pair : Option (ℕ × ℕ)) → is_some pair ≡ false → HoldsBy touched kept.write kept.reads pair → CoversAll touched kept.write kept.reads
      go None none holds = holds
      go (Some (i, j)) none holds = absurd (not_both none)

  never : (b : Bool) → b ≡ false → IsTrue b → ⊥
  never b is true_too = not_both (sym true_too ∙ is)

  module _ (kept : Kept) (covers : CoversAll touched kept.write kept.reads) where
    -- the first race
    first_by : (n : ReportedAccess) (b : Bool) → t.stamp.write ≡ b → IsGreatestUnknown t.clock (candidates_by b kept) (Some n)
        → IsReportedBy (Conflicting (touched ++ t ∷ [])) (Known (touched ++ t ∷ [])) n.at t.stamp.at × IsNotedIn (touched ++ t ∷ []) n
    first_by n true is greatest = go (greatest_of_all touched t lawful is_any (kept.write ∷ kept.reads) covers.all n greatest)
      where
        go : ((a : Touch) × Contains touched a × IsTrue (is_any a) × (noted_of a ≡ n) × (¬ IsKnownTo a t)
            × ((b : Touch) → Contains touched b → IsTrue (is_any b) → ¬ IsKnownTo b t → b.stamp.at ≤ n.at))
            → IsReportedBy (Conflicting (touched ++ t ∷ [])) (Known (touched ++ t ∷ [])) n.at t.stamp.at × IsNotedIn (touched ++ t ∷ []) n
        go (a, ina, passed, noted, unknown, most) =
            let at : a.stamp.at ≡ n.at = ap (λ (n : ReportedAccess). n.at) noted in (
              subst (λ i. IsReportedBy (Conflicting (touched ++ t ∷ [])) (Known (touched ++ t ∷ [])) i t.stamp.at) at
                  (first_race touched t lawful covers.free a (ina, inr is, unknown)
                  (λ b partner. let bound : b.stamp.at ≤ n.at = most b partner.0 refl partner.2 in omega (arith, bound, at))),
              (a, Contains-append_left touched (t ∷ []) a ina, noted),
            )
    first_by n false is greatest = go (greatest_of_all touched t lawful is_write (kept.write ∷ []) covers.writes n greatest)
      where
        go : ((a : Touch) × Contains touched a × IsTrue (is_write a) × (noted_of a ≡ n) × (¬ IsKnownTo a t)
            × ((b : Touch) → Contains touched b → IsTrue (is_write b) → ¬ IsKnownTo b t → b.stamp.at ≤ n.at))
            → IsReportedBy (Conflicting (touched ++ t ∷ [])) (Known (touched ++ t ∷ [])) n.at t.stamp.at × IsNotedIn (touched ++ t ∷ []) n
        go (a, ina, passed, noted, unknown, most) = (
          subst (λ i. IsReportedBy (Conflicting (touched ++ t ∷ [])) (Known (touched ++ t ∷ [])) i t.stamp.at) at
              (first_race touched t lawful covers.free a (ina, inl passed, unknown) greatest_one),
          (a, Contains-append_left touched (t ∷ []) a ina, noted),
        )
          where
            at : a.stamp.at ≡ n.at
            at = ap (λ (n : ReportedAccess). n.at) noted

            greatest_one : (b : Touch) → IsPartner touched t lawful b → b.stamp.at ≤ a.stamp.at
            greatest_one b (inb, inl writes, un) = let bound : b.stamp.at ≤ n.at = most b inb writes un in omega (arith, bound, at)
            greatest_one b (inb, inr wrong, un) = absurd (never t.stamp.write is wrong)

    -- an access that races with none
    kept_by : (new : Kept) (b : Bool) → t.stamp.write ≡ b → IsGreatestUnknown t.clock (candidates_by b kept) None
        → KeepsBy b kept new (access_of t.stamp t.place) t.clock → CoversAll (touched ++ t ∷ []) new.write new.reads
    kept_by new true is known keeps = record {
      free = still_free touched t lawful covers.free
          (λ a partner. partner.2 (all_known touched t lawful is_any (kept.write ∷ kept.reads) covers.all known a partner.0 refl));
      writes = subst (λ w. Covers is_write (touched ++ t ∷ []) (w ∷ [])) (sym keeps.write)
          (covers_next touched t lawful is_write (kept.write ∷ []) covers.writes (access_of t.stamp t.place ∷ []) is
          (keeps_alone (kept.write ∷ []) [] (access_of t.stamp t.place) t.clock alone none));
      all = subst (λ w. Covers is_any (touched ++ t ∷ []) (w ∷ new.reads)) (sym keeps.write)
          (covers_next touched t lawful is_any (kept.write ∷ kept.reads) covers.all (access_of t.stamp t.place ∷ new.reads) refl
          (keeps_alone (kept.write ∷ kept.reads) new.reads (access_of t.stamp t.place) t.clock known keeps.reads));
    }
      where
        alone : (e : Access) → Contains (kept.write ∷ []) e → Knows t.clock e
        alone e one = subst (Knows t.clock) (only_one kept.write e one) (known kept.write (cons_first kept.write kept.reads))

        none : (e : Access) → Contains [] e → e.count ≡ 0
        none e (k, less, at) = absurd (omega (arith, less))
    kept_by new false is known (same, keeps) = record {
      free = still_free touched t lawful covers.free alone;
      writes = subst (λ w. Covers is_write (touched ++ t ∷ []) (w ∷ [])) (sym same) (covers_on touched t lawful is_write (kept.write ∷ []) covers.writes is);
      all = subst (λ w. Covers is_any (touched ++ t ∷ []) (w ∷ new.reads)) (sym same)
          (covers_next touched t lawful is_any (kept.write ∷ kept.reads) covers.all (kept.write ∷ new.reads) refl
          (keeps_under kept.write kept.reads new.reads (access_of t.stamp t.place) t.clock keeps));
    }
      where
        alone : (a : Touch) → ¬ IsPartner touched t lawful a
        alone a (ina, inl writes, unknown) = unknown (all_known touched t lawful is_write (kept.write ∷ []) covers.writes known a ina writes)
        alone a (ina, inr wrong, unknown) = never t.stamp.write is wrong

  -- the first race
  pub stands_first : (kept : Kept) → is_some kept.pair ≡ false → (n : ReportedAccess) → IsGreatestUnknown t.clock (candidates (access_of t.stamp t.place) kept) (Some n)
      → StandsFor kept touched
      → StandsFor (record { pair = Some (n.at, t.stamp.at); noted = Some (n, noted_of t); write = no_access; reads = [] }) (touched ++ t ∷ [])
  stands_first kept none n greatest stands =
      let first = first_by kept (unraced kept none stands) n t.stamp.write refl greatest in
      record { holds = first.0; noted = (first.1, (t, Contains-push touched t, refl)) }

  -- an access that races with none
  pub stands_on : (old new : Kept) → is_some old.pair ≡ false → IsGreatestUnknown t.clock (candidates (access_of t.stamp t.place) old) None
      → IsKeptOn old new (access_of t.stamp t.place) t.clock → StandsFor old touched → StandsFor new (touched ++ t ∷ [])
  stands_on old new none known (empty, clear, keeps) stands = record {
    holds =
        subst (HoldsBy (touched ++ t ∷ []) new.write new.reads) (sym empty) (kept_by old (unraced old none stands) new t.stamp.write refl known keeps);
    noted = subst (AreNotedIn (touched ++ t ∷ [])) (sym clear) tt;
  }

-- what stands for a list tells its race
pub stands_reports : (kept : Kept) (touched : List Touch) → StandsFor kept touched → IsReported touched kept.pair
stands_reports kept touched stands = go kept.pair stands.holds
  where
    go : (pair : Option (ℕ × ℕ)) → HoldsBy touched kept.write kept.reads pair → IsReported touched pair
    go None holds = holds.free
    go (Some (i, j)) holds = holds

-- what the code notes of a pair is what is noted of it
pub stands_noted : (touched : List Touch) {a b m n : ReportedAccess} → a ≡ m → b ≡ n
    → StandsFor (record { pair = Some (m.at, n.at); noted = Some (m, n); write = no_access; reads = [] }) touched
    → StandsFor (record { pair = Some (a.at, b.at); noted = Some (a, b); write = no_access; reads = [] }) touched
stands_noted touched {a} {b} {m} {n} first second stands =
    subst (λ (y : ReportedAccess). StandsFor (record { pair = Some (a.at, y.at); noted = Some (a, y); write = no_access; reads = [] }) touched) (sym second)
    (subst (λ (x : ReportedAccess). StandsFor (record { pair = Some (x.at, n.at); noted = Some (x, n); write = no_access; reads = [] }) touched) (sym first) stands)
