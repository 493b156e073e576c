-- What the shards tell of each variable is right.
use Rattle.std.proofs.Common.{◌≡◌, ℕ, zero, suc, ◌+◌, ◌/◌, ◌%◌, ◌<◌, List, [], ◌∷◌, ◌++◌, All, length, map, Option}
use Rattle.std.proofs.Common.{Some, None, get_or, slice_get, refl, sym, ap, ◌∙◌, subst, inl, inr, arith, length-append}
use Rattle.std.proofs.{Common.append-nil, Math.Seq.get_or-append_seam, lemmas.{Bool.cases_lt, Nat.mod_below}}
use Rattle.std.proofs.lemmas.List.{get_or_append_left, map-append, Elements.filter_map-append}
use Rattle.std.specs.Option.{option_map}
use Rattle.race_records.specs.{declared.{event.Event.Event, kind.Kind.Kind}, Declarations.{Declaration, count_of}}
use Rattle.race_records.specs.Declarations.{counts_of, capacity_of}
use Rattle.race_model.{specs.Race.{IsAccessOf, IsRace}, proofs.Indexes.at_below}
use Rattle.race_legal.specs.ReplayState.{IsInRange}
use Rattle.race_access.{specs.{Kept.Kept, StampsOf.IsReportedOn}, proofs.StampSteps.reported_on}
use Rattle.race_access.proofs.{StandSteps.stands_reports, NoteSteps.notes_are}
use Rattle.race_verdict.specs.{declared.{report.ReportedRace.ReportedRace, races.Race.Race}, Notes.{race_noted, IsNotedRaceOf}}
use Rattle.race_verdict.{specs.Races.{IsFound, AreFound, AreRaces, races_of}, proofs.RaceLists.are_races}
use Rattle.race_verdict.proofs.RangeLemmas.{accessed_in_range, accessed_below}
use Rattle.race_shards.specs.{Variables.{IsKeptOf, kept_of}, Shards.{ShardState, ShardsStandFor}, Telling.race_with}
use Rattle.race_shards.specs.Telling.{race_of, race_in, race_told, noted_in, told_below, HavePlaces, IsNotedBy}
use Rattle.race_shards.proofs.ShardSteps.{all_at}
use Rattle.race_verdict.specs.Races as tool

-- what is kept of a variable tells its race
found_is : (caps : ℕ → ℕ) (events : List Event) (x : ℕ) (kept : Kept) → IsKeptOf caps events x kept → IsFound caps events x (race_of x kept)
found_is caps events x kept is = go kept.pair (reported_on caps events x is.touched is.stamps kept.pair (stands_reports kept is.touched is.stands))
  where
    go : (pair : Option (ℕ × ℕ)) → IsReportedOn caps events x pair → IsFound caps events x (option_map (race_with x) pair)
    go None none = none
    go (Some (i, j)) reported = (refl, reported)

module _ (declarations : List Declaration) (shards : List ShardState) (past : List Event) (some : 0 < length shards)
    (stand : ShardsStandFor declarations (length shards) shards past) where
  -- the shard to which a declared variable belongs has a place for it
  pub have_places : HavePlaces shards (count_of Kind.Var declarations)
  have_places x less s at =
      let S = stand (x % length shards) s at in
      subst (λ n. x / n < length s.variables.kept) refl (S.places x less)

  -- and tells its race
  told_is : (x : ℕ) → x < count_of Kind.Var declarations → IsFound (capacity_of declarations) past x (race_told shards x)
  told_is x less = go (at_below shards (x % length shards) (mod_below x (length shards) some))
    where
      go : ((s : ShardState) × (slice_get shards (x % length shards) ≡ Some s)) → IsFound (capacity_of declarations) past x (race_told shards x)
      go (s, at) =
          let S = stand (x % length shards) s at in
          subst (λ o. IsFound (capacity_of declarations) past x (race_in x o)) (sym at)
          (found_is (capacity_of declarations) past x (kept_of s.variables x)
          (S.kept x (ap (λ n. x % n) S.count ∙ sym S.number) (S.places x less)))

  told_length : (n : ℕ) → length (told_below shards n) ≡ n
  told_length zero = refl
  told_length (suc n) = let rest = told_length n in omega (arith, rest, length-append (told_below shards n) (race_told shards n ∷ []))

  told_at : (n x : ℕ) → x < n → get_or (told_below shards n) x None ≡ race_told shards x
  told_at zero x less = absurd (omega (arith, less))
  told_at (suc n) x less = elim (cases_lt x n) [
    | inl front ↦
        let long = told_length n in
        get_or_append_left (told_below shards n) (race_told shards n ∷ []) None x (omega (arith, front, long)) ∙ told_at n x front
    | inr back ↦
        let last : x ≡ length (told_below shards n) = let long = told_length n in omega (arith, less, back, long) in
        ap (λ y. get_or (told_below shards n ++ race_told shards n ∷ []) y None) last
        ∙ get_or-append_seam (told_below shards n) (race_told shards n) [] None ∙ ap (race_told shards) (sym (told_length n) ∙ sym last)
  ]

  told_are : AreFound (capacity_of declarations) past (told_below shards (count_of Kind.Var declarations))
  told_are x less =
      let declared : x < count_of Kind.Var declarations = let long = told_length (count_of Kind.Var declarations) in omega (arith, less, long) in
      subst (IsFound (capacity_of declarations) past x) (sym (told_at (count_of Kind.Var declarations) x declared)) (told_is x declared)

  -- so all races are told
  pub told_races : All (IsInRange (counts_of declarations)) past
      → AreRaces (capacity_of declarations) past (races_of (told_below shards (count_of Kind.Var declarations)))
  told_races range = are_races (capacity_of declarations) past (told_below shards (count_of Kind.Var declarations)) told_are declared
    where
      declared : (x i j : ℕ) → IsRace (capacity_of declarations) past x i j → x < length (told_below shards (count_of Kind.Var declarations))
      declared x i j race = go race.conflict.1
        where
          go : IsAccessOf past x i → x < length (told_below shards (count_of Kind.Var declarations))
          go (e, at, is) =
              let fit = all_at (IsInRange (counts_of declarations)) past i e range at in
              let below : x < count_of Kind.Var declarations =
              accessed_below e.op (count_of Kind.Var declarations) x (accessed_in_range (counts_of declarations) e.op fit.1) is in
              let long = told_length (count_of Kind.Var declarations) in
              omega (arith, below, long)

  -- what is noted of a declared variable is noted of the events
  pub noted_is : (r : ReportedRace) → IsNotedBy shards (count_of Kind.Var declarations) r → IsNotedRaceOf past r
  noted_is r (less, is) = go (at_below shards (r.var % length shards) (mod_below r.var (length shards) some))
    where
      go : ((s : ShardState) × (slice_get shards (r.var % length shards) ≡ Some s)) → IsNotedRaceOf past r
      go (s, at) =
          let S = stand (r.var % length shards) s at in
          let kept = S.kept r.var (ap (λ n. r.var % n) S.count ∙ sym S.number) (S.places r.var less) in
          notes_are (capacity_of declarations) past r.var kept.touched kept.stamps (kept_of s.variables r.var).noted kept.stands.noted r.first r.second
          (sym (ap (noted_in r.var) at) ∙ is)

-- one variable more, with a race and without
pub told_some : (shards : List ShardState) (n : ℕ) (r : Race) → race_told shards n ≡ Some r
    → races_of (told_below shards (n + 1)) ≡ races_of (told_below shards n) ++ r ∷ []
told_some shards n r is =
    let next : n + 1 ≡ suc n = omega arith in
    ap (λ m. races_of (told_below shards m)) next ∙ filter_map-append (λ (o : Option Race). o) (told_below shards n) (race_told shards n ∷ [])
    ∙ ap (λ o. races_of (told_below shards n) ++ races_of (o ∷ [])) is

pub told_none : (shards : List ShardState) (n : ℕ) → race_told shards n ≡ None
    → races_of (told_below shards (n + 1)) ≡ races_of (told_below shards n)
told_none shards n is =
    let next : n + 1 ≡ suc n = omega arith in
    ap (λ m. races_of (told_below shards m)) next ∙ filter_map-append (λ (o : Option Race). o) (told_below shards n) (race_told shards n ∷ [])
    ∙ ap (λ o. races_of (told_below shards n) ++ races_of (o ∷ [])) is ∙ append-nil (races_of (told_below shards n))

-- the same of races that are noted
pub noted_some : (shards : List ShardState) (n : ℕ) (races : List ReportedRace) (r : ReportedRace)
    → race_told shards n ≡ Some (record { var = r.var; first = r.first.at; second = r.second.at })
    → map race_noted races ≡ map tool.race_of (races_of (told_below shards n))
    → map race_noted (races ++ r ∷ []) ≡ map tool.race_of (races_of (told_below shards (n + 1)))
noted_some shards n races r is same =
    let plain : Race = record { var = r.var; first = r.first.at; second = r.second.at } in
    map-append race_noted races (r ∷ []) ∙ ap (λ rs. rs ++ race_noted r ∷ []) same
    ∙ sym (map-append tool.race_of (races_of (told_below shards n)) (plain ∷ [])) ∙ ap (map tool.race_of) (sym (told_some shards n plain is))
