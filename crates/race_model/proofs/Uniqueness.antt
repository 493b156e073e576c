-- A variable has one reported race, and a list of events one verdict.
use Rattle.std.proofs.Common.{◌≡◌, ◌≢◌, ℕ, zero, suc, ◌<◌, ◌≤◌, List, [], ◌∷◌, Some, None, take, slice_get, refl, sym}
use Rattle.std.proofs.{Common.{ap, ◌∙◌, subst, inl, inr, arith, le_antisymm, take-take}, lemmas.Bool.cases_order}
use Rattle.race_records.specs.declared.event.Event.{Event}
use Rattle.race_model.specs.{Events.At, Legal.{broken, IsLegal, IsIllegalAt}, Race.{RaceBy, IsReportedBy}}
use Rattle.race_model.specs.{Race.{IsDataRaceFree, IsReportedRace}, Verdict.{Race, Verdict, Illegal, Clean, Races}}
use Rattle.race_model.{specs.Verdict.{AreReportedRaces, IsVerdict}, proofs.Indexes.{at_same, slice_get-take}}

-- whatever the order, one pair at most is reported
pub reported_unique : {conflicts ordered : ℕ → ℕ → Type 0} (i j k m : ℕ) → IsReportedBy conflicts ordered i j → IsReportedBy conflicts ordered k m
    → (i ≡ k) × (j ≡ m)
reported_unique {conflicts} {ordered} i j k m p q = (le_antisymm i_le k_le, later)
  where
    later : j ≡ m
    later = le_antisymm (p.least k m q.in_order q.race) (q.least i j p.in_order p.race)

    k_le : k ≤ i
    k_le = p.greatest k (subst (λ n. k < n) (sym later) q.in_order) (subst (RaceBy conflicts ordered k) (sym later) q.race)

    i_le : i ≤ k
    i_le = q.greatest i (subst (λ n. i < n) later p.in_order) (subst (RaceBy conflicts ordered i) later p.race)

-- behind a legal front the first broken event isn't earlier
pub legal_front : (caps : ℕ → ℕ) (events : List Event) (i j n : ℕ) (e : Event) → At events i e → broken caps (take i events) e ≡ Some n
    → IsLegal caps (take j events) → i < j → ⊥
legal_front caps events i j n e at is legal less =
    let front : take i (take j events) ≡ take i events = take-take i j events (omega arith) in
    let none : broken caps (take i events) e ≡ None = subst (λ past. broken caps past e ≡ None) front (legal i e (slice_get-take j events i less ∙ at)) in
    cc

-- one event is the first that breaks a rule, and one rule the least
pub illegal_unique : (caps : ℕ → ℕ) (events : List Event) (i n j m : ℕ) → IsIllegalAt caps events i n → IsIllegalAt caps events j m → (i ≡ j) × (n ≡ m)
illegal_unique caps events i n j m (e, ate, ise, legal_e) (s, ats, iss, legal_s) = elim (cases_order i j) [
  | inl same ↦ (same, rule same)
  | inr (inl less) ↦ absurd (legal_front caps events i j n e ate ise legal_s less)
  | inr (inr more) ↦ absurd (legal_front caps events j i m s ats iss legal_e more)
]
  where
    rule : i ≡ j → n ≡ m
    rule same =
        let one : e ≡ s = at_same events i e s ate (ap (slice_get events) same ∙ ats) in
        let is : broken caps (take i events) e ≡ Some m = same_both same one ∙ iss in
        cc
      where
        same_both : i ≡ j → e ≡ s → broken caps (take i events) e ≡ broken caps (take j events) s
        same_both p q = ap (λ i. broken caps (take i events) e) p ∙ ap (broken caps (take j events)) q

-- an illegal list is not legal
pub illegal_not_legal : (caps : ℕ → ℕ) (events : List Event) (i n : ℕ) → IsIllegalAt caps events i n → IsLegal caps events → ⊥
illegal_not_legal caps events i n (e, at, is, front) legal = let none : broken caps (take i events) e ≡ None = legal i e at in cc

-- races are equal where their parts are
pub same_race : (r s : Race) → r.var ≡ s.var → r.first ≡ s.first → r.second ≡ s.second → r ≡ s
same_race r s v f g = λ i. record { var = v i; first = f i; second = g i }

-- two lists in rising order that hold the same races are one list
pub record Rises (races : List Race) : Type 0 where
  pub up : (k m : ℕ) (r s : Race) → k < m → slice_get races k ≡ Some r → slice_get races m ≡ Some s → r.var < s.var

-- each race of one list stands in the other
abbrev pub IsPartOf : List Race → List Race → Type 0
IsPartOf races others = (k : ℕ) (r : Race) → slice_get races k ≡ Some r → (m : ℕ) × (slice_get others m ≡ Some r)

rises_behind : (r : Race) (races : List Race) → Rises (r ∷ races) → Rises races
rises_behind r races p = record { up = λ k m a b less atk atm. p.up (suc k) (suc m) a b (omega arith) atk atm }

part_behind : (r : Race) (races others : List Race) → Rises (r ∷ races) → IsPartOf (r ∷ races) (r ∷ others) → IsPartOf races others
part_behind r races others p part k s at = go (part (suc k) s at)
  where
    up : r.var < s.var
    up = p.up 0 (suc k) r s (omega arith) refl at

    go : ((m : ℕ) × (slice_get (r ∷ others) m ≡ Some s)) → (m : ℕ) × (slice_get others m ≡ Some s)
    go (zero, atm) = let same : r ≡ s = cc in let vars : r.var ≡ s.var = ap (λ (r : Race). r.var) same in absurd (omega (arith, up))
    go (suc m, atm) = (m, atm)

same_head : (r s : Race) (races others : List Race) → Rises (r ∷ races) → Rises (s ∷ others)
    → ((m : ℕ) × (slice_get (s ∷ others) m ≡ Some r)) → ((k : ℕ) × (slice_get (r ∷ races) k ≡ Some s)) → r ≡ s
same_head r s races others p q (zero, at) (k, atk) = cc
same_head r s races others p q (suc m, at) (zero, atk) = cc
same_head r s races others p q (suc m, at) (suc k, atk) =
    let up : r.var < s.var = p.up 0 (suc k) r s (omega arith) refl atk in
    let down : s.var < r.var = q.up 0 (suc m) s r (omega arith) refl at in
    absurd (omega arith)

-- then they are one list
pub same_rising : (races others : List Race) → Rises races → Rises others → IsPartOf races others → IsPartOf others races → races ≡ others
same_rising [] [] p q a b = refl
same_rising [] (s ∷ others) p q a b = let none : (m : ℕ) × (slice_get {X = Race} [] m ≡ Some s) = b 0 s refl in let e = none.1 in cc
same_rising (r ∷ races) [] p q a b = let none : (m : ℕ) × (slice_get {X = Race} [] m ≡ Some r) = a 0 r refl in let e = none.1 in cc
same_rising (r ∷ races) (s ∷ others) p q a b =
    go (same_head r s races others p q (a 0 r refl) (b 0 s refl)) (same_rising races others (rises_behind r races p) (rises_behind s others q))
  where
    go : r ≡ s → (IsPartOf races others → IsPartOf others races → races ≡ others) → r ∷ races ≡ s ∷ others
    go head rest =
        let a' : IsPartOf (r ∷ races) (r ∷ others) = subst (λ s. IsPartOf (r ∷ races) (s ∷ others)) (sym head) a in
        let b' : IsPartOf (s ∷ others) (s ∷ races) = subst (λ r. IsPartOf (s ∷ others) (r ∷ races)) head b in
        let tail : races ≡ others = rest (part_behind r races others p a') (part_behind s others races q b') in
        cc

-- each reported race of one list stands in the other
pub races_part : (caps : ℕ → ℕ) (events : List Event) (races others : List Race) → AreReportedRaces caps events races → AreReportedRaces caps events others
    → IsPartOf races others
races_part caps events races others p q k r at = go (q.every r.var r.first r.second (p.each k r at).race)
  where
    go : ((m : ℕ) × (s : Race) × (slice_get others m ≡ Some s) × (s.var ≡ r.var)) → (m : ℕ) × (slice_get others m ≡ Some r)
    go (m, s, atm, var) = (m, atm ∙ ap Some (same_race s r var (sym same.0) (sym same.1)))
      where
        same : (r.first ≡ s.first) × (r.second ≡ s.second)
        same = reported_unique r.first r.second s.first s.second (p.each k r at)
            (subst (λ x. IsReportedRace caps events x s.first s.second) var (q.each m s atm))

-- where races are listed, one is there
pub not_free : (caps : ℕ → ℕ) (events : List Event) (races : List Race) → races ≢ [] → AreReportedRaces caps events races → IsDataRaceFree caps events → ⊥
not_free caps events [] some are free = some refl
not_free caps events (r ∷ races) some are free = free r.var r.first r.second (are.each 0 r refl).race

-- a list of events has one verdict at most
pub verdict_unique : (caps : ℕ → ℕ) (events : List Event) (v w : Verdict) → IsVerdict caps events v → IsVerdict caps events w → v ≡ w
verdict_unique caps events (Illegal i n) (Illegal j m) p q = let same : (i ≡ j) × (n ≡ m) = illegal_unique caps events i n j m p q in cc
verdict_unique caps events (Illegal i n) Clean p q = absurd (illegal_not_legal caps events i n p q.0)
verdict_unique caps events (Illegal i n) (Races races) p q = absurd (illegal_not_legal caps events i n p q.0)
verdict_unique caps events Clean (Illegal i n) p q = absurd (illegal_not_legal caps events i n q p.0)
verdict_unique caps events Clean Clean p q = refl
verdict_unique caps events Clean (Races races) p q = absurd (not_free caps events races q.1 q.2 p.1)
verdict_unique caps events (Races races) (Illegal i n) p q = absurd (illegal_not_legal caps events i n q p.0)
verdict_unique caps events (Races races) Clean p q = absurd (not_free caps events races p.1 p.2 q.1)
verdict_unique caps events (Races races) (Races others) p q =
    ap Races (same_rising races others (record { up = p.2.rising }) (record { up = q.2.rising })
    (races_part caps events races others p.2 q.2) (races_part caps events others races q.2 p.2))
