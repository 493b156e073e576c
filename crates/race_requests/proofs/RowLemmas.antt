-- Rows of the table: how one is made, and what one says.
use Rattle.std.proofs.Common.{◌≡◌, ℕ, ◌+◌, ◌<◌, ◌==◌, ◌&&◌, ◌⊎◌, cond, if◌then◌else◌, Bool, true, false, List, length}
use Rattle.std.proofs.Common.{map, slice_get, Option, Some, None, option_map, inl, inr, refl, sym, subst, ap, ◌∙◌}
use Rattle.std.proofs.{Common.arith, lemmas.{Option.slice_get_within, Bool.{and_parts, Decides.{Decides-eqb}}}}
use Rattle.race_records.specs.{Cases.{same_cases, same_cases-Decides}, declared.{cases.Case.Case, event.Op.Op}}
use Rattle.race_records.specs.declared.event.Op.TheVariants.{Default, TryLock, TryRLock, TryFail}
use Rattle.race_requests.specs.{declared.request.{Answer.Answer, Ask.Ask, Offer.Offer}, Offers.case_of, Choices.branches}
use Rattle.race_requests.specs.Table.{IsRow, told_if, told_trier, told_rtrier, told_by, chosen, told_plain, told_offer}
use Rattle.race_requests.specs.Table.{told_selector}

-- where the number is the one that is wanted
pub told_same : (n : ℕ) (a : Option Answer) → told_if (n == n) a ≡ Some a
told_same n a = ap (λ b. told_if b a) ((Decides-eqb n n).1 refl)

pub told_both : (p q : Bool) (a : Option Answer) → p ≡ true → q ≡ true → told_if (p && q) a ≡ Some a
told_both p q a first second = λ i. told_if (first i && second i) a

pub told_same_two : (m n : ℕ) (a : Option Answer) → told_if ((m == m) && (n == n)) a ≡ Some a
told_same_two m n a = told_both (m == m) (n == n) a ((Decides-eqb m m).1 refl) ((Decides-eqb n n).1 refl)

-- where that is told, the test passed
passed : (b : Bool) (a told : Option Answer) → told_if b a ≡ Some told → (b ≡ true) × (told ≡ a)
passed true a told e = (refl, cc)
passed false a told e = absurd cc

pub wanted : (m n : ℕ) (a told : Option Answer) → told_if (m == n) a ≡ Some told → (m ≡ n) × (told ≡ a)
wanted m n a told e = let p = passed (m == n) a told e in ((Decides-eqb m n).0 p.0, p.1)

pub wanted_two : (m n k l : ℕ) (a told : Option Answer) → told_if ((m == n) && (k == l)) a ≡ Some told → (m ≡ n) × (k ≡ l) × (told ≡ a)
wanted_two m n k l a told e =
    let p = passed ((m == n) && (k == l)) a told e in
    let q = and_parts (m == n) (k == l) p.0 in
    ((Decides-eqb m n).0 q.0, (Decides-eqb k l).0 q.1, p.1)

-- a row of an ask that is no select and no try is by branch 0
pub at_first : (k : ℕ) (row : Option (Option Answer)) (told : Option Answer) → k ≡ 0 → row ≡ Some told → (if k == 0 then row else None) ≡ Some told
at_first k row told zero is = ap (λ n. if n == 0 then row else None) zero ∙ is

pub by_first : (k : ℕ) (row : Option (Option Answer)) (told : Option Answer) → (if k == 0 then row else None) ≡ Some told → (k ≡ 0) × (row ≡ Some told)
by_first k row told is = by (k == 0) refl is
  where
    by : (b : Bool) → (k == 0) ≡ b → (if b then row else None) ≡ Some told → (k ≡ 0) × (row ≡ Some told)
    by true zero is = ((Decides-eqb k 0).0 zero, is)
    by false zero is = absurd cc

-- what is told by an offer is what it is told alone, with the offer's number
pub record IsToldAlone (o : Offer) (k : ℕ) (op : Op) (told : Option Answer) : Type 0 where
  pub plain : Option Answer
  pub row : told_plain o op ≡ Some plain
  pub told_is : told ≡ option_map (chosen k) plain

pub told_alone : (o : Offer) (k : ℕ) (op : Op) (told : Option Answer) → told_offer k o op ≡ Some told → IsToldAlone o k op told
told_alone o k op told is = by (told_plain o op) refl is
  where
    by : (row : Option (Option Answer)) → told_plain o op ≡ row → option_map (option_map (chosen k)) row ≡ Some told → IsToldAlone o k op told
    by None row is = absurd cc
    by (Some plain) row is = record { plain = plain; row = row; told_is = cc }

abbrev takes_default : Op → Bool
takes_default (Default cases) = true
takes_default _ = false

alone_is_none : (o : Offer) (op : Op) (told : Option Answer) → told_plain o op ≡ Some told → takes_default op ≡ false
alone_is_none (Offer.Send None v) (Default cases) told e = absurd cc
alone_is_none (Offer.Send (Some c) v) (Default cases) told e = absurd cc
alone_is_none (Offer.Recv None) (Default cases) told e = absurd cc
alone_is_none (Offer.Recv (Some c)) (Default cases) told e = absurd cc
alone_is_none o _ told e = refl

module _ (offers : List Offer) (has_default : Bool) (k : ℕ) where
  -- what is told by offer k
  abbrev by_offer : Op → Option Offer → Option (Option Answer)
  by_offer op o = elim o [ None ↦ None | Some o ↦ told_offer k o op ]

  no_default : (op : Op) → takes_default op ≡ false → told_selector offers has_default k op ≡ by_offer op (slice_get offers k)
  no_default (Default cases) is = absurd cc
  no_default _ is = refl

  -- a select goes on by an offer as who asks that alone
  pub at_offer : (o : Offer) (op : Op) (told : Option Answer) → slice_get offers k ≡ Some o → told_plain o op ≡ Some told
      → IsRow (Ask.Select offers has_default) k op (option_map (chosen k) told)
  at_offer o op told there row =
      no_default op (alone_is_none o op told row) ∙ ap (by_offer op) there ∙ ap (option_map (option_map (chosen k))) row

  -- or by its default
  pub at_default : (has_default && (k == length offers)) ≡ true
      → IsRow (Ask.Select offers has_default) k (Default (map case_of offers)) (Some Answer.DefaultTaken)
  at_default behind =
      told_both (has_default && (k == length offers)) (same_cases (map case_of offers) (map case_of offers)) (Some Answer.DefaultTaken)
      behind ((same_cases-Decides (map case_of offers) (map case_of offers)).1 refl)

  -- it goes on by an offer or by its default
  pub record IsByOffer (op : Op) (told : Option Answer) : Type 0 where
    pub offer : Offer
    pub there : slice_get offers k ≡ Some offer
    pub alone : IsToldAlone offer k op told

  pub record IsByDefault (op : Op) (told : Option Answer) : Type 0 where
    pub has : has_default ≡ true
    pub behind : k ≡ length offers
    pub did : op ≡ Default (map case_of offers)
    pub told_is : told ≡ Some Answer.DefaultTaken

  by_offers : (o : Option Offer) (op : Op) (told : Option Answer) → slice_get offers k ≡ o → by_offer op o ≡ Some told → IsByOffer op told
  by_offers None op told there e = absurd cc
  by_offers (Some o) op told there e = record { offer = o; there = there; alone = told_alone o k op told e }

  by_default : (cases : List Case) (told : Option Answer)
      → told_if ((has_default && (k == length offers)) && same_cases cases (map case_of offers)) (Some Answer.DefaultTaken) ≡ Some told
      → IsByDefault (Default cases) told
  by_default cases told e =
      let p = passed ((has_default && (k == length offers)) && same_cases cases (map case_of offers)) (Some Answer.DefaultTaken) told e in
      let q = and_parts (has_default && (k == length offers)) (same_cases cases (map case_of offers)) p.0 in
      let r = and_parts has_default (k == length offers) q.0 in
      record {
        has = r.0;
        behind = (Decides-eqb k (length offers)).0 r.1;
        did = ap Default ((same_cases-Decides cases (map case_of offers)).0 q.1);
        told_is = p.1;
      }

  pub by_either : (op : Op) (told : Option Answer) → IsRow (Ask.Select offers has_default) k op told → IsByOffer op told ⊎ IsByDefault op told
  by_either op told row = by op (takes_default op) refl row
    where
      by : (op : Op) (takes : Bool) → takes_default op ≡ takes → told_selector offers has_default k op ≡ Some told → IsByOffer op told ⊎ IsByDefault op told
      by op false is row = inl (by_offers (slice_get offers k) op told refl (sym (no_default op is) ∙ row))
      by (Default cases) true is row = inr (by_default cases told row)
      by _ true is row = absurd cc

try_branch : (k branch m l : ℕ) (a told : Option Answer) → told_if ((k == branch) && (m == l)) a ≡ Some told → branch < 2 → k < 2
try_branch k branch m l a told row less = let is = wanted_two k branch m l a told row in omega (arith, is.0, less)

trier_branch : (l k : ℕ) (op : Op) (told : Option Answer) → told_trier l k op ≡ Some told → k < 2
trier_branch l k (TryLock m) told row = try_branch k 0 m l _ told row (omega arith)
trier_branch l k (TryFail m) told row = try_branch k 1 m l _ told row (omega arith)
trier_branch l k _ told row = absurd cc

rtrier_branch : (l k : ℕ) (op : Op) (told : Option Answer) → told_rtrier l k op ≡ Some told → k < 2
rtrier_branch l k (TryRLock m) told row = try_branch k 0 m l _ told row (omega arith)
rtrier_branch l k (TryFail m) told row = try_branch k 1 m l _ told row (omega arith)
rtrier_branch l k _ told row = absurd cc

-- a row is by one of the branches of its ask
pub branch_within : (ask : Ask) (k : ℕ) (op : Op) (told : Option Answer) → IsRow ask k op told → k < branches ask
branch_within (Ask.Select offers has_default) k op told row = elim (by_either offers has_default k op told row) [
  | inl is ↦ let within = slice_get_within offers k is.offer is.there in omega (arith, within)
  | inr is ↦ let behind = is.behind in subst (λ b. k < length offers + cond b 1 0) (sym is.has) (omega (arith, behind))
]
branch_within (Ask.TryLock l) k op told row = trier_branch l k op told row
branch_within (Ask.TryRLock l) k op told row = rtrier_branch l k op told row
branch_within ask k op told row = let branch = (by_first k (told_by ask op) told row).0 in omega (arith, branch)
