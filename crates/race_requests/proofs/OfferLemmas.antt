-- A list of offers, read and made longer by its cases and values.
use Rattle.std.proofs.Common.{◌≡◌, ℕ, zero, suc, ◌<◌, ◌≤◌, ◌&&◌, cond, nat_lt, nat_le, Bool, true, false, List, [], ◌∷◌}
use Rattle.std.proofs.Common.{◌++◌, length, map, set, get_or, Option, Some, None, IfSome, IsTrue, slice_get, true≢false}
use Rattle.std.proofs.Common.{refl, sym, ap, ◌∙◌, arith}
use Rattle.std.proofs.lemmas.{Bool.{and_parts, Decides.nat_tests}, Option.none-some}
use Rattle.std.specs.List.{list_all}
use Rattle.race_records.specs.declared.{cases.{TheConstants.MAX_CASES, Case.Case, Dir.Dir}, kind.Kind.Kind}
use Rattle.race_records.specs.{Cases.{kept_chan, kept as kept_case}, Operands.{case_is_in_range, chan_is_in_range}}
use Rattle.race_records.proofs.CaseLemmas.{kept_whole, kept_range}
use Rattle.race_legal.proofs.Searches.{each_passes}
use Rattle.race_requests.specs.{declared.request.{Ask.Ask, Offer.Offer}, Offers.{case_of, chan_of, kept, offer_of}}
use Rattle.race_requests.specs.{Offers.offers_with, Table.offers_of, Choices.branches}
use Rattle.race_requests.specs.Possible.{ask_is_in_range, offer_is_in_range}

pub below_if : (n m : ℕ) → (m ≤ n → false ≡ true) → n < m
below_if n m never = by (nat_lt n m) refl
  where
    by : (b : Bool) → nat_lt n m ≡ b → n < m
    by true test = grind (arith, nat_tests)
    by false test = absurd (true≢false (sym (never (grind (arith, nat_tests)))))

-- there is an offer for each case
pub offers_len : (cases : List Case) (values : List ℕ) → length cases ≤ length values → length (offers_with cases values) ≡ length cases
offers_len [] values few = refl
offers_len (c ∷ cases) [] few = absurd (omega (arith, few))
offers_len (c ∷ cases) (v ∷ values) few = ap suc (offers_len cases values (omega (arith, few)))

-- offer k is that of its case and its value
pub offer_at_is : (cases : List Case) (values : List ℕ) (k : ℕ) (case : Case) → length cases ≤ length values → slice_get cases k ≡ Some case
    → slice_get (offers_with cases values) k ≡ Some (offer_of case (get_or values k 0))
offer_at_is [] values k case few is = absurd (none-some case is)
offer_at_is (c ∷ cases) [] k case few is = absurd (omega (arith, few))
offer_at_is (c ∷ cases) (v ∷ values) zero case few is = ap (λ o. Some (offer_of o v)) (let e : c ≡ case = cc in e)
offer_at_is (c ∷ cases) (v ∷ values) (suc k) case few is = offer_at_is cases values k case (omega (arith, few)) is

-- one more offer, whose value stands behind the others
pub offers_push : (cases : List Case) (values : List ℕ) (case : Case) (value : ℕ) → length cases < length values
    → offers_with (cases ++ case ∷ []) (set values (length cases) value) ≡ offers_with cases values ++ offer_of case value ∷ []
offers_push [] [] case value few = absurd (omega (arith, few))
offers_push [] (v ∷ values) case value few = refl
offers_push (c ∷ cases) [] case value few = absurd (omega (arith, few))
offers_push (c ∷ cases) (v ∷ values) case value few = ap (λ os. offer_of c v ∷ os) (offers_push cases values case value (omega (arith, few)))

case_of_offer : (case : Case) (value : ℕ) → case_of (offer_of case value) ≡ case
case_of_offer case value = by case.dir refl
  where
    by : (d : Dir) → case.dir ≡ d → case_of (elim d [ Dir.Send ↦ Offer.Send case.chan value | Dir.Recv ↦ Offer.Recv case.chan ]) ≡ case
    by Dir.Send is = λ i. record { dir = sym is i; chan = case.chan }
    by Dir.Recv is = λ i. record { dir = sym is i; chan = case.chan }

-- what is kept of an offer is the offer of what is kept of its case
pub kept_offer : (case : Case) (value : ℕ) → offer_of (kept_case case) value ≡ kept (offer_of case value)
kept_offer case value = by case.dir
  where
    by : (d : Dir) → elim d [ Dir.Send ↦ Offer.Send (kept_chan case.chan) value | Dir.Recv ↦ Offer.Recv (kept_chan case.chan) ]
        ≡ kept (elim d [ Dir.Send ↦ Offer.Send case.chan value | Dir.Recv ↦ Offer.Recv case.chan ])
    by Dir.Send = refl
    by Dir.Recv = refl

kept_chan_whole : (chan : Option ℕ) → IfSome chan (λ c. c < 65535) → kept_chan chan ≡ chan
kept_chan_whole chan low = ap (λ (case : Case). case.chan) (kept_whole (record { dir = Dir.Recv; chan = chan }) low)

-- all of an offer is kept where its channel's number is one that a channel can have
pub kept_whole_offer : (offer : Offer) → IfSome (chan_of offer) (λ c. c < 65535) → kept offer ≡ offer
kept_whole_offer (Offer.Send c v) low = ap (λ chan. Offer.Send chan v) (kept_chan_whole c low)
kept_whole_offer (Offer.Recv c) low = ap (λ chan. Offer.Recv chan) (kept_chan_whole c low)

kept_chan_range : (chans : ℕ) (chan : Option ℕ) → chans ≤ 65535 → chan_is_in_range chans (kept_chan chan) ≡ chan_is_in_range chans chan
kept_chan_range chans chan few = kept_range chans (record { dir = Dir.Recv; chan = chan }) few

-- what is kept of an offer is declared exactly where its channel is
pub kept_offer_range : (chans : ℕ) (offer : Offer) → chans ≤ 65535 → offer_is_in_range chans (kept offer) ≡ offer_is_in_range chans offer
kept_offer_range chans (Offer.Send c v) few = kept_chan_range chans c few
kept_offer_range chans (Offer.Recv c) few = kept_chan_range chans c few

-- each offer has its case
pub cases_again : (cases : List Case) (values : List ℕ) → length cases ≤ length values → cases ≡ map case_of (offers_with cases values)
cases_again [] values few = refl
cases_again (c ∷ cases) [] few = absurd (omega (arith, few))
cases_again (c ∷ cases) (v ∷ values) few = λ i. sym (case_of_offer c v) i ∷ cases_again cases values (omega (arith, few)) i

-- Which channels offers name.

pub offers_in_range : (counts : Kind → ℕ) (offers : List Offer) (has_default : Bool) → ask_is_in_range counts (Ask.Select offers has_default) ≡ true
    → list_all (offer_is_in_range (counts Kind.Chan)) offers ≡ true
offers_in_range counts offers has_default is = (and_parts (nat_le (length offers) MAX_CASES) _ is).1

-- each offer's channel is in range
pub offer_in_range : (chans : ℕ) (offers : List Offer) (k : ℕ) → list_all (offer_is_in_range chans) offers ≡ true
    → IfSome (slice_get offers k) (λ o. IsTrue (offer_is_in_range chans o))
offer_in_range chans offers k is = by (slice_get offers k) refl
  where
    by : (o : Option Offer) → slice_get offers k ≡ o → IfSome o (λ o. IsTrue (offer_is_in_range chans o))
    by None there = tt
    by (Some o) there = each_passes (offer_is_in_range chans) offers k o is there

case_in_range : (chans : ℕ) (o : Offer) → offer_is_in_range chans o ≡ true → case_is_in_range chans (case_of o) ≡ true
case_in_range chans (Offer.Send c v) is = is
case_in_range chans (Offer.Recv c) is = is

pub cases_in_range : (chans : ℕ) (offers : List Offer) → list_all (offer_is_in_range chans) offers ≡ true
    → list_all (case_is_in_range chans) (map case_of offers) ≡ true
cases_in_range chans [] is = refl
cases_in_range chans (o ∷ offers) is =
    let parts = and_parts (offer_is_in_range chans o) (list_all (offer_is_in_range chans) offers) is in
    λ i. (case_in_range chans o parts.0 ∙ refl) i && cases_in_range chans offers parts.1 i

-- so is that on which an ask offers to send
pub sent_in_range : (counts : Kind → ℕ) (ask : Ask) (k c v : ℕ) → ask_is_in_range counts ask ≡ true
    → slice_get (offers_of ask) k ≡ Some (Offer.Send (Some c) v) → nat_lt c (counts Kind.Chan) ≡ true
sent_in_range counts (Ask.Select offers has_default) k c v is there =
    each_passes (offer_is_in_range (counts Kind.Chan)) offers k (Offer.Send (Some c) v) (offers_in_range counts offers has_default is) there
sent_in_range counts (Ask.Send None u) zero c v is there = absurd cc
sent_in_range counts (Ask.Send (Some d) u) zero c v is there = ap (λ n. nat_lt n (counts Kind.Chan)) (let same : c ≡ d = cc in same) ∙ is
sent_in_range counts (Ask.Send d u) (suc k) c v is there = absurd (none-some _ there)
sent_in_range counts (Ask.Recv d) zero c v is there = absurd cc
sent_in_range counts (Ask.Recv d) (suc k) c v is there = absurd (none-some _ there)
sent_in_range counts _ k c v is there = absurd (none-some _ there)

-- an ask in range has at most sixteen offers, and one branch more
pub few_branches : (counts : Kind → ℕ) (ask : Ask) → ask_is_in_range counts ask ≡ true → branches ask ≤ 17
few_branches counts (Ask.Select offers has_default) is = by has_default (few (and_parts (nat_le (length offers) MAX_CASES) _ is).0)
  where
    few : nat_le (length offers) 16 ≡ true → length offers ≤ 16
    few test = grind (arith, nat_tests)

    by : (d : Bool) → length offers ≤ 16 → branches (Ask.Select offers d) ≤ 17
    by true le = omega (arith, le)
    by false le = omega (arith, le)
few_branches counts _ is = omega arith

-- what a select does by a branch that is no default's is what the offer does that stands there, if one does
pub by_offer_at : {X : Type 0} (offers : List Offer) (k : ℕ) (o : Option Offer) (by_default : Bool) (x : X) (f : Option Offer → X) → by_default ≡ false
    → slice_get offers k ≡ o → f o ≡ cond by_default x (f (slice_get offers k))
by_offer_at offers k o by_default x f test there = ap f (sym there) ∙ ap (λ b. cond b x (f (slice_get offers k))) (sym test)

pub chan_in_range : (chans : ℕ) (offers : List Offer) (k : ℕ) (o p : Offer) → list_all (offer_is_in_range chans) offers ≡ true
    → slice_get offers k ≡ Some o → o ≡ p → offer_is_in_range chans p ≡ true
chan_in_range chans offers k o p all there is = ap (offer_is_in_range chans) (sym is) ∙ each_passes (offer_is_in_range chans) offers k o all there
