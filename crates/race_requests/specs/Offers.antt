-- What offers say, what the parts of a list of them stand for, and which lists are equal. (The Go Programming Language
-- Specification, "Select statements")
use Rattle.std.proofs.Common.{◌≡◌, ℕ, ◌==◌, ◌&&◌, Bool, true, false, List, [], ◌∷◌, Option, Some, None, Decides, refl}
use Rattle.std.proofs.{Common.{sym, ap, true≢false}, lemmas.{Bool.Decides.Decides-eqb, Slice.Eq.slice_eq-Decides}}
use Rattle.std.specs.Cmp.{IsEquivalence, IsPartialEquivalence, partial_equiv_from_equiv, decided}
use Rattle.std.specs.Cmp.Lexicographic.{pointwise}
use Rattle.race_records.specs.{declared.cases.{Case.Case, Dir.Dir}, Cases.{kept_chan, same_chan}}
use Rattle.race_requests.specs.declared.request.Offer.{Offer}

-- the channel of an offer
abbrev pub chan_of : Offer → Option ℕ
chan_of (Offer.Send c v) = c
chan_of (Offer.Recv c) = c

-- the case of an offer: what it would do, with which channel
abbrev pub case_of : Offer → Case
case_of (Offer.Send c v) = record { dir = Dir.Send; chan = c }
case_of (Offer.Recv c) = record { dir = Dir.Recv; chan = c }

-- what is kept of an offer: all of it, where its channel's number is below 65,535
abbrev pub kept : Offer → Offer
kept (Offer.Send c v) = Offer.Send (kept_chan c) v
kept (Offer.Recv c) = Offer.Recv (kept_chan c)

-- the offer of a case, where a send would send the value
abbrev pub offer_of : Case → ℕ → Offer
offer_of case value = elim case.dir [ Dir.Send ↦ Offer.Send case.chan value | Dir.Recv ↦ Offer.Recv case.chan ]

-- the offers of the cases, each with its value
abbrev pub offers_with : List Case → List ℕ → List Offer
offers_with (case ∷ cases) (value ∷ values) = offer_of case value ∷ offers_with cases values
offers_with _ _ = []

-- the two would do the same
abbrev pub same_offer : Offer → Offer → Bool
same_offer (Offer.Send c v) (Offer.Send d w) = same_chan c d && (v == w)
same_offer (Offer.Recv c) (Offer.Recv d) = same_chan c d
same_offer _ _ = false

-- the offers are the same, in the same order
abbrev pub same_offers : List Offer → List Offer → Bool
same_offers offers others = pointwise same_offer offers others

same_chan-Decides : (a b : Option ℕ) → Decides (same_chan a b) (a ≡ b)
same_chan-Decides None None = (λ _. refl, λ _. refl)
same_chan-Decides (Some c) (Some d) = (λ e. ap Some ((Decides-eqb c d).0 e), λ e. (Decides-eqb c d).1 cc)
same_chan-Decides _ _ = (λ e. absurd (true≢false (sym e)), λ e. cc)

abbrev value_in : Offer → ℕ
value_in (Offer.Send c v) = v
value_in (Offer.Recv c) = 0

same_offer-Decides : (a b : Offer) → Decides (same_offer a b) (a ≡ b)
same_offer-Decides (Offer.Send c v) (Offer.Send d w) = by (same_chan c d) (v == w) (same_chan-Decides c d) (Decides-eqb v w)
  where
    by : (m n : Bool) → Decides m (c ≡ d) → Decides n (v ≡ w) → Decides (m && n) (Offer.Send c v ≡ Offer.Send d w)
    by true true p q = (λ _ i. Offer.Send (p.0 refl i) (q.0 refl i), λ _. refl)
    by false n p q = (λ h. absurd (true≢false (sym h)), λ h. absurd (true≢false (sym (p.1 (ap chan_of h)))))
    by true false p q = (λ h. absurd (true≢false (sym h)), λ h. absurd (true≢false (sym (q.1 (ap value_in h)))))
same_offer-Decides (Offer.Recv c) (Offer.Recv d) = (λ e. ap Offer.Recv ((same_chan-Decides c d).0 e), λ h. (same_chan-Decides c d).1 (ap chan_of h))
same_offer-Decides _ _ = (λ e. absurd (true≢false (sym e)), λ e. cc)

-- equal lists of offers are the same, and those alone
pub same_offers-Decides : (offers others : List Offer) → Decides (same_offers offers others) (offers ≡ others)
same_offers-Decides offers others = slice_eq-Decides {E = same_offer} same_offer-Decides offers others (same_offers offers others) refl

pub same_offers_equivalence : IsEquivalence same_offers
same_offers_equivalence = decided same_offers same_offers-Decides

pub same_offers_laws : IsPartialEquivalence same_offers
same_offers_laws = partial_equiv_from_equiv same_offers_equivalence
