-- What the word of a select's offers says, offer by offer.
use Rattle.std.proofs.Common.{◌≡◌, ℕ, ◌<◌, ◌-◌, ◌^◌, ◌&&◌, Bool, true, false, if◌then◌else◌, List, [], ◌∷◌, length}
use Rattle.std.proofs.Common.{codes, Some, None, ok_or, Ok, refl, sym, ap, subst, ◌∙◌, arith}
use Rattle.std.proofs.lemmas.{List.Splits.join_with_byte-slice_split, Option.{none-some, same_Some}}
use Rattle.std.{proofs.lemmas.Slice.Eq.bytes_eq-Decides, specs.{List.join_with_byte, Str.bytes_eq}}
use Rattle.race_records.specs.Declarations.{Declaration}
use Rattle.race_requests.specs.declared.request.Offer.{Offer}
use Rattle.race_text.specs.{declared.cause.TextCause.TextCause, Meaning.{chan_in, value_in}, Words.number}
use Rattle.race_text.proofs.{CaseWords.is_chan, CauseLemmas.{then_is, with_is, both_are, same_Ok, ok_or_is}}
use Rattle.race_text.proofs.{OperandWords.{number_spelled, number_within}, PieceWords.{IsWord, is_word}}
use Rattle.race_script.specs.Offers.{SpelledOffer, offer_by, parts_of_offer, offer_spelled, spelled_offer_in, offer_in}
use Rattle.race_script.{specs.Offers.{offers_in, offer_parts, offer_text}, proofs.OfferAgain.offer_is_fine}

-- the parts of an offer as it is spelled
abbrev spelled_parts : SpelledOffer → List (List ℕ)
spelled_parts (chan, None) = codes "recv" ∷ chan ∷ []
spelled_parts (chan, Some value) = codes "send" ∷ chan ∷ value ∷ []

offer_by_is : (parts : List (List ℕ)) (o : SpelledOffer) → offer_by parts ≡ Some o → parts ≡ spelled_parts o
offer_by_is [] o h = absurd (none-some o h)
offer_by_is (w ∷ []) o h = absurd (none-some o h)
offer_by_is (w ∷ chan ∷ []) o h = by (bytes_eq w (codes "recv")) refl h
  where
    by : (b : Bool) → bytes_eq w (codes "recv") ≡ b → (if b then Some (chan, None) else None) ≡ Some o → (w ∷ chan ∷ []) ≡ spelled_parts o
    by true e h = (λ i. (bytes_eq-Decides w (codes "recv")).0 e i ∷ chan ∷ []) ∙ ap spelled_parts (same_Some (chan, None) o h)
    by false e h = absurd (none-some o h)
offer_by_is (w ∷ chan ∷ value ∷ []) o h = by (bytes_eq w (codes "send")) refl h
  where
    by : (b : Bool) → bytes_eq w (codes "send") ≡ b → (if b then Some (chan, Some value) else None) ≡ Some o → (w ∷ chan ∷ value ∷ []) ≡ spelled_parts o
    by true e h = (λ i. (bytes_eq-Decides w (codes "send")).0 e i ∷ chan ∷ value ∷ []) ∙ ap spelled_parts (same_Some (chan, Some value) o h)
    by false e h = absurd (none-some o h)
offer_by_is (w ∷ chan ∷ value ∷ more ∷ others) o h = absurd (none-some o h)

-- an offer with more parts has not its form
pub offer_is_over : (w chan value : List ℕ) (others : List (List ℕ)) → 0 < length others → offer_by (w ∷ chan ∷ value ∷ others) ≡ None
offer_is_over w chan value [] some = absurd (omega (arith, some))
offer_is_over w chan value (more ∷ others) some = refl

module _ (ds : List Declaration) where
  -- an offer as it is spelled
  is_spelled : (o : SpelledOffer) (offer : Offer) → spelled_offer_in ds o ≡ Ok offer
      → (spelled_parts o ≡ offer_parts ds offer) × (offer_is_fine ds offer ≡ true)
  is_spelled (w, None) offer h =
      let a = with_is Offer.Recv (chan_in ds w) offer h in
      let chan = is_chan ds w a.0 a.1 in
      subst (λ o. (spelled_parts (w, None) ≡ offer_parts ds o) × (offer_is_fine ds o ≡ true)) a.2
      ((λ i. codes "recv" ∷ chan.text i ∷ []), (λ i. chan.fits i && true))
  is_spelled (w, Some v) offer h =
      let a = both_are (λ c n. Ok (Offer.Send c n)) (chan_in ds w) (value_in v) offer h in
      let chan = is_chan ds w a.0 a.2 in
      let number_is = ok_or_is (number (2 ^ 64 - 1) v) TextCause.BadNumber a.1 a.3 in
      subst (λ o. (spelled_parts (w, Some v) ≡ offer_parts ds o) × (offer_is_fine ds o ≡ true)) (same_Ok (Offer.Send a.0 a.1) offer a.4) (
        (λ i. codes "send" ∷ chan.text i ∷ number_spelled (2 ^ 64 - 1) v a.1 number_is i ∷ []),
        (λ i. chan.fits i && number_within (2 ^ 64 - 1) v a.1 (omega arith) number_is i),
      )

  -- the piece of an offer
  is_offer : (w : List ℕ) (offer : Offer) → offer_in ds w ≡ Ok offer → (w ≡ offer_text ds offer) × (offer_is_fine ds offer ≡ true)
  is_offer w offer h =
      let a = then_is (spelled_offer_in ds) (ok_or (offer_spelled w) TextCause.BadName) offer h in
      let is = is_spelled a.0 offer a.2 in (
        sym (join_with_byte-slice_split 58 w)
            ∙ ap (join_with_byte 58) (offer_by_is (parts_of_offer w) a.0 (ok_or_is (offer_spelled w) TextCause.BadName a.0 a.1) ∙ is.0),
        is.1,
      )

  -- and the word of all
  pub are_offered : (w : List ℕ) (offers : List Offer) → offers_in ds w ≡ Ok offers → IsWord Offer (offer_in ds) (offer_text ds) (offer_is_fine ds) w offers
  are_offered w offers h = is_word Offer (offer_in ds) (offer_text ds) (offer_is_fine ds) is_offer w offers h
