-- What is printed of a select's offers says them again.
use Rattle.std.proofs.Common.{◌≡◌, ℕ, ◌-◌, ◌<◌, ◌==◌, ◌&&◌, ◌^◌, Bool, true, false, not, nat_lt, nat_le, List, [], ◌∷◌}
use Rattle.std.proofs.{Common.{length, codes, ok_or, Ok, refl, ap, ◌∙◌, arith}, lemmas.Bool.Decides.nat_tests}
use Rattle.std.{proofs.lemmas.{Fmt.decimal_is_IsNumeral, Str.Parse.digit_from_value}, specs.Fmt.decimal}
use Rattle.std.specs.{List.{list_all, AllByRecursion, join_with_byte}, Str.{bytes_eq, Parse.AllDigits}}
use Rattle.race_records.specs.{declared.{cases.TheConstants.MAX_CASES, kind.Kind.Kind}, Declarations.Declaration}
use Rattle.race_records.specs.{Declarations.{DeclsState, IsWellFormed, count_of}, Name.{is_name_byte, is_place_byte}}
use Rattle.race_requests.specs.{declared.request.Offer.Offer, Possible.offer_is_in_range}
use Rattle.race_text.specs.{declared.cause.TextCause.TextCause, Least.{then_says, says_by, both_say}, Meaning.value_in}
use Rattle.race_text.{specs.{Select.no_cases, Text.chan_text}, proofs.CaseWords.{chan_again, chan_bytes}}
use Rattle.race_text.proofs.{NumberLemmas.number-some, PieceWords.{is_case_byte, joined_all, each_weaken, each_without}}
use Rattle.race_text.proofs.{PieceWords.{word_visible, word_again}, WordLemmas.both, WordsAgain.split_again}
use Rattle.race_script.specs.Offers.{offer_by, spelled_offer_in, offer_in, offers_in, offer_parts, offer_text}
use Rattle.race_script.specs.{Offers.offers_text, Program.offer_is_limited}

-- a byte of a part of an offer: one that can be seen, no comma and no colon
abbrev is_part_byte : ℕ → Bool
is_part_byte b = is_case_byte b && not (b == 58)

name_byte_is_fine : (b : ℕ) → is_name_byte b ≡ true → is_part_byte b ≡ true
name_byte_is_fine b h = grind (arith, nat_tests)

part_byte_is_fine : (b : ℕ) → is_part_byte b ≡ true → is_case_byte b ≡ true
part_byte_is_fine b h = (both (is_case_byte b) (not (b == 58)) h).0

no_colon : (b : ℕ) → is_part_byte b ≡ true → (b == 58) ≡ false
no_colon b h = grind (arith, nat_tests)

digits_are_fine : (word : List ℕ) → AllDigits 10 word → list_all is_part_byte word ≡ true
digits_are_fine [] h = refl
digits_are_fine (b ∷ bs) h = let d = digit_from_value b h.0 in
    let v : is_part_byte b ≡ true = grind (arith, nat_tests, d.0, d.1) in λ i. v i && digits_are_fine bs h.1 i

-- an offer of these declarations with a value in its limit
abbrev pub offer_is_fine : List Declaration → Offer → Bool
offer_is_fine ds offer = offer_is_in_range (count_of Kind.Chan ds) offer && offer_is_limited offer

module _ (decls : DeclsState) (holds : IsWellFormed decls) where
  abbrev ds : List Declaration
  ds = decls.declarations

  -- what is printed of a value says the value
  value_again : (v : ℕ) → nat_lt v (2 ^ 64) ≡ true → (value_in (decimal v) ≡ Ok v) × (list_all is_part_byte (decimal v) ≡ true)
  value_again v fit =
      let low : v < 2 ^ 64 = grind (arith, nat_tests, fit) in (
        ap (λ o. ok_or o TextCause.BadNumber) (number-some (2 ^ 64 - 1) v (decimal v) (omega arith) (omega (arith, low)) refl),
        digits_are_fine (decimal v) (decimal_is_IsNumeral v low).0.1,
      )

  -- and of an offer
  offer_again : (offer : Offer) → offer_is_fine ds offer ≡ true
      → (offer_in ds (offer_text ds offer) ≡ Ok offer) × (list_all is_case_byte (offer_text ds offer) ≡ true)
  offer_again offer fine = by offer (both (offer_is_in_range (count_of Kind.Chan ds) offer) (offer_is_limited offer) fine)
    where
      by : (offer : Offer) → (offer_is_in_range (count_of Kind.Chan ds) offer ≡ true) × (offer_is_limited offer ≡ true)
          → (offer_in ds (offer_text ds offer) ≡ Ok offer) × (list_all is_case_byte (offer_text ds offer) ≡ true)
      by (Offer.Send c v) fits =
          let parts = offer_parts ds (Offer.Send c v) in
          let value = value_again v fits.1 in
          let fine : AllByRecursion (λ w. list_all is_part_byte w ≡ true) parts =
          (refl, (chan_bytes decls holds is_part_byte refl name_byte_is_fine c fits.0, (value.1, tt))) in (
            ap (λ words. then_says (spelled_offer_in ds) (ok_or (offer_by words) TextCause.BadName))
                (split_again 58 refl (codes "send") (chan_text ds c ∷ decimal v ∷ []) (each_without is_part_byte 58 no_colon parts fine))
                ∙ (λ i. both_say (λ chan value. Ok (Offer.Send chan value)) (chan_again decls holds c fits.0 i) (value.0 i)),
            joined_all is_case_byte 58 refl parts (each_weaken is_part_byte is_case_byte part_byte_is_fine parts fine),
          )
      by (Offer.Recv c) fits =
          let parts = offer_parts ds (Offer.Recv c) in
          let fine : AllByRecursion (λ w. list_all is_part_byte w ≡ true) parts =
          (refl, (chan_bytes decls holds is_part_byte refl name_byte_is_fine c fits.0, tt)) in (
            ap (λ words. then_says (spelled_offer_in ds) (ok_or (offer_by words) TextCause.BadName))
                (split_again 58 refl (codes "recv") (chan_text ds c ∷ []) (each_without is_part_byte 58 no_colon parts fine))
                ∙ ap (says_by Offer.Recv) (chan_again decls holds c fits.0),
            joined_all is_case_byte 58 refl parts (each_weaken is_part_byte is_case_byte part_byte_is_fine parts fine),
          )

  -- and of all offers
  pub offers_visible : (offers : List Offer) → list_all (offer_is_fine ds) offers ≡ true → list_all is_place_byte (offers_text ds offers) ≡ true
  offers_visible offers fine = word_visible Offer (offer_in ds) (offer_text ds) (offer_is_fine ds) offer_again offers fine

  -- offers are no hyphen
  no_hyphen : (offer : Offer) (ws : List (List ℕ)) → bytes_eq (join_with_byte 44 (offer_text ds offer ∷ ws)) no_cases ≡ false
  no_hyphen (Offer.Send c v) [] = refl
  no_hyphen (Offer.Send c v) (w ∷ ws) = refl
  no_hyphen (Offer.Recv c) [] = refl
  no_hyphen (Offer.Recv c) (w ∷ ws) = refl

  pub offers_again : (offers : List Offer) → list_all (offer_is_fine ds) offers ≡ true → nat_le (length offers) MAX_CASES ≡ true
      → offers_in ds (offers_text ds offers) ≡ Ok offers
  offers_again offers fine few = word_again Offer (offer_in ds) (offer_text ds) (offer_is_fine ds) offer_again no_hyphen offers fine few
