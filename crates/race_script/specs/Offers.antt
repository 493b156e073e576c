-- The line of a select: its offers, its mode and its place. How they are spelled, what they say or what is wrong with them, and how they are printed.
use Rattle.std.specs.Prelude.{ℕ, ◌==◌, Bool, true, false, if◌then◌else◌, List, [], ◌∷◌, codes, Option, Some, None}
use Rattle.std.specs.{Prelude.{ok_or, Result, Ok, Err}, Fmt.decimal, List.{slice_split, join_with_byte}}
use Rattle.std.specs.{Option.option_map, Borrow.Bor, Str.bytes_eq}
use Rattle.race_records.specs.Declarations.{Declaration}
use Rattle.race_requests.specs.declared.request.{Ask.Ask, Offer.Offer}
use Rattle.race_text.specs.{declared.cause.TextCause.TextCause, Least.{then_says, says_by, both_say}}
use Rattle.race_text.specs.{Meaning.{value_in, chan_in, pieces_in}, Text.{chan_text, pieces_text}}
use Rattle.race_script.specs.declared.offers.SelectWords.{SelectWords as ReadWords}

-- the words behind `select`
pub record SelectWords : Type 0 where
  pub offers : List ℕ
  pub mode : List ℕ
  pub place : List ℕ

-- there are three
abbrev pub select_words : List (List ℕ) → Option SelectWords
select_words (offers ∷ mode ∷ place ∷ []) = Some (record { offers = offers; mode = mode; place = place })
select_words _ = None

-- what the words in the code stand for
abbrev pub words_read : ReadWords → SelectWords
words_read words = record { offers = words.offers.now; mode = words.mode.now; place = words.place.now }

-- an offer as it is spelled: the word of its channel and, where it would send, the word of its value
abbrev pub SpelledOffer : Type 0
SpelledOffer = List ℕ × Option (List ℕ)

abbrev pub spelled_read : Bor (List ℕ) × Option (Bor (List ℕ)) → SpelledOffer
spelled_read spelled = (spelled.0.now, option_map (λ value. value.now) spelled.1)

-- by its parts
abbrev pub offer_by : List (List ℕ) → Option SpelledOffer
offer_by (word ∷ chan ∷ []) = if bytes_eq word (codes "recv") then Some (chan, None) else None
offer_by (word ∷ chan ∷ value ∷ []) = if bytes_eq word (codes "send") then Some (chan, Some value) else None
offer_by _ = None

-- the parts of an offer: it is cut at every colon
abbrev pub parts_of_offer : List ℕ → List (List ℕ)
parts_of_offer piece = slice_split (λ byte. byte == 58) piece

abbrev pub offer_spelled : List ℕ → Option SpelledOffer
offer_spelled piece = offer_by (parts_of_offer piece)

-- an offer of a receive, or of a send of a value
abbrev pub spelled_offer_in : List Declaration → SpelledOffer → Result Offer TextCause
spelled_offer_in ds (chan, None) = says_by Offer.Recv (chan_in ds chan)
spelled_offer_in ds (chan, Some value) = both_say (λ c v. Ok (Offer.Send c v)) (chan_in ds chan) (value_in value)

-- one offer
abbrev pub offer_in : List Declaration → List ℕ → Result Offer TextCause
offer_in ds piece = then_says (spelled_offer_in ds) (ok_or (offer_spelled piece) TextCause.BadName)

-- the offers of a select
abbrev pub offers_in : List Declaration → List ℕ → Result (List Offer) TextCause
offers_in ds w = pieces_in (offer_in ds) w

-- the mode says whether there is a default
abbrev pub mode_in : List ℕ → Result Bool TextCause
mode_in w = if bytes_eq w (codes "default") then Ok true else (if bytes_eq w (codes "block") then Ok false else Err TextCause.BadName)

-- what the words of offers and of a mode ask
abbrev pub select_in : List Declaration → SelectWords → Result Ask TextCause
select_in ds w = both_say (λ offers has_default. Ok (Ask.Select offers has_default)) (offers_in ds w.offers) (mode_in w.mode)

-- the parts of an offer, printed: what it would do, its channel, and the value that it would send
abbrev pub offer_parts : List Declaration → Offer → List (List ℕ)
offer_parts ds (Offer.Send c v) = codes "send" ∷ chan_text ds c ∷ decimal v ∷ []
offer_parts ds (Offer.Recv c) = codes "recv" ∷ chan_text ds c ∷ []

-- an offer, with colons between its parts
abbrev pub offer_text : List Declaration → Offer → List ℕ
offer_text ds offer = join_with_byte 58 (offer_parts ds offer)

-- the offers of a select
abbrev pub offers_text : List Declaration → List Offer → List ℕ
offers_text ds offers = pieces_text (offer_text ds) offers

-- whether there is a default
abbrev pub mode_text : Bool → List ℕ
mode_text true = codes "default"
mode_text false = codes "block"
