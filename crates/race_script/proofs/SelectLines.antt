-- The words of a select: what they ask, and that no cause holds of them.
use Rattle.std.proofs.Common.{◌≡◌, ℕ, ◌<◌, ◌&&◌, Bool, true, false, if◌then◌else◌, nat_le, List, [], ◌∷◌, length, codes}
use Rattle.std.proofs.Common.{Option, Some, None, Ok, Err, refl, sym, ap, subst, ◌∙◌, arith}
use Rattle.std.{proofs.lemmas.{Option.{none-some, same_Some}, Slice.Eq.bytes_eq-Decides}, specs.List.list_all}
use Rattle.std.specs.Str.{bytes_eq}
use Rattle.race_records.specs.{declared.{cases.TheConstants.MAX_CASES, kind.Kind.Kind}, Declarations.Declaration}
use Rattle.race_records.specs.Declarations.{DeclsState, IsWellFormed, count_of, counts_of}
use Rattle.race_records.specs.Name.{is_place, is_place_byte}
use Rattle.race_requests.specs.{declared.request.{Ask.Ask, Offer.Offer}, Possible.offer_is_in_range}
use Rattle.race_text.specs.{declared.cause.TextCause.TextCause, Least.both_say, Meaning.place_in}
use Rattle.race_text.proofs.{CauseLemmas.{both_are, ok-err, same_Ok}, CleanLemmas.place_is_visible, WordLemmas.both}
use Rattle.race_text.proofs.WordsAgain.{AreVisible}
use Rattle.race_script.specs.Offers.{SelectWords, select_words, mode_in, offers_in, select_in, offers_text, mode_text}
use Rattle.race_script.specs.{Program.{Instruction, offer_is_limited, ask_fits}, Reading.{asked_at, selected_in}}
use Rattle.race_script.proofs.{OfferAgain.{offer_is_fine, offers_visible, offers_again}, OfferWords.are_offered}

-- three words stand behind `select`, and no more
select_words_are : (words : List (List ℕ)) (w : SelectWords) → select_words words ≡ Some w → words ≡ w.offers ∷ w.mode ∷ w.place ∷ []
select_words_are [] w h = absurd (none-some w h)
select_words_are (a ∷ []) w h = absurd (none-some w h)
select_words_are (a ∷ b ∷ []) w h = absurd (none-some w h)
select_words_are (a ∷ b ∷ c ∷ []) w h = ap (λ (x : SelectWords). x.offers ∷ x.mode ∷ x.place ∷ []) (same_Some (record { offers = a; mode = b; place = c }) w h)
select_words_are (a ∷ b ∷ c ∷ d ∷ more) w h = absurd (none-some w h)

pub words_are_over : (a b c : List ℕ) (others : List (List ℕ)) → 0 < length others → select_words (a ∷ b ∷ c ∷ others) ≡ None
words_are_over a b c [] some = absurd (omega (arith, some))
words_are_over a b c (d ∷ more) some = refl

-- the word of a place
place_is : (w place : List ℕ) → place_in w ≡ Ok place → (w ≡ place) × (is_place place ≡ true)
place_is w place h = by (is_place w) refl h
  where
    by : (b : Bool) → is_place w ≡ b → (if b then Ok w else Err TextCause.BadName) ≡ Ok place → (w ≡ place) × (is_place place ≡ true)
    by true form h = let same = same_Ok w place h in (same, ap is_place (sym same) ∙ form)
    by false form h = absurd (ok-err place TextCause.BadName (sym h))

-- offers that are fine are in range, and in their limits
all_fine : (ds : List Declaration) (offers : List Offer) → list_all (offer_is_fine ds) offers ≡ true
    → (list_all (offer_is_in_range (count_of Kind.Chan ds)) offers ≡ true) × (list_all offer_is_limited offers ≡ true)
all_fine ds [] fine = (refl, refl)
all_fine ds (offer ∷ offers) fine =
    let all = both (offer_is_fine ds offer) (list_all (offer_is_fine ds) offers) fine in
    let one = both (offer_is_in_range (count_of Kind.Chan ds) offer) (offer_is_limited offer) all.0 in
    let others = all_fine ds offers all.1 in
    ((λ i. one.0 i && others.0 i), (λ i. one.1 i && others.1 i))

are_fine : (ds : List Declaration) (offers : List Offer) → list_all (offer_is_in_range (count_of Kind.Chan ds)) offers ≡ true
    → list_all offer_is_limited offers ≡ true → list_all (offer_is_fine ds) offers ≡ true
are_fine ds [] range limited = refl
are_fine ds (offer ∷ offers) range limited =
    let a = both (offer_is_in_range (count_of Kind.Chan ds) offer) _ range in
    let b = both (offer_is_limited offer) _ limited in
    λ i. (a.0 i && b.0 i) && are_fine ds offers a.1 b.1 i

-- the word of a mode
mode_is : (w : List ℕ) (has_default : Bool) → mode_in w ≡ Ok has_default → w ≡ mode_text has_default
mode_is w has_default h = by (bytes_eq w (codes "default")) refl (bytes_eq w (codes "block")) refl h
  where
    by : (a : Bool) → bytes_eq w (codes "default") ≡ a → (b : Bool) → bytes_eq w (codes "block") ≡ b
        → (if a then Ok true else (if b then Ok false else Err TextCause.BadName)) ≡ Ok has_default → w ≡ mode_text has_default
    by true e b f h = (bytes_eq-Decides w (codes "default")).0 e ∙ ap mode_text (same_Ok true has_default h)
    by false e true f h = (bytes_eq-Decides w (codes "block")).0 f ∙ ap mode_text (same_Ok false has_default h)
    by false e false f h = absurd (ok-err has_default TextCause.BadName (sym h))

mode_again : (has_default : Bool) → (mode_in (mode_text has_default) ≡ Ok has_default) × (list_all is_place_byte (mode_text has_default) ≡ true)
mode_again true = (refl, refl)
mode_again false = (refl, refl)

module _ (decls : DeclsState) (holds : IsWellFormed decls) where
  abbrev ds : List Declaration
  ds = decls.declarations

  abbrev range_of : List Offer → Bool
  range_of offers = list_all (offer_is_in_range (counts_of ds Kind.Chan)) offers

  -- what holds of words that ask by a select
  pub record AreSelected (words : List (List ℕ)) (i : Instruction) : Type 0 where
    pub offers : List Offer
    pub has_default : Bool
    pub text : words ≡ offers_text ds offers ∷ mode_text has_default ∷ i.place ∷ []
    pub asks : i.ask ≡ Ask.Select offers has_default
    pub fits : ask_fits ds i.ask ≡ true
    pub form : is_place i.place ≡ true

  pub are_selected : (words : List (List ℕ)) (i : Instruction) → selected_in ds (select_words words) ≡ Ok i → AreSelected words i
  are_selected words i h = by (select_words words) refl h
    where
      by : (o : Option SelectWords) → select_words words ≡ o → selected_in ds o ≡ Ok i → AreSelected words i
      by None e h = absurd (ok-err i TextCause.WrongCount (sym h))
      by (Some w) e h =
          let a = both_are (λ ask place. Ok (asked_at ask place)) (select_in ds w) (place_in w.place) i h in
          let b = both_are (λ offers has_default. Ok (Ask.Select offers has_default)) (offers_in ds w.offers) (mode_in w.mode) a.0 a.2 in
          let is = are_offered ds w.offers b.0 b.2 in
          let place = place_is w.place a.1 a.3 in
          let ask = same_Ok (Ask.Select b.0 b.1) a.0 b.4 in
          let fine = all_fine ds b.0 is.fit in
          let fits : ask_fits ds (Ask.Select b.0 b.1) ≡ true = λ k. ((is.few k && fine.0 k) && true) && fine.1 k in
          subst (AreSelected words) (same_Ok (asked_at a.0 a.1) i a.4) (record {
            offers = b.0;
            has_default = b.1;
            text = select_words_are words w e ∙ (λ k. is.text_is k ∷ mode_is w.mode b.1 b.3 k ∷ place.0 k ∷ []);
            asks = sym ask;
            fits = ap (ask_fits ds) (sym ask) ∙ fits;
            form = place.1;
          })

  -- the words of a select ask it, and can be seen
  pub selected_again : (offers : List Offer) (has_default : Bool) (place : List ℕ) → ask_fits ds (Ask.Select offers has_default) ≡ true → is_place place ≡ true
      → (selected_in ds (select_words (offers_text ds offers ∷ mode_text has_default ∷ place ∷ [])) ≡ Ok (asked_at (Ask.Select offers has_default) place))
      × AreVisible (offers_text ds offers ∷ mode_text has_default ∷ place ∷ [])
  selected_again offers has_default place fits form =
      let few = nat_le (length offers) MAX_CASES in
      let limited = list_all offer_is_limited offers in
      let three = both ((few && range_of offers) && true) limited fits in
      let two = both few (range_of offers) (both (few && range_of offers) true three.0).0 in
      let fine = are_fine ds offers two.1 three.1 in
      let mode = mode_again has_default in (
        (λ k. both_say (λ ask place. Ok (asked_at ask place))
            (both_say (λ offers has_default. Ok (Ask.Select offers has_default)) (offers_again decls holds offers fine two.0 k) (mode.0 k))
            (if form k then Ok place else Err TextCause.BadName)),
        (offers_visible decls holds offers fine, (mode.1, (place_is_visible place form, tt))),
      )
