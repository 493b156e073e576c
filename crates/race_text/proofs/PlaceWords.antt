-- What the words of an event's places say: one place, or a first and a second.
use Rattle.std.proofs.Common.{◌≡◌, ℕ, ◌<◌, Bool, true, false, true≢false, if◌then◌else◌, List, [], ◌∷◌, length, Option}
use Rattle.std.proofs.Common.{Some, None, Ok, Err, is_some, IfSome, refl, sym, ap, subst, ◌∙◌, arith}
use Rattle.std.{proofs.lemmas.Option.{none-some, same_Some}, specs.List.AllByRecursion}
use Rattle.std.specs.{Option.{option_and_then, option_map}, Result.result_err}
use Rattle.race_records.specs.{Name.is_place, Declarations.Declaration}
use Rattle.race_text.specs.{declared.cause.TextCause.TextCause, Words.has_bad_byte, Text.place_words, Form.place_fields}
use Rattle.race_text.specs.{Fault.field_cause, Least.lesser, Reading.{Places, ReadPlace, first_place, with_no_rest}}
use Rattle.race_text.{specs.Reading.{last_place, alone, before_second, last_places}, proofs.CauseLemmas.and_then_some}
use Rattle.race_text.proofs.CauseLemmas.{map_some, lesser_none, cause_on}
use Rattle.race_text.proofs.{CleanLemmas.{visible_clean, place_is_visible}, WordsAgain.AreVisible}

-- places that a line can have at its end, of which there have to be two or one
pub record ArePlaces (two : Bool) (places : Places) : Type 0 where
  pub first : is_place places.0 ≡ true
  pub second : IfSome places.1 (λ place. is_place place ≡ true)
  pub count : two ≡ is_some places.1

-- a word is a place where its form says so
by_form : (w : List ℕ) (ws : List (List ℕ)) → is_place w ≡ true → first_place (w ∷ ws) ≡ Some (w, ws)
by_form w ws form = ap (λ b. if b then Some (w, ws) else None) form

-- one word is the last place, and the first of more isn't
pub last_by_form : (w : List ℕ) → is_place w ≡ true → last_place (w ∷ []) ≡ Some w
last_by_form w form = ap (option_and_then with_no_rest) (by_form w [] form)

-- the words of places say them
pub places_read : (two : Bool) (places : Places) → ArePlaces two places → last_places two (place_words places.0 places.1) ≡ Some places
places_read false (w, None) are = ap (option_map alone) (last_by_form w are.first)
places_read true (w, Some v) are =
    ap (option_and_then (λ (first : ReadPlace). option_map (before_second first.0) (last_place first.1))) (by_form w (v ∷ []) are.first)
    ∙ ap (option_map (before_second w)) (last_by_form v are.second)
places_read true (w, None) are = absurd (true≢false are.count)
places_read false (w, Some v) are = absurd (true≢false (sym are.count))

-- a place that was read, with what is behind it
first_is : (words : List (List ℕ)) (first : ReadPlace) → first_place words ≡ Some first → (words ≡ first.0 ∷ first.1) × (is_place first.0 ≡ true)
first_is [] first h = absurd (none-some first h)
first_is (w ∷ ws) first h = by (is_place w) refl h
  where
    by : (b : Bool) → is_place w ≡ b → (if b then Some (w, ws) else None) ≡ Some first → ((w ∷ ws) ≡ first.0 ∷ first.1) × (is_place first.0 ≡ true)
    by true e h = let s = same_Some (w, ws) first h in ((λ i. (s i).0 ∷ (s i).1), ap (λ (r : ReadPlace). is_place r.0) (sym s) ∙ e)
    by false e h = absurd (none-some first h)

-- the one word that is left, read
last_is : (words : List (List ℕ)) (place : List ℕ) → last_place words ≡ Some place → (words ≡ place ∷ []) × (is_place place ≡ true)
last_is words place h =
    let first = and_then_some with_no_rest (first_place words) place h in
    by first.0 (first_is words first.0 first.1) first.2
  where
    by : (first : ReadPlace) → (words ≡ first.0 ∷ first.1) × (is_place first.0 ≡ true) → with_no_rest first ≡ Some place
        → (words ≡ place ∷ []) × (is_place place ≡ true)
    by (w, []) is h = let s = same_Some w place h in (is.0 ∙ (λ i. s i ∷ []), ap is_place (sym s) ∙ is.1)
    by (w, v ∷ ws) is h = absurd (none-some place h)

-- where a word is left behind a place, it isn't the last
pub not_last : (words : List (List ℕ)) (first : ReadPlace) → first_place words ≡ Some first → 0 < length first.1 → last_place words ≡ None
not_last words first h some = ap (option_and_then with_no_rest) h ∙ by first some
  where
    by : (first : ReadPlace) → 0 < length first.1 → with_no_rest first ≡ None
    by (w, []) some = absurd (omega (arith, some))
    by (w, v ∷ ws) some = refl

-- places that were read are the words, and there are as many as there have to be
pub are_places : (two : Bool) (words : List (List ℕ)) (places : Places) → last_places two words ≡ Some places
    → ArePlaces two places × (words ≡ place_words places.0 places.1)
are_places false words places h =
    let one = map_some alone (last_place words) places h in
    let last = last_is words one.0 one.1 in
    subst (λ (p : Places). ArePlaces false p × (words ≡ place_words p.0 p.1)) one.2 (record { first = last.1; second = tt; count = refl }, last.0)
are_places true words places h =
    let a = and_then_some (λ (first : ReadPlace). option_map (before_second first.0) (last_place first.1)) (first_place words) places h in
    let b = map_some (before_second a.0.0) (last_place a.0.1) places a.2 in
    let first = first_is words a.0 a.1 in
    let last = last_is a.0.1 b.0 b.1 in
    subst (λ (p : Places). ArePlaces true p × (words ≡ place_words p.0 p.1)) b.2
    (record { first = first.1; second = last.1; count = refl }, first.0 ∙ ap (λ ws. a.0.0 ∷ ws) last.0)

-- the words of places can be seen, and are as many as the fields
pub places_visible : (two : Bool) (places : Places) → ArePlaces two places → AreVisible (place_words places.0 places.1)
places_visible two (w, None) are = (place_is_visible w are.first, tt)
places_visible two (w, Some v) are = (place_is_visible w are.first, (place_is_visible v are.second, tt))

pub places_clean : (two : Bool) (places : Places) → ArePlaces two places → AllByRecursion (λ w. has_bad_byte w ≡ false) (place_words places.0 places.1)
places_clean two (w, None) are = (visible_clean w (place_is_visible w are.first), tt)
places_clean two (w, Some v) are = (visible_clean w (place_is_visible w are.first), (visible_clean v (place_is_visible v are.second), tt))

pub places_count : (two : Bool) (places : Places) → ArePlaces two places → length (place_words places.0 places.1) ≡ length (place_fields two)
places_count false (w, None) are = refl
places_count true (w, Some v) are = refl
places_count true (w, None) are = absurd (true≢false are.count)
places_count false (w, Some v) are = absurd (true≢false (sym are.count))

-- the cause of a place by its form
abbrev form_cause : List ℕ → Bool → Option TextCause
form_cause w form = result_err (if form then Ok w else Err TextCause.BadName)

has_form : (w : List ℕ) (b : Bool) → form_cause w b ≡ None → b ≡ true
has_form w true h = refl
has_form w false h = absurd (none-some TextCause.BadName (sym h))

module _ (ds : List Declaration) where
  -- no cause holds of places
  pub places_fine : (two : Bool) (places : Places) → ArePlaces two places → cause_on ds None (place_fields two) (place_words places.0 places.1) ≡ None
  unfolding field_cause
  places_fine false (w, None) are = ap (form_cause w) are.first
  places_fine true (w, Some v) are = λ i. lesser (form_cause w (are.first i)) (form_cause v (are.second i))
  places_fine true (w, None) are = absurd (true≢false are.count)
  places_fine false (w, Some v) are = absurd (true≢false (sym are.count))

  -- words of the right number of which no cause holds are places
  pub places_are_there : (two : Bool) (words : List (List ℕ)) → length words ≡ length (place_fields two) → cause_on ds None (place_fields two) words ≡ None
      → (places : Places) × ArePlaces two places × (words ≡ place_words places.0 places.1)
  unfolding field_cause
  places_are_there false (w ∷ []) count none = ((w, None), record { first = has_form w (is_place w) none; second = tt; count = refl }, refl)
  places_are_there true (w ∷ v ∷ []) count none =
      let both = lesser_none (form_cause w (is_place w)) (form_cause v (is_place v)) none in
      ((w, Some v), record { first = has_form w (is_place w) both.0; second = has_form v (is_place v) both.1; count = refl }, refl)
  places_are_there false [] count none = absurd (omega (arith, count))
  places_are_there false (w ∷ v ∷ ws) count none = absurd (omega (arith, count))
  places_are_there true [] count none = absurd (omega (arith, count))
  places_are_there true (w ∷ []) count none = absurd (omega (arith, count))
  places_are_there true (w ∷ v ∷ u ∷ ws) count none = absurd (omega (arith, count))
