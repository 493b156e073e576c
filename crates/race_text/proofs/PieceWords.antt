-- What a word of pieces says, with commas between them: cases of a select, or offers of one.
use Rattle.std.proofs.Common.{◌≡◌, ℕ, ◌+◌, ◌<◌, ◌≤◌, ◌==◌, ◌&&◌, Bool, true, false, not, if◌then◌else◌, nat_le, List}
use Rattle.std.proofs.Common.{[], ◌∷◌, ◌++◌, length, map, Result, Ok, Err, refl, sym, ap, subst, ◌∙◌, arith, append-nil}
use Rattle.std.proofs.{Common.append_assoc, lemmas.{Bool.Decides.nat_tests, List.length-append}}
use Rattle.std.proofs.lemmas.List.{Folds.list_all-append, Splits.{join_with_byte-slice_split, length-slice_split}}
use Rattle.std.proofs.lemmas.{List.Sums.AllPass-from_list_all, Slice.Eq.bytes_eq-Decides}
use Rattle.std.specs.{List.{list_all, AllByRecursion, join_with_byte}, Str.bytes_eq}
use Rattle.race_records.specs.{declared.cases.TheConstants.MAX_CASES, Name.is_place_byte}
use Rattle.race_text.specs.{declared.cause.TextCause.TextCause, Least.{least, both_say}}
use Rattle.race_text.specs.{Meaning.{with_piece, pieces_on, pieces_in}, Select.{no_cases, pieces_of}, Text.pieces_text}
use Rattle.race_text.proofs.{CauseLemmas.{ok-err, same_Ok}, WordLemmas.{both, all_weaken}}
use Rattle.race_text.proofs.WordsAgain.{IsWithout, split_again}

-- a byte of a piece: one that can be seen, and no comma
abbrev pub is_case_byte : ℕ → Bool
is_case_byte b = is_place_byte b && not (b == 44)

case_byte_is_seen : (b : ℕ) → is_case_byte b ≡ true → is_place_byte b ≡ true
case_byte_is_seen b h = (both (is_place_byte b) (not (b == 44)) h).0

no_comma : (b : ℕ) → is_case_byte b ≡ true → (b == 44) ≡ false
no_comma b h = grind (arith, nat_tests)

-- words of bytes of which a test holds, joined by another
pub joined_all : (p : ℕ → Bool) (byte : ℕ) → p byte ≡ true → (ws : List (List ℕ)) → AllByRecursion (λ w. list_all p w ≡ true) ws
    → list_all p (join_with_byte byte ws) ≡ true
joined_all p byte holds [] each = refl
joined_all p byte holds (w ∷ []) each = each.0
joined_all p byte holds (w ∷ v ∷ ws) each =
    list_all-append p w (byte ∷ join_with_byte byte (v ∷ ws)) ∙ (λ i. each.0 i && (holds i && joined_all p byte holds (v ∷ ws) each.1 i))

-- words that pass a test pass a weaker one
pub each_weaken : (p q : ℕ → Bool) → ((b : ℕ) → p b ≡ true → q b ≡ true) → (ws : List (List ℕ)) → AllByRecursion (λ w. list_all p w ≡ true) ws
    → AllByRecursion (λ w. list_all q w ≡ true) ws
each_weaken p q weaker [] h = tt
each_weaken p q weaker (w ∷ ws) h = (all_weaken p q weaker w h.0, each_weaken p q weaker ws h.1)

-- and are without a byte that fails it
pub each_without : (p : ℕ → Bool) (byte : ℕ) → ((b : ℕ) → p b ≡ true → (b == byte) ≡ false) → (ws : List (List ℕ))
    → AllByRecursion (λ w. list_all p w ≡ true) ws → AllByRecursion (IsWithout byte) ws
each_without p byte other [] h = tt
each_without p byte other (w ∷ ws) h = ((λ i d within. other _ (AllPass-from_list_all p w h.0 i d within)), each_without p byte other ws h.1)

-- what says each piece, and how it is printed where it fits
module _ (A : Type 0) (says : List ℕ → Result A TextCause) (text : A → List ℕ) (fits : A → Bool) where
  -- a cause that holds before the pieces is not lost
  on_err : (cause : TextCause) (ws : List (List ℕ)) (all : List A) → pieces_on says (Err cause) ws ≡ Ok all → ⊥
  on_err cause [] all h = ok-err all cause (sym h)
  on_err cause (w ∷ ws) all h = by (says w) h (λ other rest. on_err other ws all rest)
    where
      by : (r : Result A TextCause) → pieces_on says (both_say with_piece (Err cause) r) ws ≡ Ok all
          → ((other : TextCause) → pieces_on says (Err other) ws ≡ Ok all → ⊥) → ⊥
      by (Ok piece) h others = others cause h
      by (Err other) h others = others (least cause other) h

  -- what holds of pieces that were read
  record ArePieces (got : List A) (ws : List (List ℕ)) (all : List A) : Type 0 where
    pieces : List A
    all_are : all ≡ got ++ pieces
    texts : ws ≡ map text pieces
    fit : list_all fits pieces ≡ true
    few : length got ≤ MAX_CASES → length all ≤ MAX_CASES

  -- and of their word
  pub record IsWord (w : List ℕ) (all : List A) : Type 0 where
    pub text_is : w ≡ pieces_text text all
    pub fit : list_all fits all ≡ true
    pub few : nat_le (length all) MAX_CASES ≡ true

  module _ (is : (w : List ℕ) (piece : A) → says w ≡ Ok piece → (w ≡ text piece) × (fits piece ≡ true)) where
    are_pieces : (got : List A) (ws : List (List ℕ)) (all : List A) → pieces_on says (Ok got) ws ≡ Ok all → ArePieces got ws all
    are_pieces got [] all h =
        let same = same_Ok got all h in
        record {
          pieces = [];
          all_are = sym same ∙ sym (append-nil got);
          texts = refl;
          fit = refl;
          few = λ low. subst (λ (l : List A). length l ≤ MAX_CASES) same low;
        }
    are_pieces got (w ∷ ws) all h = by (says w) refl h (λ more rest. are_pieces more ws all rest)
      where
        put : (piece : A) → says w ≡ Ok piece → (b : Bool) → nat_le MAX_CASES (length got) ≡ b
            → pieces_on says (if b then Err TextCause.TooMany else Ok (got ++ piece ∷ [])) ws ≡ Ok all
            → ((more : List A) → pieces_on says (Ok more) ws ≡ Ok all → ArePieces more ws all) → ArePieces got (w ∷ ws) all
        put piece e true full h others = absurd (on_err TextCause.TooMany ws all h)
        put piece e false free h others =
            let rest = others (got ++ piece ∷ []) h in
            let room : length got < MAX_CASES = grind (arith, nat_tests, free) in
            let one = is w piece e in
            record {
              pieces = piece ∷ rest.pieces;
              all_are = rest.all_are ∙ append_assoc got (piece ∷ []) rest.pieces;
              texts = λ i. one.0 i ∷ rest.texts i;
              fit = λ i. one.1 i && rest.fit i;
              few = λ _. rest.few (omega (arith, room, length-append got (piece ∷ [])));
            }

        by : (r : Result A TextCause) → says w ≡ r → pieces_on says (both_say with_piece (Ok got) r) ws ≡ Ok all
            → ((more : List A) → pieces_on says (Ok more) ws ≡ Ok all → ArePieces more ws all) → ArePieces got (w ∷ ws) all
        by (Ok piece) e h others = put piece e (nat_le MAX_CASES (length got)) refl h others
        by (Err cause) e h others = absurd (on_err cause ws all h)

    pub is_word : (w : List ℕ) (all : List A) → pieces_in says w ≡ Ok all → IsWord w all
    is_word w all h = by (bytes_eq w no_cases) refl h
      where
        whole : (ws : List (List ℕ)) (all : List A) → 0 < length ws → ws ≡ map text all → join_with_byte 44 ws ≡ pieces_text text all
        whole ws [] some same = let none = ap length same in absurd (omega (arith, some, none))
        whole ws (piece ∷ pieces) some same = ap (join_with_byte 44) same

        by : (b : Bool) → bytes_eq w no_cases ≡ b → (if b then Ok [] else pieces_on says (Ok []) (pieces_of w)) ≡ Ok all → IsWord w all
        by true e h = subst (IsWord w) (same_Ok [] all h) (record { text_is = (bytes_eq-Decides w no_cases).0 e; fit = refl; few = refl })
        by false e h =
            let are = are_pieces [] (pieces_of w) all h in
            let some = length-slice_split (λ b. b == 44) w in
            let few = are.few (omega arith) in
            record {
              text_is = sym (join_with_byte-slice_split 44 w) ∙ whole (pieces_of w) all (omega (arith, some)) (are.texts ∙ ap (map text) (sym are.all_are));
              fit = ap (list_all fits) are.all_are ∙ are.fit;
              few = grind (arith, nat_tests, few);
            }

  -- what is printed of pieces that fit says them
  module _ (again : (piece : A) → fits piece ≡ true → (says (text piece) ≡ Ok piece) × (list_all is_case_byte (text piece) ≡ true)) where
    pieces_bytes : (pieces : List A) → list_all fits pieces ≡ true → AllByRecursion (λ w. list_all is_case_byte w ≡ true) (map text pieces)
    pieces_bytes [] fit = tt
    pieces_bytes (piece ∷ pieces) fit =
        let both_fit = both (fits piece) (list_all fits pieces) fit in ((again piece both_fit.0).1, pieces_bytes pieces both_fit.1)

    pub word_visible : (pieces : List A) → list_all fits pieces ≡ true → list_all is_place_byte (pieces_text text pieces) ≡ true
    word_visible [] fit = refl
    word_visible (piece ∷ pieces) fit =
        let ws = map text (piece ∷ pieces) in
        joined_all is_place_byte 44 refl ws (each_weaken is_case_byte is_place_byte case_byte_is_seen ws (pieces_bytes (piece ∷ pieces) fit))

    -- one after another, where there is room
    on_again : (got pieces : List A) → list_all fits pieces ≡ true → length got + length pieces ≤ MAX_CASES
        → pieces_on says (Ok got) (map text pieces) ≡ Ok (got ++ pieces)
    on_again got [] fit few = ap Ok (sym (append-nil got))
    on_again got (piece ∷ pieces) fit few =
        let both_fit = both (fits piece) (list_all fits pieces) fit in
        let room : nat_le MAX_CASES (length got) ≡ false = grind (arith, nat_tests, few) in
        ap (λ r. pieces_on says (both_say with_piece (Ok got) r) (map text pieces)) (again piece both_fit.0).0
        ∙ ap (λ b. pieces_on says (if b then Err TextCause.TooMany else Ok (got ++ piece ∷ [])) (map text pieces)) room
        ∙ on_again (got ++ piece ∷ []) pieces both_fit.1 (omega (arith, few, length-append got (piece ∷ []))) ∙ ap Ok (append_assoc got (piece ∷ []) pieces)

    -- a word that begins with a piece is no hyphen
    pub word_again : ((piece : A) (ws : List (List ℕ)) → bytes_eq (join_with_byte 44 (text piece ∷ ws)) no_cases ≡ false)
        → (pieces : List A) → list_all fits pieces ≡ true → nat_le (length pieces) MAX_CASES ≡ true → pieces_in says (pieces_text text pieces) ≡ Ok pieces
    word_again no_hyphen [] fit few = refl
    word_again no_hyphen (piece ∷ pieces) fit few =
        let ws = map text (piece ∷ pieces) in
        let cut = split_again 44 refl (text piece) (map text pieces) (each_without is_case_byte 44 no_comma ws (pieces_bytes (piece ∷ pieces) fit)) in
        (λ i. if no_hyphen piece (map text pieces) i then Ok [] else pieces_on says (Ok []) (cut i))
        ∙ on_again [] (piece ∷ pieces) fit (grind (arith, nat_tests, few))
