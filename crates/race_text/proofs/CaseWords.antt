-- What the word of a select's cases says, piece by piece.
use Rattle.std.proofs.Common.{◌≡◌, ℕ, ◌<◌, Bool, true, false, true≢false, if◌then◌else◌, nat_le, List, [], ◌∷◌, ◌++◌}
use Rattle.std.proofs.Common.{length, take, drop, codes, Option, Some, None, ok_or, Ok, refl, sym, ap, subst, ◌∙◌}
use Rattle.std.proofs.{Common.arith, lemmas.{Bool.Decides.nat_tests, List.take-append-drop}}
use Rattle.std.proofs.lemmas.{Option.{none-some, same_Some}, Slice.Eq.bytes_eq-Decides}
use Rattle.std.specs.{List.{list_all, join_with_byte}, Str.bytes_eq}
use Rattle.race_records.specs.declared.{cases.{Case.Case, Dir.Dir, TheConstants.MAX_CASES}, kind.Kind.Kind}
use Rattle.race_records.specs.declared.{kind.Named.Named, operands.OperandKind.OperandKind}
use Rattle.race_records.specs.{Name.{is_name, is_name_byte, is_place_byte}, Declarations.{Declaration, DeclsState}}
use Rattle.race_records.specs.Declarations.{IsWellFormed, count_of, number_of}
use Rattle.race_records.specs.Operands.{chan_is_in_range, case_is_in_range}
use Rattle.race_text.specs.{declared.cause.TextCause.TextCause, Least.{then_says, says_by}, Meaning.{named_in, chan_of}}
use Rattle.race_text.specs.{Meaning.{chan_in, case_with, spelled_case_in, case_in, cases_in}, Select.{no_cases, nil}}
use Rattle.race_text.specs.{Select.{behind, SpelledCase, case_by, case_spelled}, Text.{chan_name, chan_text, dir_text}}
use Rattle.race_text.{specs.Text.{case_text, cases_text}, proofs.CauseLemmas.{same_Ok, then_is, with_is, ok_or_is}}
use Rattle.race_text.proofs.PieceWords.{is_case_byte, IsWord, is_word, word_visible, word_again}
use Rattle.race_text.proofs.{UsedNames.{IsUsed, is_used, used_again}, WordLemmas.{all_weaken, name_bytes}}

-- a word that begins with a front
pub behind_is : (front word rest : List ℕ) → behind front word ≡ Some rest → word ≡ front ++ rest
behind_is front word rest h = by (bytes_eq (take (length front) word) front) refl h
  where
    by : (b : Bool) → bytes_eq (take (length front) word) front ≡ b → (if b then Some (drop (length front) word) else None) ≡ Some rest → word ≡ front ++ rest
    by true e h = sym (take-append-drop (length front) word)
        ∙ (λ i. (bytes_eq-Decides (take (length front) word) front).0 e i ++ same_Some (drop (length front) word) rest h i)
    by false e h = absurd (none-some rest h)

case_spelled_is : (w : List ℕ) (case : SpelledCase) → case_spelled w ≡ Some case → w ≡ dir_text case.0 ++ case.1
case_spelled_is w case h = by (behind (codes "send:") w) refl (behind (codes "recv:") w) refl h
  where
    by : (a : Option (List ℕ)) → behind (codes "send:") w ≡ a → (b : Option (List ℕ)) → behind (codes "recv:") w ≡ b → case_by a b ≡ Some case
        → w ≡ dir_text case.0 ++ case.1
    by (Some n) e b f h = behind_is (codes "send:") w n e ∙ ap (λ (c : SpelledCase). dir_text c.0 ++ c.1) (same_Some (Dir.Send, n) case h)
    by None e (Some n) f h = behind_is (codes "recv:") w n f ∙ ap (λ (c : SpelledCase). dir_text c.0 ++ c.1) (same_Some (Dir.Recv, n) case h)
    by None e None f h = absurd (none-some case h)

case_spelled_again : (dir : Dir) (name : List ℕ) → case_spelled (dir_text dir ++ name) ≡ Some (dir, name)
case_spelled_again Dir.Send name = refl
case_spelled_again Dir.Recv name = refl

name_byte_is_fine : (b : ℕ) → is_name_byte b ≡ true → is_case_byte b ≡ true
name_byte_is_fine b h = grind (arith, nat_tests)

-- `nil` is no name
pub not_nil : (w : List ℕ) → is_name w ≡ true → bytes_eq w nil ≡ false
not_nil w form = by (bytes_eq w nil) refl
  where
    by : (b : Bool) → bytes_eq w nil ≡ b → b ≡ false
    by true same = absurd (true≢false (sym form ∙ ap is_name ((bytes_eq-Decides w nil).0 same)))
    by false other = refl

abbrev pub a_chan : OperandKind
a_chan = OperandKind.Object Kind.Chan

module _ (ds : List Declaration) where
  abbrev in_range : Case → Bool
  in_range case = case_is_in_range (count_of Kind.Chan ds) case

  -- what holds of the word of a channel or nil
  pub record IsChan (w : List ℕ) (chan : Option ℕ) : Type 0 where
    pub text : w ≡ chan_text ds chan
    pub fits : chan_is_in_range (count_of Kind.Chan ds) chan ≡ true

  pub is_chan : (w : List ℕ) (chan : Option ℕ) → chan_in ds w ≡ Ok chan → IsChan w chan
  is_chan w chan h = by (bytes_eq w nil) refl h
    where
      used_chan : (named : Named) → IsUsed ds a_chan w named → IsChan w (chan_of named)
      used_chan (Named.Chan c) used = record { text = used.text; fits = let less = used.declared in grind (arith, nat_tests, less) }
      used_chan _ used = absurd (true≢false (sym used.wanted))

      by : (a : Bool) → bytes_eq w nil ≡ a → (if a then Ok None else says_by chan_of (named_in ds a_chan w)) ≡ Ok chan → IsChan w chan
      by true e h = subst (IsChan w) (same_Ok None chan h) (record { text = (bytes_eq-Decides w nil).0 e; fits = refl })
      by false e h =
          let read = with_is chan_of (named_in ds a_chan w) chan h in
          subst (IsChan w) read.2 (used_chan read.0 (is_used ds a_chan w read.0 read.1))

  -- its number is one of a channel that is declared
  pub chan_is_declared : (w : List ℕ) (named : Named) → named_in ds a_chan w ≡ Ok named → number_of named < count_of Kind.Chan ds
  chan_is_declared w named h = by named (is_used ds a_chan w named h)
    where
      by : (named : Named) → IsUsed ds a_chan w named → number_of named < count_of Kind.Chan ds
      by (Named.Chan c) used = used.declared
      by _ used = absurd (true≢false (sym used.wanted))

  -- of the piece of a case
  is_case : (w : List ℕ) (case : Case) → case_in ds w ≡ Ok case → (w ≡ case_text ds case) × (in_range case ≡ true)
  is_case w case h =
      let a = then_is (spelled_case_in ds) (ok_or (case_spelled w) TextCause.BadName) case h in
      let b = with_is (case_with a.0.0) (chan_in ds a.0.1) case a.2 in
      let chan = is_chan a.0.1 b.0 b.1 in
      subst (λ c. (w ≡ case_text ds c) × (in_range c ≡ true)) b.2 (
        case_spelled_is w a.0 (ok_or_is (case_spelled w) TextCause.BadName a.0 a.1) ∙ ap (λ n. dir_text a.0.0 ++ n) chan.text,
        chan.fits,
      )

  -- of the word of the cases
  pub is_cases : (w : List ℕ) (cases : List Case) → cases_in ds w ≡ Ok cases → IsWord Case (case_in ds) (case_text ds) in_range w cases
  is_cases w cases h = is_word Case (case_in ds) (case_text ds) in_range is_case w cases h

module _ (decls : DeclsState) (holds : IsWellFormed decls) where
  abbrev ds' : List Declaration
  ds' = decls.declarations

  -- what is printed of a channel says the channel
  pub chan_again : (chan : Option ℕ) → chan_is_in_range (count_of Kind.Chan ds') chan ≡ true → chan_in ds' (chan_text ds' chan) ≡ Ok chan
  chan_again None fit = refl
  chan_again (Some c) fit =
      let found = used_again decls holds a_chan (Named.Chan c) refl (grind (arith, nat_tests, fit)) in
      λ i. if not_nil (chan_name ds' c) found.1 i then Ok None else says_by chan_of (found.0 i)

  -- by bytes of a name, or of `nil`
  pub chan_bytes : (p : ℕ → Bool) → list_all p nil ≡ true → ((b : ℕ) → is_name_byte b ≡ true → p b ≡ true)
      → (chan : Option ℕ) → chan_is_in_range (count_of Kind.Chan ds') chan ≡ true → list_all p (chan_text ds' chan) ≡ true
  chan_bytes p of_nil weaker None fit = of_nil
  chan_bytes p of_nil weaker (Some c) fit =
      let found = used_again decls holds a_chan (Named.Chan c) refl (grind (arith, nat_tests, fit)) in
      all_weaken is_name_byte p weaker (chan_name ds' c) (name_bytes (chan_name ds' c) found.1)

  -- and of a case
  case_again : (case : Case) → in_range ds' case ≡ true
      → (case_in ds' (case_text ds' case) ≡ Ok case) × (list_all is_case_byte (case_text ds' case) ≡ true)
  case_again case fit = (
    ap (λ o. then_says (spelled_case_in ds') (ok_or o TextCause.BadName)) (case_spelled_again case.dir (chan_text ds' case.chan))
        ∙ ap (says_by (case_with case.dir)) (chan_again case.chan fit),
    bytes case.dir (chan_text ds' case.chan) (chan_bytes is_case_byte refl name_byte_is_fine case.chan fit),
  )
    where
      bytes : (dir : Dir) (name : List ℕ) → list_all is_case_byte name ≡ true → list_all is_case_byte (dir_text dir ++ name) ≡ true
      bytes Dir.Send name h = h
      bytes Dir.Recv name h = h

  -- and of all cases
  pub cases_visible : (cases : List Case) → list_all (in_range ds') cases ≡ true → list_all is_place_byte (cases_text ds' cases) ≡ true
  cases_visible cases fit = word_visible Case (case_in ds') (case_text ds') (in_range ds') case_again cases fit

  -- cases are no hyphen
  no_hyphen : (case : Case) (ws : List (List ℕ)) → bytes_eq (join_with_byte 44 (case_text ds' case ∷ ws)) no_cases ≡ false
  no_hyphen case ws = by case.dir (chan_text ds' case.chan) ws
    where
      by : (dir : Dir) (name : List ℕ) (ws : List (List ℕ)) → bytes_eq (join_with_byte 44 ((dir_text dir ++ name) ∷ ws)) no_cases ≡ false
      by Dir.Send name [] = refl
      by Dir.Send name (w ∷ ws) = refl
      by Dir.Recv name [] = refl
      by Dir.Recv name (w ∷ ws) = refl

  pub cases_again : (cases : List Case) → list_all (in_range ds') cases ≡ true → nat_le (length cases) MAX_CASES ≡ true
      → cases_in ds' (cases_text ds' cases) ≡ Ok cases
  cases_again cases fit few = word_again Case (case_in ds') (case_text ds') (in_range ds') case_again no_hyphen cases fit few
