-- The table of words, and its way back.
use Rattle.std.proofs.Common.{◌≡◌, ℕ, Bool, true, false, if◌then◌else◌, List, [], ◌∷◌, map, Option, Some, None, refl}
use Rattle.std.proofs.{Common.{sym, ap, ◌∙◌, true≢false}, lemmas.Option.{none-some, same_Some}}
use Rattle.std.{proofs.lemmas.Slice.Eq.bytes_eq-Decides, specs.{List.list_all, Option.option_and_then, Str.bytes_eq}}
use Rattle.race_records.specs.declared.{kind.Object.Object, decl_keywords.DeclKeyword.DeclKeyword, operands.OpKeyword.OpKeyword, version.Version.Version}
use Rattle.race_records.specs.{Name.is_place_byte, DeclKeywords.object_says, Operands.{since, has_op_keyword, is_in}}
use Rattle.race_text.specs.{declared.form.{Word.Word, TheConstants.WORDS}, Declaring.is_declaration_word, Form.lookup}
use Rattle.race_text.specs.{Form.{word_named, has_word, as_had, word_in}, Text.object_words}
use Rattle.race_text.{specs.Writing.{decl_keyword_text, number_words, op_keyword_text}, proofs.WordLemmas.both}

-- the bytes of a word
abbrev pub spelled : Word → List ℕ
spelled (Word.Declares decl_keyword) = decl_keyword_text decl_keyword
spelled (Word.Does op_keyword) = op_keyword_text op_keyword

abbrev table : List (List ℕ × Word)
table = map (λ entry. (entry.0.now, entry.1)) WORDS

-- what holds of each entry holds of what is found
found_in : (test : List ℕ → Word → Bool) (entries : List (List ℕ × Word)) (w : List ℕ) (word : Word) → lookup entries w ≡ Some word
    → list_all (λ (e : List ℕ × Word). test e.0 e.1) entries ≡ true → test w word ≡ true
found_in test [] w word h all = absurd (none-some word h)
found_in test (e ∷ es) w word h all = by (bytes_eq w e.0) refl h (λ rest. found_in test es w word rest (both (test e.0 e.1) _ all).1)
  where
    by : (b : Bool) → bytes_eq w e.0 ≡ b → (if b then Some e.1 else lookup es w) ≡ Some word → (lookup es w ≡ Some word → test w word ≡ true)
        → test w word ≡ true
    by true same h others = (λ i. test ((bytes_eq-Decides w e.0).0 same i) (sym (same_Some e.1 word h) i)) ∙ (both (test e.0 e.1) _ all).0
    by false other h others = others h

-- a word that is found is spelled so, and can be seen
pub word_spelled : (w : List ℕ) (word : Word) → word_named w ≡ Some word → w ≡ spelled word
unfolding word_named
word_spelled w word h = (bytes_eq-Decides w (spelled word)).0 (found_in (λ w word. bytes_eq w (spelled word)) table w word h refl)

pub word_is_seen : (w : List ℕ) (word : Word) → word_named w ≡ Some word → list_all is_place_byte w ≡ true
unfolding word_named
word_is_seen w word h = found_in (λ w word. list_all is_place_byte w) table w word h refl

-- what is spelled is found again
pub op_keyword_again : (op_keyword : OpKeyword) → word_named (op_keyword_text op_keyword) ≡ Some (Word.Does op_keyword)
unfolding word_named
op_keyword_again OpKeyword.Go = refl
op_keyword_again _ = refl

pub decl_keyword_again : (decl_keyword : DeclKeyword) → word_named (decl_keyword_text decl_keyword) ≡ Some (Word.Declares decl_keyword)
unfolding word_named
decl_keyword_again DeclKeyword.Goroutine = refl
decl_keyword_again _ = refl

-- a word of a version is one of the table, which the version has
pub word_of_table : (version : Version) (w : List ℕ) (word : Word) → word_in version w ≡ Some word
    → (word_named w ≡ Some word) × (has_word version word ≡ true)
unfolding word_in
word_of_table version w word h = by (word_named w) h
  where
    if_had : (found : Word) (b : Bool) → has_word version found ≡ b → (if b then Some found else None) ≡ Some word
        → (Some found ≡ Some word) × (has_word version word ≡ true)
    if_had found true e h = (h, ap (has_word version) (sym (same_Some found word h)) ∙ e)
    if_had found false e h = absurd (none-some word h)

    by : (o : Option Word) → option_and_then (as_had version) o ≡ Some word → (o ≡ Some word) × (has_word version word ≡ true)
    by None h = absurd (none-some word h)
    by (Some found) h = if_had found (has_word version found) refl h

-- and what the version has of the table is one of its words
pub word_of_version : (version : Version) (w : List ℕ) (word : Word) → word_named w ≡ Some word → has_word version word ≡ true
    → word_in version w ≡ Some word
unfolding word_in
word_of_version version w word named had = ap (option_and_then (as_had version)) named ∙ ap (λ b. if b then Some word else None) had

-- each version has a word that declares
pub declares_in : (version : Version) (w : List ℕ) → is_declaration_word (word_named w) ≡ true → word_in version w ≡ word_named w
declares_in version w h = by (word_named w) refl h
  where
    by : (o : Option Word) → word_named w ≡ o → is_declaration_word o ≡ true → word_in version w ≡ word_named w
    by None e h = absurd (true≢false (sym h))
    by (Some (Word.Declares decl_keyword)) e h = word_of_version version w (Word.Declares decl_keyword) e refl ∙ sym e
    by (Some (Word.Does op_keyword)) e h = absurd (true≢false (sym h))

-- a word that declares in a version does so at all
pub declares_named : (version : Version) (w : List ℕ) → is_declaration_word (word_in version w) ≡ true → is_declaration_word (word_named w) ≡ true
declares_named version w h = by (word_in version w) refl h
  where
    by : (o : Option Word) → word_in version w ≡ o → is_declaration_word o ≡ true → is_declaration_word (word_named w) ≡ true
    by None e h = absurd (true≢false (sym h))
    by (Some word) e h = ap is_declaration_word (word_of_table version w word e).0 ∙ h

-- what is spelled is found again in the versions that have it, and in no other
pub decl_keyword_known : (version : Version) (decl_keyword : DeclKeyword) → word_in version (decl_keyword_text decl_keyword) ≡ Some (Word.Declares decl_keyword)
decl_keyword_known version decl_keyword = word_of_version version (decl_keyword_text decl_keyword) (Word.Declares decl_keyword) (decl_keyword_again decl_keyword) refl

pub op_keyword_known : (version : Version) (op_keyword : OpKeyword) → has_op_keyword version op_keyword ≡ true → word_in version (op_keyword_text op_keyword) ≡ Some (Word.Does op_keyword)
op_keyword_known version op_keyword had = word_of_version version (op_keyword_text op_keyword) (Word.Does op_keyword) (op_keyword_again op_keyword) had

pub op_keyword_unknown : (version : Version) (op_keyword : OpKeyword) → has_op_keyword version op_keyword ≡ false → word_in version (op_keyword_text op_keyword) ≡ None
unfolding word_in
op_keyword_unknown version op_keyword lacks =
    ap (option_and_then (as_had version)) (op_keyword_again op_keyword) ∙ ap (λ b. if b then Some (Word.Does op_keyword) else None) lacks

-- each version has what the first one had
pub early : (version : Version) (op_keyword : OpKeyword) → since op_keyword ≡ Version.One → has_op_keyword version op_keyword ≡ true
early Version.One op_keyword e = ap (is_in Version.One) e
early Version.Two op_keyword e = refl

-- the words of a declaration are what it says
pub object_words_are : (name : List ℕ) (object : Object)
    → object_words name object ≡ decl_keyword_text (object_says object).0 ∷ name ∷ number_words (object_says object).1
object_words_are name Object.Goroutine = refl
object_words_are name Object.Var = refl
object_words_are name (Object.Chan capacity) = refl
object_words_are name (Object.Lock false) = refl
object_words_are name (Object.Lock true) = refl
object_words_are name Object.Once = refl
