-- A line of a body as a whole, and what lines say together.
use Rattle.std.proofs.Common.{◌≡◌, ℕ, ◌+◌, ◌<◌, ◌==◌, ◌&&◌, ◌⊎◌, inl, inr, Bool, true, false, true≢false, if◌then◌else◌}
use Rattle.std.proofs.Common.{is_none, List, [], ◌∷◌, ◌++◌, length, map, fold, Option, Some, None, Ok, refl, sym, ap}
use Rattle.std.proofs.{Common.{◌∙◌, arith, append-nil, append_assoc}, lemmas.{Bool.Decides.nat_tests, List.map-append}}
use Rattle.std.proofs.lemmas.List.{Elements.filter_map-append, Splits.join_with_byte-slice_split, Sums.fold-append}
use Rattle.std.proofs.lemmas.{Option.{none-some, same_Some}, Slice.Eq.bytes_eq-Decides}
use Rattle.std.specs.{List.{filter_map, cons_option}, Option.{option_and_then, option_map, option_map_or}, Str.bytes_eq}
use Rattle.std.specs.Result.{result_ok, result_err}
use Rattle.race_records.specs.{declared.kind.Kind.Kind, Declarations.{Declaration, DeclsState, IsWellFormed, count_of}}
use Rattle.race_records.specs.{Equality.{Declared, declared}, Name.is_place}
use Rattle.race_requests.specs.Sound.{has_ask}
use Rattle.race_text.specs.{declared.cause.TextCause.TextCause, Fault.{or_else, declaration_in, declared_as}}
use Rattle.race_text.specs.{Form.{word_named, first_word, arguments}, Select.nil, Text.{line_of, declaration_line}}
use Rattle.race_text.specs.{Words.words_of, Writing.operand_text}
use Rattle.race_script.specs.{declared.form.{StepKeyword.StepKeyword, LineKeyword.LineKeyword}, Bodies.is_exit, Fault.words_cause}
use Rattle.race_script.specs.{Fault.{asked_cause, said_cause, word_cause, line_cause, cause}, Form.has_ask_word}
use Rattle.race_script.specs.Form.{line_word_in, word_on_nil, AskedWords, on_nil, ask_fields, begin_fields}
use Rattle.race_script.specs.{Offers.select_words, Program.{Instruction, Draft, ask_fits, declared_by, bodies_of}}
use Rattle.race_script.specs.{Reader.HasWords, Reading.{version_in, asked_in, selected_in, begun_in, asks_by, said_by}}
use Rattle.race_script.specs.Reading.{said_in, with_instruction, with_said, nothing_said, all_said, declared_in, seen}
use Rattle.race_script.specs.Text.{header, Said, Begins, Asks, ask_words, said_line, saids, lines}
use Rattle.race_script.proofs.AskTable.{ask_says, so_it_says, ask_words_are, front_words, body_word, first_text}
use Rattle.race_script.proofs.AskTable.{has_front, found_has_front, had_by_word, has_on_nil, found_is_had}
use Rattle.race_script.proofs.{SaidLines.{are_asked, is_begun}, SelectLines.are_selected}

-- what is said fits the declarations and their version
abbrev pub SaidFits : Declared → Said → Type 0
SaidFits w (Begins g) = g < count_of Kind.Goroutine w.declarations
SaidFits w (Asks i) = (ask_fits w.declarations i.ask ≡ true) × (is_place i.place ≡ true) × (has_ask w.version i.ask ≡ true)

-- what holds of a line that says it
pub record IsSaidLine (w : Declared) (line : List ℕ) (said : Said) : Type 0 where
  pub line_is : line ≡ said_line w.declarations said
  pub says : said_in w line ≡ Some said
  pub declares : declaration_in line ≡ None
  pub fits : SaidFits w said
  pub cause_is : (d : Draft) → declared_by d ≡ w → line_cause d line ≡ said_cause d said

-- the words in front of an ask's, by the word of the table
nil_again : (word : StepKeyword) (words : List (List ℕ)) (asked : AskedWords) → on_nil word words ≡ asked
    → ((word ≡ asked.0) × (words ≡ asked.1)) ⊎ ((word_on_nil word ≡ Some asked.0) × (words ≡ nil ∷ asked.1))
nil_again word [] asked h = inl (ap (λ (a : AskedWords). a.0) h, ap (λ (a : AskedWords). a.1) h)
nil_again word (w ∷ ws) asked h = by (bytes_eq w nil) refl h
  where
    found : (o : Option StepKeyword) → word_on_nil word ≡ o → bytes_eq w nil ≡ true → option_map_or (λ other. (other, ws)) o (word, w ∷ ws) ≡ asked
        → ((word ≡ asked.0) × ((w ∷ ws) ≡ asked.1)) ⊎ ((word_on_nil word ≡ Some asked.0) × ((w ∷ ws) ≡ nil ∷ asked.1))
    found None e same h = inl (ap (λ (a : AskedWords). a.0) h, ap (λ (a : AskedWords). a.1) h)
    found (Some other) e same h =
        inr (e ∙ ap (λ (a : AskedWords). Some a.0) h, (λ k. (bytes_eq-Decides w nil).0 same k ∷ (h k).1))

    by : (b : Bool) → bytes_eq w nil ≡ b → (if b then option_map_or (λ other. (other, ws)) (word_on_nil word) (word, w ∷ ws) else (word, w ∷ ws)) ≡ asked
        → ((word ≡ asked.0) × ((w ∷ ws) ≡ asked.1)) ⊎ ((word_on_nil word ≡ Some asked.0) × ((w ∷ ws) ≡ nil ∷ asked.1))
    by true same h = found (word_on_nil word) refl same h
    by false other h = inl (ap (λ (a : AskedWords). a.0) h, ap (λ (a : AskedWords). a.1) h)

-- the words in front, by the word of the table
table_front : (word : StepKeyword) → has_front (LineKeyword.Asks word) ≡ true → (first_text (LineKeyword.Asks word) ∷ []) ≡ front_words word
table_front StepKeyword.SendNil h = absurd (true≢false (sym h))
table_front StepKeyword.RecvNil h = absurd (true≢false (sym h))
table_front StepKeyword.CloseNil h = absurd (true≢false (sym h))
table_front StepKeyword.Go h = refl
table_front _ h = refl

nil_front : (word other : StepKeyword) → word_on_nil word ≡ Some other → (first_text (LineKeyword.Asks word) ∷ nil ∷ []) ≡ front_words other
nil_front StepKeyword.Send other h = ap front_words (same_Some StepKeyword.SendNil other h)
nil_front StepKeyword.Recv other h = ap front_words (same_Some StepKeyword.RecvNil other h)
nil_front StepKeyword.Close other h = ap front_words (same_Some StepKeyword.CloseNil other h)
nil_front _ other h = absurd (none-some other h)

module _ (decls : DeclsState) (holds : IsWellFormed decls) (line : List ℕ) where
  abbrev ds : List Declaration
  ds = decls.declarations

  abbrev first : List ℕ
  first = first_word (words_of line)

  joined : (words : List (List ℕ)) → words_of line ≡ first ∷ words → line ≡ line_of (first ∷ words)
  joined words behind = sym (join_with_byte-slice_split 32 line) ∙ ap line_of behind

  pub clean_cause : (word : LineKeyword) (words : List (List ℕ)) → HasWords decls.version line word words → (d : Draft) → declared_by d ≡ declared decls
      → line_cause d line ≡ word_cause d (Some word) words
  unfolding line_cause
  clean_cause word words has d same =
      ap (λ b. if b then Some TextCause.BadByte else word_cause d (line_word_in d.version first) (arguments (words_of line))) has.clean
      ∙ (λ k. word_cause d (line_word_in (same k).version first) (arguments (has.behind k)))
      ∙ ap (λ w. word_cause d w words) has.named

  -- a line that begins a body
  pub begins_line : (words : List (List ℕ)) (g : ℕ) → HasWords decls.version line LineKeyword.Begins words → begun_in ds words ≡ Some g
      → IsSaidLine (declared decls) line (Begins g)
  begins_line words g has says =
      let is = is_begun decls holds words g says in
      let word = body_word first LineKeyword.Begins (found_is_had decls.version first LineKeyword.Begins has.named).0 refl in
      record {
        line_is = joined words has.behind ∙ (λ k. line_of (word.text k ∷ is.text k));
        says = (λ k. said_by ds (has.named k) (arguments (has.behind k))) ∙ ap (option_map Begins) says;
        declares = ap (λ ws. declared_as (word_named first) (arguments ws)) has.behind ∙ word.declares words;
        fits = is.less;
        cause_is = λ d same. clean_cause LineKeyword.Begins words has d same
            ∙ (λ k. or_else (words_cause (same k).declarations begin_fields words)
            (option_and_then (said_cause d) (said_by (same k).declarations (Some LineKeyword.Begins) words)))
            ∙ (λ k. or_else (is.fine k) (option_and_then (said_cause d) (option_map Begins (says k))));
      }

  -- a line that asks
  front_is : (word : StepKeyword) (asked : AskedWords) (words : List (List ℕ)) → on_nil word words ≡ asked → first ≡ first_text (LineKeyword.Asks word)
      → has_front (LineKeyword.Asks word) ≡ true → (first ∷ words) ≡ front_words asked.0 ++ asked.1
  front_is word asked words h text known = elim (nil_again word words asked h) [
    | inl same ↦ (λ k. text k ∷ same.1 k) ∙ ap (λ fs. fs ++ asked.1) (table_front word known) ∙ ap (λ w. front_words w ++ asked.1) same.0
    | inr other ↦ (λ k. text k ∷ other.1 k) ∙ ap (λ fs. fs ++ asked.1) (nil_front word asked.0 other.0)
  ]

  -- what is asked is of the version, as its word is
  ask_is_had : (word : StepKeyword) (words : List (List ℕ)) (asked : AskedWords) → on_nil word words ≡ asked
      → has_ask_word decls.version word ≡ true → has_ask_word decls.version asked.0 ≡ true
  ask_is_had word words asked h has = elim (nil_again word words asked h) [
    | inl same ↦ ap (has_ask_word decls.version) (sym same.0) ∙ has
    | inr other ↦ has_on_nil decls.version word asked.0 other.0
  ]

  pub asks_line : (word : StepKeyword) (words : List (List ℕ)) (i : Instruction) → HasWords decls.version line (LineKeyword.Asks word) words
      → asked_in ds (on_nil word words).0 (on_nil word words).1 ≡ Some i → IsSaidLine (declared decls) line (Asks i)
  asks_line word words i has says =
      let asked = on_nil word words in
      let is = are_asked decls holds asked.0 asked.1 i says in
      let found = found_is_had decls.version first (LineKeyword.Asks word) has.named in
      let first_is = body_word first (LineKeyword.Asks word) found.0 refl in
      let front = front_is word asked words refl first_is.text (found_has_front first (LineKeyword.Asks word) found.0) in
      let had : has_ask decls.version i.ask ≡ true =
      so_it_says (λ said. has_ask decls.version i.ask ≡ has_ask_word decls.version said.0) (ask_says i.ask)
      (asked.0, is.operands) is.says (had_by_word decls.version i.ask)
      ∙ ask_is_had word words asked refl found.1 in
      record {
        line_is = joined words has.behind ∙ ap line_of front ∙ (λ k. line_of (front_words asked.0 ++ is.text k))
            ∙ ap line_of (sym (so_it_says (λ said. ask_words ds i.place i.ask ≡ front_words said.0
            ++ (map (operand_text ds) said.1 ++ i.place ∷ [])) (ask_says i.ask)
            (asked.0, is.operands) is.says (ask_words_are ds i.place i.ask)));
        says = (λ k. said_by ds (has.named k) (arguments (has.behind k))) ∙ ap (option_map Asks) says;
        declares = ap (λ ws. declared_as (word_named first) (arguments ws)) has.behind ∙ first_is.declares words;
        fits = (is.fits, is.form, had);
        cause_is = λ d same. clean_cause (LineKeyword.Asks word) words has d same
            ∙ (λ k. or_else (words_cause (same k).declarations (ask_fields asked.0) asked.1)
            (option_and_then (said_cause d) (asks_by (same k).declarations asked)))
            ∙ (λ k. or_else (is.fine k) (option_and_then (said_cause d) (option_map Asks (says k))));
      }

  -- a line that asks by a select
  pub selects_line : (words : List (List ℕ)) (i : Instruction) → HasWords decls.version line LineKeyword.Selects words
      → selected_in ds (select_words words) ≡ Ok i → IsSaidLine (declared decls) line (Asks i)
  selects_line words i has says =
      let is = are_selected decls holds words i says in
      let word = body_word first LineKeyword.Selects (found_is_had decls.version first LineKeyword.Selects has.named).0 refl in
      record {
        line_is = joined words has.behind ∙ (λ k. line_of (word.text k ∷ is.text k)) ∙ ap (λ ask. line_of (ask_words ds i.place ask)) (sym is.asks);
        says = (λ k. said_by ds (has.named k) (arguments (has.behind k))) ∙ ap (λ r. option_map Asks (result_ok r)) says;
        declares = ap (λ ws. declared_as (word_named first) (arguments ws)) has.behind ∙ word.declares words;
        fits = (is.fits, is.form, ap (has_ask decls.version) is.asks);
        cause_is = λ d same. clean_cause LineKeyword.Selects words has d same
            ∙ (λ k. or_else (result_err (selected_in (same k).declarations (select_words words)))
            (option_and_then (said_cause d) (said_by (same k).declarations (Some LineKeyword.Selects) words)))
            ∙ (λ k. or_else (result_err (says k)) (option_and_then (said_cause d) (option_map Asks (result_ok (says k)))));
      }

-- the program with one more instruction, which ends the body or not
abbrev pub grown : Draft → Instruction → List Instruction → Bool → Draft
grown d i body b =
    if b then record { version = d.version; declarations = d.declarations; ended = d.ended ++ (body ++ i ∷ []) ∷ []; unended = None }
    else record { version = d.version; declarations = d.declarations; ended = d.ended; unended = Some (body ++ i ∷ []) }

-- what more is said keeps the version and the declarations
pub said_keeps : (d : Draft) (said : Said) → declared_by (with_said d said) ≡ declared_by d
said_keeps d (Begins g) = refl
said_keeps d (Asks i) = by d.unended
  where
    ended : (body : List Instruction) (b : Bool) → declared_by (grown d i body b) ≡ declared_by d
    ended body true = refl
    ended body false = refl

    by : (o : Option (List Instruction)) → declared_by (with_instruction d i o) ≡ declared_by d
    by None = refl
    by (Some body) = ended body (is_exit i.ask)

pub all_keep : (d : Draft) (ss : List Said) → declared_by (fold with_said d ss) ≡ declared_by d
all_keep d [] = refl
all_keep d (s ∷ ss) = all_keep (with_said d s) ss ∙ said_keeps d s

-- the lines of a program are of its version, and so they are with one more
version_stays : (d : Draft) (line : List ℕ) → version_in (lines d ++ line ∷ []) ≡ version_in (lines d)
unfolding lines
version_stays d line = refl

-- what the lines say with one more of a body
pub seen_said : (line : List ℕ) (d : Draft) (said : Said) → seen (lines d) ≡ d → declaration_in line ≡ None
    → said_in (declared_by d) line ≡ Some said → seen (lines d ++ line ∷ []) ≡ with_said d said
unfolding seen
seen_said line d said is none says =
    let before = lines d in
    let old = declared_in before in
    let declarations = filter_map declaration_in before in
    let kept : filter_map declaration_in (before ++ line ∷ []) ≡ declarations =
    filter_map-append declaration_in before (line ∷ []) ∙ (λ k. declarations ++ cons_option (none k) []) ∙ append-nil declarations in
    let same : old ≡ declared_by d = sym (all_keep (nothing_said old) (filter_map (said_in old) before)) ∙ ap declared_by is in
    let one : filter_map (said_in old) (before ++ line ∷ []) ≡ filter_map (said_in old) before ++ said ∷ [] =
    filter_map-append (said_in old) before (line ∷ [])
    ∙ (λ k. filter_map (said_in old) before ++ cons_option ((ap (λ w. said_in w line) same ∙ says) k) []) in
    (λ k. all_said (record { version = version_stays d line k; declarations = kept k }) (before ++ line ∷ []))
    ∙ ap (fold with_said (nothing_said old)) one
    ∙ fold-append with_said (nothing_said old) (filter_map (said_in old) before) (said ∷ [])
    ∙ ap (λ x. with_said x said) is

-- the lines with one more body, and with one more line of the last
pub saids_body : (g : ℕ) (bodies : List (List Instruction)) (body : List Instruction)
    → saids g (bodies ++ body ∷ []) ≡ saids g bodies ++ (Begins (g + length bodies) ∷ map Asks body)
saids_body g [] body = let e : g ≡ g + 0 = omega arith in append-nil (Begins g ∷ map Asks body) ∙ ap (λ n. Begins n ∷ map Asks body) e
saids_body g (b ∷ bs) body =
    let e : g + 1 + length bs ≡ g + length (b ∷ bs) = omega arith in
    ap (λ l. (Begins g ∷ map Asks b) ++ l) (saids_body (g + 1) bs body)
    ∙ sym (append_assoc (Begins g ∷ map Asks b) (saids (g + 1) bs) (Begins (g + 1 + length bs) ∷ map Asks body))
    ∙ ap (λ n. ((Begins g ∷ map Asks b) ++ saids (g + 1) bs) ++ (Begins n ∷ map Asks body)) e

saids_more : (bodies : List (List Instruction)) (body : List Instruction) (i : Instruction)
    → saids 0 (bodies ++ (body ++ i ∷ []) ∷ []) ≡ saids 0 (bodies ++ body ∷ []) ++ Asks i ∷ []
saids_more bodies body i =
    saids_body 0 bodies (body ++ i ∷ [])
    ∙ ap (λ l. saids 0 bodies ++ (Begins (0 + length bodies) ∷ l)) (map-append Asks body (i ∷ []))
    ∙ sym (append_assoc (saids 0 bodies) (Begins (0 + length bodies) ∷ map Asks body) (Asks i ∷ []))
    ∙ ap (λ l. l ++ Asks i ∷ []) (sym (saids_body 0 bodies body))

-- what is said where it may stand is the last that the bodies say
said_last : (d : Draft) (said : Said) → said_cause d said ≡ None → saids 0 (bodies_of (with_said d said)) ≡ saids 0 (bodies_of d) ++ said ∷ []
said_last d (Begins g) none = by d.unended (length d.ended == g) refl none
  where
    by : (o : Option (List Instruction)) (b : Bool) → (length d.ended == g) ≡ b → (if is_none o && b then None else Some TextCause.BadBlock) ≡ None
        → saids 0 (d.ended ++ [] ∷ []) ≡ saids 0 (option_map_or (λ body. d.ended ++ body ∷ []) o d.ended) ++ Begins g ∷ []
    by (Some body) b e h = absurd (none-some TextCause.BadBlock (sym h))
    by None false e h = absurd (none-some TextCause.BadBlock (sym h))
    by None true e h =
        let same : 0 + length d.ended ≡ g = grind (arith, nat_tests, e) in
        saids_body 0 d.ended [] ∙ ap (λ n. saids 0 d.ended ++ Begins n ∷ []) same
said_last d (Asks i) none = by d.unended none
  where
    ended : (body : List Instruction) (b : Bool) → saids 0 (bodies_of (grown d i body b)) ≡ saids 0 (d.ended ++ body ∷ []) ++ Asks i ∷ []
    ended body true = saids_more d.ended body i
    ended body false = saids_more d.ended body i

    by : (o : Option (List Instruction)) → asked_cause d i o ≡ None
        → saids 0 (bodies_of (with_instruction d i o)) ≡ saids 0 (option_map_or (λ body. d.ended ++ body ∷ []) o d.ended) ++ Asks i ∷ []
    by None h = absurd (none-some TextCause.BadBlock (sym h))
    by (Some body) h = ended body (is_exit i.ask)

pub lines_said : (d : Draft) (said : Said) → said_cause d said ≡ None → lines (with_said d said) ≡ lines d ++ said_line d.declarations said ∷ []
unfolding lines
lines_said d said none =
    let ds = d.declarations in
    let before = header d.version ∷ map declaration_line ds in
    (λ k. header (said_keeps d said k).version ∷ map declaration_line (said_keeps d said k).declarations
    ++ map (said_line (said_keeps d said k).declarations) (saids 0 (bodies_of (with_said d said))))
    ∙ ap (λ l. before ++ map (said_line ds) l) (said_last d said none)
    ∙ ap (λ l. before ++ l) (map-append (said_line ds) (saids 0 (bodies_of d)) (said ∷ []))
    ∙ sym (append_assoc before (map (said_line ds) (saids 0 (bodies_of d))) (said_line ds said ∷ []))

-- the cause of a line behind others, by what they say
pub cause_behind : (d : Draft) (line : List ℕ) → seen (lines d) ≡ d → cause (lines d) line true ≡ line_cause d line
unfolding lines cause
cause_behind d line is = ap (λ x. line_cause x line) is
