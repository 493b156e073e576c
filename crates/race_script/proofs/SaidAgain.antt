-- What is printed of a line of a body says it again.
use Rattle.std.proofs.Common.{◌≡◌, ℕ, Bool, true, false, nat_lt, if◌then◌else◌, List, [], ◌∷◌, ◌++◌, map, codes, Option}
use Rattle.std.proofs.Common.{Some, None, IfSome, refl, sym, ap, subst, ◌∙◌, ◌&&◌, ◌^◌, arith, is_some}
use Rattle.std.{proofs.lemmas.Bool.Decides.nat_tests, specs.{Option.option_map_or, Str.bytes_eq}}
use Rattle.race_records.specs.declared.{kind.{Kind.Kind, Named.Named}, operands.OperandKind.OperandKind, version.Version.Version}
use Rattle.race_records.specs.{Declarations.{Declaration, DeclsState, IsWellFormed, counts_of}, Equality.declared}
use Rattle.race_records.specs.Name.{is_name}
use Rattle.race_requests.specs.{declared.request.{Ask.Ask, Offer.Offer}, Sound.has_ask}
use Rattle.race_text.specs.{Form.{word_named, first_word}, Select.nil, Text.{line_of, goroutine_name, chan_name}}
use Rattle.race_text.{specs.{Words.has_bad_byte, Writing.operand_text}, proofs.{CaseWords.not_nil, UsedNames.used_again}}
use Rattle.race_text.proofs.{WordLemmas.both, WordsAgain.{AreVisible, words_again, visible_line_clean}}
use Rattle.race_script.specs.{declared.form.{StepKeyword.StepKeyword, LineKeyword.LineKeyword}, Form.{line_word, has_ask_word}}
use Rattle.race_script.specs.Form.{has_line_word, line_word_in, word_on_nil, AskedWords, on_nil}
use Rattle.race_script.specs.{Offers.{offers_text, mode_text}, Program.{Instruction, ask_fits}, Reader.HasWords}
use Rattle.race_script.specs.{Reading.{asked_at, asked_in}, Text.{Said, Begins, Asks, ask_words, said_line}}
use Rattle.race_script.proofs.AskTable.{SaidAsk, ask_says, so_it_says, selects_alone, ask_words_are, front_words}
use Rattle.race_script.proofs.AskTable.{body_word, had_by_word, had_is_found, begins_again, selects_again}
use Rattle.race_script.proofs.LineLemmas.{SaidFits, IsSaidLine, begins_line, asks_line, selects_line}
use Rattle.race_script.proofs.{SaidLines.{asked_again, begun_again}, SelectLines.selected_again}

-- a word of which nil can't be asked
plain : (word : StepKeyword) (args : List (List ℕ)) → word_on_nil word ≡ None → on_nil word args ≡ (word, args)
plain word [] h = refl
plain word (w ∷ ws) h = by (bytes_eq w nil)
  where
    by : (b : Bool) → ◌≡◌ {A = AskedWords} (if b then option_map_or (λ other. (other, ws)) (word_on_nil word) (word, w ∷ ws) else (word, w ∷ ws)) (word, w ∷ ws)
    by true = ap (λ o. option_map_or (λ other. (other, ws)) o (word, w ∷ ws)) h
    by false = refl

-- and one of which it isn't
named : (word : StepKeyword) (w : List ℕ) (ws : List (List ℕ)) → is_name w ≡ true → on_nil word (w ∷ ws) ≡ (word, w ∷ ws)
named word w ws form = ap (λ b. if b then option_map_or (λ other. (other, ws)) (word_on_nil word) (word, w ∷ ws) else (word, w ∷ ws)) (not_nil w form)

-- the words in front of what an ask says, with others behind them
record IsFront (word : StepKeyword) (args : List (List ℕ)) : Type 0 where
  table : StepKeyword
  first : List ℕ
  rest : List (List ℕ)
  words : front_words word ++ args ≡ first ∷ rest
  known : line_word first ≡ Some (LineKeyword.Asks table)
  had : (version : Version) → has_ask_word version table ≡ has_ask_word version word
  cut : on_nil table rest ≡ (word, args)
  visible : AreVisible args → AreVisible rest

-- the front is the word alone, and stays
alone : (word : StepKeyword) (first : List ℕ) (args : List (List ℕ)) → front_words word ≡ first ∷ [] → line_word first ≡ Some (LineKeyword.Asks word)
    → on_nil word args ≡ (word, args) → IsFront word args
alone word first args is known cut = record {
  table = word;
  first = first;
  rest = args;
  words = ap (λ (ws : List (List ℕ)). ws ++ args) is;
  known = known;
  had = λ version. refl;
  cut = cut;
  visible = λ v. v;
}

module _ (decls : DeclsState) (holds : IsWellFormed decls) where
  abbrev ds : List Declaration
  ds = decls.declarations

  chan_is_name : (c : ℕ) → nat_lt c (counts_of ds Kind.Chan) ≡ true → is_name (chan_name ds c) ≡ true
  chan_is_name c less = (used_again decls holds (OperandKind.Object Kind.Chan) (Named.Chan c) refl (grind (arith, nat_tests, less))).1

  front_again : (ask : Ask) (place : List ℕ) → ask_fits ds ask ≡ true → IfSome (ask_says ask) (λ said. IsFront said.0 (map (operand_text ds) said.1 ++ place ∷ []))
  unfolding line_word word_named
  front_again (Ask.Send None w) place fits =
      record { table = StepKeyword.Send; first = codes "send"; rest = _; words = refl; known = refl; had = λ version. refl; cut = refl; visible = λ v. (refl, v) }
  front_again (Ask.Send (Some c) w) place fits =
      let less = both (nat_lt c (counts_of ds Kind.Chan)) true (both (nat_lt c (counts_of ds Kind.Chan) && true) (nat_lt w (2 ^ 64)) fits).0 in
      alone StepKeyword.Send (codes "send") _ refl refl (named StepKeyword.Send (chan_name ds c) _ (chan_is_name c less.0))
  front_again (Ask.Recv None) place fits =
      record { table = StepKeyword.Recv; first = codes "recv"; rest = _; words = refl; known = refl; had = λ version. refl; cut = refl; visible = λ v. (refl, v) }
  front_again (Ask.Recv (Some c)) place fits =
      let less = both (nat_lt c (counts_of ds Kind.Chan)) true (both (nat_lt c (counts_of ds Kind.Chan) && true) true fits).0 in
      alone StepKeyword.Recv (codes "recv") _ refl refl (named StepKeyword.Recv (chan_name ds c) _ (chan_is_name c less.0))
  front_again (Ask.Close None) place fits =
      record { table = StepKeyword.Close; first = codes "close"; rest = _; words = refl; known = refl; had = λ version. refl; cut = refl; visible = λ v. (refl, v) }
  front_again (Ask.Close (Some c)) place fits =
      let less = both (nat_lt c (counts_of ds Kind.Chan)) true (both (nat_lt c (counts_of ds Kind.Chan) && true) true fits).0 in
      alone StepKeyword.Close (codes "close") _ refl refl (named StepKeyword.Close (chan_name ds c) _ (chan_is_name c less.0))
  front_again (Ask.Select offers has_default) place fits = tt
  front_again _ place fits = alone _ _ _ refl refl (plain _ _ refl)

  -- words that can be seen are those of their line
  has_words : (first : List ℕ) (rest : List (List ℕ)) (word : LineKeyword) → line_word first ≡ Some word → has_line_word decls.version word ≡ true
      → AreVisible (first ∷ rest) → HasWords decls.version (line_of (first ∷ rest)) word rest
  has_words first rest word known has visible =
      let again = words_again first rest visible in
      record {
        clean = visible_line_clean (first ∷ rest) visible;
        named = ap (λ ws. line_word_in decls.version (first_word ws)) again ∙ had_is_found decls.version first word known has;
        behind = again ∙ ap (λ ws. first_word ws ∷ rest) (sym again);
      }

  -- what is printed of an ask of the table says it
  asked_line : (i : Instruction) (said : SaidAsk) → ask_says i.ask ≡ Some said → SaidFits (declared decls) (Asks i)
      → (IsSaidLine (declared decls) (said_line ds (Asks i)) (Asks i)) × (has_bad_byte (said_line ds (Asks i)) ≡ false)
  asked_line i said says fits =
      let args = map (operand_text ds) said.1 ++ i.place ∷ [] in
      let again = asked_again decls holds i said says fits.0 fits.1 in
      let is = so_it_says (λ said. IsFront said.0 (map (operand_text ds) said.1 ++ i.place ∷ [])) (ask_says i.ask) said says (front_again i.ask i.place fits.0) in
      let visible : AreVisible (is.first ∷ is.rest) = ((body_word is.first (LineKeyword.Asks is.table) is.known refl).seen, is.visible again.1) in
      let words = so_it_says (λ said. ask_words ds i.place i.ask ≡ front_words said.0 ++ (map (operand_text ds) said.1 ++ i.place ∷ [])) (ask_says i.ask) said says
      (ask_words_are ds i.place i.ask) in
      let line : said_line ds (Asks i) ≡ line_of (is.first ∷ is.rest) = ap line_of (words ∙ is.words) in
      let reads : asked_in ds (on_nil is.table is.rest).0 (on_nil is.table is.rest).1 ≡ Some i =
      ap (λ (a : AskedWords). asked_in ds a.0 a.1) is.cut ∙ again.0 in
      let had : has_ask_word decls.version is.table ≡ true =
      is.had decls.version
      ∙ sym (so_it_says (λ said. has_ask decls.version i.ask ≡ has_ask_word decls.version said.0) (ask_says i.ask) said says (had_by_word decls.version i.ask))
      ∙ fits.2 in
      let whole = asks_line decls holds (line_of (is.first ∷ is.rest)) is.table is.rest i
      (has_words is.first is.rest (LineKeyword.Asks is.table) is.known had visible) reads in
      (subst (λ l. IsSaidLine (declared decls) l (Asks i)) (sym line) whole, ap has_bad_byte line ∙ visible_line_clean (is.first ∷ is.rest) visible)

  -- and of a select
  selected_line : (offers : List Offer) (has_default : Bool) (place : List ℕ) → SaidFits (declared decls) (Asks (asked_at (Ask.Select offers has_default) place))
      → (IsSaidLine (declared decls) (said_line ds (Asks (asked_at (Ask.Select offers has_default) place))) (Asks (asked_at (Ask.Select offers has_default) place)))
      × (has_bad_byte (said_line ds (Asks (asked_at (Ask.Select offers has_default) place))) ≡ false)
  selected_line offers has_default place fits =
      let i = asked_at (Ask.Select offers has_default) place in
      let args = offers_text ds offers ∷ mode_text has_default ∷ place ∷ [] in
      let again = selected_again decls holds offers has_default place fits.0 fits.1 in
      let visible : AreVisible (codes "select" ∷ args) = (refl, again.1) in (
        selects_line decls holds (said_line ds (Asks i)) args i (has_words (codes "select") args LineKeyword.Selects selects_again refl visible) again.0,
        visible_line_clean (codes "select" ∷ args) visible,
      )

  pub said_again : (said : Said) → SaidFits (declared decls) said
      → (IsSaidLine (declared decls) (said_line ds said) said) × (has_bad_byte (said_line ds said) ≡ false)
  said_again (Begins g) less =
      let again = begun_again decls holds g less in
      let visible : AreVisible (codes "body" ∷ goroutine_name ds g ∷ []) = (refl, again.1) in (
        begins_line decls holds (said_line ds (Begins g)) (goroutine_name ds g ∷ []) g
            (has_words (codes "body") (goroutine_name ds g ∷ []) LineKeyword.Begins begins_again refl visible) again.0,
        visible_line_clean (codes "body" ∷ goroutine_name ds g ∷ []) visible,
      )
  said_again (Asks i) fits = by (ask_says i.ask) refl
    where
      by : (o : Option SaidAsk) → ask_says i.ask ≡ o
          → (IsSaidLine (declared decls) (said_line ds (Asks i)) (Asks i)) × (has_bad_byte (said_line ds (Asks i)) ≡ false)
      by (Some said) e = asked_line i said e fits
      by None e =
          let is = selects_alone i.ask e in
          let same : i ≡ asked_at (Ask.Select is.0 is.1) i.place = ap (λ ask. asked_at ask i.place) is.2 in
          subst (λ (x : Instruction). (IsSaidLine (declared decls) (said_line ds (Asks x)) (Asks x)) × (has_bad_byte (said_line ds (Asks x)) ≡ false)) (sym same)
          (selected_line is.0 is.1 i.place (subst (λ (x : Instruction). SaidFits (declared decls) (Asks x)) same fits))

-- the word of an ask is known in the versions that have it alone
pub ask_known : (version : Version) (ds : List Declaration) (place : List ℕ) (ask : Ask)
    → is_some (line_word_in version (first_word (ask_words ds place ask))) ≡ has_ask version ask
unfolding line_word word_named
ask_known Version.One ds place (Ask.TryLock l) = refl
ask_known Version.Two ds place (Ask.TryLock l) = refl
ask_known Version.One ds place (Ask.TryRLock l) = refl
ask_known Version.Two ds place (Ask.TryRLock l) = refl
ask_known version ds place _ = refl
