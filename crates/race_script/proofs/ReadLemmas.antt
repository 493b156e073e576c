-- One more line that is read: of a body, or a declaration, or the header.
use Rattle.std.proofs.Common.{◌≡◌, ℕ, suc, ◌<◌, ◌==◌, ◌&&◌, Bool, true, false, true≢false, nat_lt, if◌then◌else◌}
use Rattle.std.proofs.Common.{is_none, List, [], ◌∷◌, ◌++◌, length, map, get_or, unwrap_or, Option, Some, None, Result}
use Rattle.std.proofs.Common.{Ok, Err, IfOk, IfSome, MatchResult, fold, refl, sym, ap, subst, ◌∙◌, arith, append-nil}
use Rattle.std.proofs.lemmas.{Bool.Decides.nat_tests, List.{length-append, length-map, map-append}}
use Rattle.std.{proofs.lemmas.{Option.{none-some, same_Some}, Slice.Eq.bytes_eq-Decides}, specs.List.filter_map}
use Rattle.std.specs.{List.{cons_option, list_all, flat_map}, Option.{option_and_then, option_map_or}, Str.bytes_eq}
use Rattle.std.specs.Result.{result_err}
use Rattle.race_records.specs.declared.{kind.Kind.Kind, decl_keywords.DeclKeyword.DeclKeyword, version.Version.Version}
use Rattle.race_records.specs.Declarations.{Declaration, DeclsState, IsWellFormed, count_of, with_declaration}
use Rattle.race_records.specs.{Equality.{Declared, declared}, Refusal.{Refuses, AllowsUnless}}
use Rattle.race_records.proofs.{DeclFaultLemmas.allowed_from_no_fault, DeclsKept.{empty_well_formed, push_well_formed}}
use Rattle.race_requests.specs.declared.request.Request.{Request}
use Rattle.race_text.specs.{declared.{cause.TextCause.TextCause, form.Word.Word}, Declaring.is_declaration_line}
use Rattle.race_text.specs.Declaring.{is_declaration_word, declaration_cause, with_declared, with_declaration_in}
use Rattle.race_text.specs.Fault.{or_else, seen_so_far, declaration_in, header_cause, word_cause as text_cause}
use Rattle.race_text.specs.{Form.{word_named, first_word, arguments}, Lines.GoesOn, Owed.owed, Reader.nothing_in}
use Rattle.race_text.specs.{Text.{declaration_line, ended}, Words.{words_of, has_bad_byte}}
use Rattle.race_text.proofs.{ReaderLemmas.declaration_of_line, TextLaws.{IsDeclarationLine, declaration_again}}
use Rattle.race_text.proofs.WordLemmas.{both}
use Rattle.race_script.specs.{declared.form.{StepKeyword.StepKeyword, LineKeyword.LineKeyword}, Fault.{words_cause, said_cause}}
use Rattle.race_script.specs.Fault.{word_cause, line_cause, cause, end_cause, program_causes, is_whole}
use Rattle.race_script.specs.{Form.{line_word, line_word_in, on_nil, ask_fields, begin_fields}, Offers.select_words}
use Rattle.race_script.specs.Program.{Instruction, Draft, IsProgram, draft_of, is_body_of, spelled, bodies_of}
use Rattle.race_script.specs.{Program.places_of, Reader.{UnendedState, ReadState, draft_read, spelled_unended}}
use Rattle.race_script.specs.Reader.{lines_by, lines_read, program_read, IsUnended, IsRead, IsReadBy, HasWords}
use Rattle.race_script.specs.{Reader.{TakesSaid, TakesLine, TakesOrTells}, Reading.{version_said, selected_in, said_by}}
use Rattle.race_script.specs.Reading.{asks_by, said_in, with_said, nothing_said, all_said, declared_in, seen}
use Rattle.race_script.specs.Text.{header, Said, lines, draft_text, program_text}
use Rattle.race_script.proofs.ParseLemmas.{header_before_end, end_empty}
use Rattle.race_script.proofs.{AskTable.{decl_keyword_word, decl_keyword_word_in, found_is_had}, LineLemmas.{IsSaidLine, clean_cause}}
use Rattle.race_script.proofs.LineLemmas.{seen_said, lines_said, cause_behind}

-- lines that declare say nothing of bodies, and all that is declared
pub all_declared : (ds : List Declaration) → ((i : ℕ) (d : Declaration) → i < length ds → IsDeclarationLine (get_or ds i d) (declaration_line (get_or ds i d)))
    → (filter_map declaration_in (map declaration_line ds) ≡ ds) × ((w : Declared) → filter_map (said_in w) (map declaration_line ds) ≡ [])
all_declared [] each = (refl, λ w. refl)
all_declared (d ∷ ds) each =
    let is = each 0 d (omega arith) in
    let rest = all_declared ds (λ i e less. each (suc i) e (omega (arith, less))) in (
      (λ k. cons_option (is.declares k) (rest.0 k)),
      λ w k. cons_option (ap (λ o. said_by w.declarations o (arguments (words_of (declaration_line d))))
          (decl_keyword_word_in w.version (first_word (words_of (declaration_line d))) _ is.named) k) (rest.1 w k),
    )

pub declaration_lines : (decls : DeclsState) → IsWellFormed decls
    → (i : ℕ) (d : Declaration) → i < length decls.declarations
    → IsDeclarationLine (get_or decls.declarations i d) (declaration_line (get_or decls.declarations i d))
declaration_lines decls holds i d less = declaration_again (get_or decls.declarations i d) (holds.names i d less) (holds.capacities i d less)

header_scanned : (ds : List Declaration) (version : Version)
    → (declaration_in (header version) ≡ None) × (said_in (record { version = version; declarations = ds }) (header version) ≡ None)
unfolding word_named line_word
header_scanned ds Version.One = (refl, refl)
header_scanned ds Version.Two = (refl, refl)

-- a header says its version
pub header_said : (version : Version) → version_said (header version) ≡ Some version
header_said Version.One = refl
header_said Version.Two = refl

header_version : (version : Version) → unwrap_or (version_said (header version)) Version.One ≡ version
header_version version = ap (λ o. unwrap_or o Version.One) (header_said version)

-- and what says a version is its header
pub said_header : (line : List ℕ) (version : Version) → version_said line ≡ Some version → line ≡ header version
said_header line version h = by (bytes_eq line (header Version.One)) (bytes_eq line (header Version.Two)) refl refl h
  where
    by : (a b : Bool) → bytes_eq line (header Version.One) ≡ a → bytes_eq line (header Version.Two) ≡ b
        → (if a then Some Version.One else (if b then Some Version.Two else None)) ≡ Some version → line ≡ header version
    by true b e f h = (bytes_eq-Decides line (header Version.One)).0 e ∙ ap header (same_Some Version.One version h)
    by false true e f h = (bytes_eq-Decides line (header Version.Two)).0 f ∙ ap header (same_Some Version.Two version h)
    by false false e f h = absurd (none-some version h)

-- the program of this version of which nothing is told but what is declared
abbrev pub nothing_but : Version → List Declaration → Draft
nothing_but version ds = nothing_said (record { version = version; declarations = ds })

-- what the lines say before a body begins
pub seen_by_lines : (version : Version) (ds : List Declaration)
    → ((i : ℕ) (d : Declaration) → i < length ds → IsDeclarationLine (get_or ds i d) (declaration_line (get_or ds i d)))
    → seen (lines (nothing_but version ds)) ≡ nothing_but version ds
unfolding seen lines
seen_by_lines version ds are =
    let w : Declared = record { version = version; declarations = ds } in
    let each = all_declared ds are in
    let first = header version in
    let none : first ∷ map declaration_line ds ++ [] ≡ first ∷ map declaration_line ds = append-nil (first ∷ map declaration_line ds) in
    ap (λ ls. all_said (declared_in ls) ls) none
    ∙ (λ k. all_said (record {
      version = header_version version k;
      declarations = ((λ j. cons_option ((header_scanned ds version).0 j) (filter_map declaration_in (map declaration_line ds))) ∙ each.0) k;
    }) (first ∷ map declaration_line ds))
    ∙ ap (λ ss. fold with_said (nothing_said w) ss)
    ((λ k. cons_option ((header_scanned ds version).1 k) (filter_map (said_in w) (map declaration_line ds))) ∙ each.1 w)

pub seen_declared : (decls : DeclsState) → IsWellFormed decls
    → seen (lines (nothing_but decls.version decls.declarations)) ≡ nothing_but decls.version decls.declarations
seen_declared decls holds = seen_by_lines decls.version decls.declarations (declaration_lines decls holds)

pub lines_declared : (version : Version) (ds : List Declaration) (e : Declaration)
    → lines (nothing_but version (ds ++ e ∷ [])) ≡ lines (nothing_but version ds) ++ declaration_line e ∷ []
unfolding lines
lines_declared version ds e =
    let first = header version in
    append-nil (first ∷ map declaration_line (ds ++ e ∷ []))
    ∙ ap (λ l. first ∷ l) (map-append declaration_line ds (e ∷ []))
    ∙ ap (λ l. l ++ declaration_line e ∷ []) (sym (append-nil (first ∷ map declaration_line ds)))

module _ (old : ReadState) (read : IsRead old) (line : List ℕ) where
  abbrev d : Draft
  d = draft_read old

  abbrev ds : List Declaration
  ds = old.decls.declarations

  pub told_by_line : (told : TextCause) → line_cause d line ≡ Some told → cause (lines d) line true ≡ Some told
  told_by_line told h = cause_behind d line read.seen_is ∙ h

  -- what a line of a body says
  pub said_told : (said : Said) (told : TextCause) → IsSaidLine (declared old.decls) line said → said_cause d said ≡ Some told → cause (lines d) line true ≡ Some told
  said_told said told is h = told_by_line told (is.cause_is d refl ∙ h)

  pub said_taken : (said : Said) (new : ReadState) → IsSaidLine (declared old.decls) line said → TakesSaid old said new → TakesLine old line new
  said_taken said new is takes =
      let after : lines (draft_read new) ≡ lines d ++ line ∷ [] =
      ap lines takes.draft ∙ lines_said d said takes.no_cause ∙ ap (λ l. lines d ++ l ∷ []) (sym is.line_is) in
      record {
        header = takes.header;
        goes = record { no_cause = cause_behind d line read.seen_is ∙ is.cause_is d refl ∙ takes.no_cause; lines = after };
        read = record {
          sound = takes.sound;
          seen_is = ap seen after ∙ seen_said line d said read.seen_is is.declares is.says ∙ sym takes.draft;
        };
      }

  pub said_answered : (said : Said) (r : Result (Unit {0}) TextCause) (new : ReadState) → IsSaidLine (declared old.decls) line said
      → MatchResult r (λ _. TakesSaid old said new) (λ told. told ≡ owed (said_cause d said)) → TakesOrTells old line r new
  said_answered said (Ok u) new is takes = said_taken said new is takes
  said_answered said (Err told) new is tells =
      tells ∙ sym (ap owed (cause_behind d line read.seen_is ∙ is.cause_is d refl))

  -- the words behind the first
  pub begin_told : (words : List (List ℕ)) (told : TextCause) → HasWords old.decls.version line LineKeyword.Begins words → words_cause ds begin_fields words ≡ Some told
      → cause (lines d) line true ≡ Some told
  begin_told words told has h =
      told_by_line told (clean_cause old.decls read.sound.well_formed line LineKeyword.Begins words has d refl
      ∙ ap (λ c. or_else c (option_and_then (said_cause d) (said_by ds (Some LineKeyword.Begins) words))) h)

  pub asks_told : (word : StepKeyword) (words : List (List ℕ)) (told : TextCause) → HasWords old.decls.version line (LineKeyword.Asks word) words
      → words_cause ds (ask_fields (on_nil word words).0) (on_nil word words).1 ≡ Some told → cause (lines d) line true ≡ Some told
  asks_told word words told has h =
      told_by_line told (clean_cause old.decls read.sound.well_formed line (LineKeyword.Asks word) words has d refl
      ∙ ap (λ c. or_else c (option_and_then (said_cause d) (asks_by ds (on_nil word words)))) h)

  pub selects_told : (words : List (List ℕ)) (told : TextCause) → HasWords old.decls.version line LineKeyword.Selects words
      → result_err (selected_in ds (select_words words)) ≡ Some told → cause (lines d) line true ≡ Some told
  selects_told words told has h =
      told_by_line told (clean_cause old.decls read.sound.well_formed line LineKeyword.Selects words has d refl
      ∙ ap (λ c. or_else c (option_and_then (said_cause d) (said_by ds (Some LineKeyword.Selects) words))) h)

  pub bad_byte_told : has_bad_byte line ≡ true → cause (lines d) line true ≡ Some TextCause.BadByte
  unfolding line_cause
  bad_byte_told bad = told_by_line TextCause.BadByte
      (ap (λ b. if b then Some TextCause.BadByte else word_cause d (line_word_in d.version (first_word (words_of line))) (arguments (words_of line))) bad)

  pub unknown_told : has_bad_byte line ≡ false → line_word_in old.decls.version (first_word (words_of line)) ≡ None
      → cause (lines d) line true ≡ Some TextCause.UnknownWord
  unfolding line_cause
  unknown_told clean none = told_by_line TextCause.UnknownWord
      (ap (λ b. if b then Some TextCause.BadByte else word_cause d (line_word_in d.version (first_word (words_of line))) (arguments (words_of line))) clean
      ∙ ap (λ w. word_cause d w (arguments (words_of line))) none)

  -- a line that declares
  module _ (keyword : DeclKeyword) (words : List (List ℕ)) (has : HasWords old.decls.version line (LineKeyword.Declares keyword) words) where
    pub declares_cause : cause (lines d) line true ≡ text_cause (seen_so_far ds (length (bodies_of d))) (Some (Word.Declares keyword)) words
    declares_cause = cause_behind d line read.seen_is ∙ clean_cause old.decls read.sound.well_formed line (LineKeyword.Declares keyword) words has d refl

    named : word_named (first_word (words_of line)) ≡ Some (Word.Declares keyword)
    named = decl_keyword_word (first_word (words_of line)) keyword (found_is_had old.decls.version (first_word (words_of line)) (LineKeyword.Declares keyword) has.named).0

    declares : is_declaration_line line ≡ true
    declares = ap is_declaration_word named

    by_itself : declaration_cause ds line ≡ text_cause (seen_so_far ds 0) (Some (Word.Declares keyword)) words
    by_itself = λ k. if is_declaration_word (named k) then text_cause (seen_so_far ds 0) (named k) (arguments (has.behind k)) else None

    module _ (none : length (bodies_of d) ≡ 0) where
      pub first_cause : cause (lines d) line true ≡ declaration_cause ds line
      first_cause = declares_cause ∙ (λ k. text_cause (seen_so_far ds (none k)) (Some (Word.Declares keyword)) words) ∙ sym by_itself

      no_bodies : (o : Option UnendedState)
          → length (option_map_or (λ (x : List Instruction). d.ended ++ x ∷ []) (spelled_unended old.decls.places o) d.ended) ≡ 0
          → (old.ended ≡ []) × (o ≡ None)
      no_bodies None h = (by old.ended (let len = length-map old.ended (spelled old.decls.places) in omega (arith, len, h)), refl)
        where
          by : (l : List (List Request)) → length l ≡ 0 → l ≡ []
          by [] h = refl
          by (x ∷ xs) h = absurd (omega (arith, h))
      no_bodies (Some u) h = let len = length-append d.ended (spelled old.decls.places u.requests ∷ []) in absurd (omega (arith, h, len))

      pub declared_taken : (new : ReadState) → declaration_cause ds line ≡ None → new.has_header ≡ true → new.decls ≡ with_declaration_in old.decls line
          → new.ended ≡ old.ended → new.unended ≡ old.unended → TakesLine old line new
      declared_taken new fine header decls_are ended unended =
          let is = declaration_of_line ds line declares fine in
          let nothing = no_bodies old.unended none in
          let more = with_declaration old.decls is.d.name is.d.object in
          let decls_is : new.decls ≡ more = decls_are ∙ ap (with_declared old.decls) is.is in
          let holds : IsWellFormed more = push_well_formed old.decls read.sound.well_formed is.d.name is.d.object
          (allowed_from_no_fault ds is.d.object is.d.name is.fine) in
          let before : d ≡ nothing_but old.decls.version ds =
          λ k. record {
            version = old.decls.version;
            declarations = ds;
            ended = map (spelled old.decls.places) (nothing.0 k);
            unended = spelled_unended old.decls.places (nothing.1 k);
          } in
          let after : draft_read new ≡ nothing_but old.decls.version more.declarations =
          λ k. record {
            version = (decls_is k).version;
            declarations = (decls_is k).declarations;
            ended = map (spelled (decls_is k).places) ((ended ∙ nothing.0) k);
            unended = spelled_unended (decls_is k).places ((unended ∙ nothing.1) k);
          } in
          let lines_are : lines (draft_read new) ≡ lines d ++ line ∷ [] =
          ap lines after ∙ lines_declared old.decls.version ds is.d ∙ (λ k. lines (sym before k) ++ sym is.text k ∷ []) in
          record {
            header = header;
            goes = record { no_cause = first_cause ∙ fine; lines = lines_are };
            read = record {
              sound = record {
                well_formed = subst IsWellFormed (sym decls_is) holds;
                ended = subst (λ (p : DeclsState × List (List Request)). list_all (is_body_of p.0) p.1 ≡ true)
                    (λ k. (new.decls, sym (ended ∙ nothing.0) k)) refl;
                unended = subst (λ (o : Option UnendedState). IfSome o (IsUnended new.decls)) (sym (unended ∙ nothing.1)) tt;
                places = ap places_of after ∙ sym (ap places_of before) ∙ read.sound.places ∙ ap (λ (x : DeclsState). x.places) (sym decls_is);
                few = let zero = ap (λ (x : Draft). length (bodies_of x)) after in omega (arith, zero);
              };
              seen_is = ap (λ x. seen (lines x)) after ∙ seen_declared more holds ∙ sym after;
            };
          }

      pub declared_answered : (r : Result Bool TextCause) (new : ReadState) → Refuses (declaration_cause ds line) r
          → AllowsUnless (declaration_cause ds line) r TextCause.OutOfMemory → IfOk r (λ added. added ≡ is_declaration_line line)
          → (r ≡ Ok true → new.decls ≡ with_declaration_in old.decls line) → new.has_header ≡ true → new.ended ≡ old.ended → new.unended ≡ old.unended
          → (s : Result (Unit {0}) TextCause) → MatchResult r (λ _. s ≡ Ok tt) (λ told. s ≡ Err told) → TakesOrTells old line s new
      declared_answered (Ok added) new refused allowed ok taken header ended unended s is =
          subst (λ s. TakesOrTells old line s new) (sym is)
          (declared_taken new (by (declaration_cause ds line) refused) header (taken (λ k. Ok ((ok ∙ declares) k))) ended unended)
        where
          by : (o : Option TextCause) → Refuses {T = Bool} o (Ok added) → o ≡ None
          by None h = refl
          by (Some f) h = let wrong = h f refl in absurd (cc)
      declared_answered (Err e) new refused allowed ok taken header ended unended s is =
          subst (λ s. TakesOrTells old line s new) (sym is) (by (declaration_cause ds line) refl refused allowed)
        where
          by : (o : Option TextCause) → declaration_cause ds line ≡ o → Refuses {T = Bool} o (Err e)
              → AllowsUnless {T = Bool} o (Err e) TextCause.OutOfMemory → e ≡ owed (cause (lines d) line true)
          by None is refused allowed = allowed refl ∙ sym (ap owed (first_cause ∙ is))
          by (Some f) is refused allowed =
              let told = refused f refl in
              let same : e ≡ f = cc in
              same ∙ sym (ap owed (first_cause ∙ is))

-- the header
abbrev pub nothing_read : Version → ReadState
nothing_read version = record { has_header = true; decls = nothing_in version; ended = []; unended = None }

pub nothing_is_read : (version : Version) → IsRead (nothing_read version)
nothing_is_read version = record {
  sound = record { well_formed = empty_well_formed; ended = refl; unended = tt; places = refl; few = omega arith };
  seen_is = seen_declared (nothing_in version) empty_well_formed;
}

pub nothing_lines_read : (version : Version) → lines (draft_read (nothing_read version)) ≡ header version ∷ []
unfolding lines
nothing_lines_read version = refl

-- what was read where the header alone was
pub record IsBegun (s : ReadState) (version : Version) : Type 0 where
  pub first : s.has_header ≡ true
  pub decls : s.decls ≡ nothing_in version
  pub ended : s.ended ≡ []
  pub unended : s.unended ≡ None

module _ (s : ReadState) (version : Version) (is : IsBegun s version) where
  is_nothing : s ≡ nothing_read version
  is_nothing = λ k. record { has_header = is.first k; decls = is.decls k; ended = is.ended k; unended = is.unended k }

  pub header_read : IsRead s
  header_read = subst IsRead (sym is_nothing) (nothing_is_read version)

  pub header_taken : (line : List ℕ) → version_said line ≡ Some version → GoesOn program_causes [] line (lines (draft_read s))
  unfolding cause
  header_taken line says = record {
    no_cause = ap (λ o. header_cause o true) says;
    lines = ap (λ x. lines (draft_read x)) is_nothing ∙ nothing_lines_read version ∙ (λ k. sym (said_header line version says) k ∷ []);
  }

pub header_told : (line : List ℕ) → version_said line ≡ None → cause [] line true ≡ Some TextCause.BadHeader
unfolding cause
header_told line h = ap (λ o. header_cause o true) h

-- the end
pub end_header : (last : List ℕ) (o : Option Version) → version_said last ≡ o → end_cause [] last ≡ header_cause o false
unfolding cause end_cause
end_header last o h = by (length last == 0)
  where
    by : (b : Bool) → (if b && nat_lt 0 0 then (if is_whole (seen []) then None else Some TextCause.BadBlock) else cause [] last false) ≡ header_cause o false
    by true = ap (λ o. header_cause o false) h
    by false = ap (λ o. header_cause o false) h

some_line : (d : Draft) → nat_lt 0 (length (lines d)) ≡ true
unfolding lines
some_line d = grind (arith, nat_tests)

no_newline : (d : Draft) (last : List ℕ) → cause (lines d) last false ≡ Some TextCause.NoNewline
unfolding lines cause
no_newline d last = refl

pub end_behind : (d : Draft) (last : List ℕ) (b w : Bool) → seen (lines d) ≡ d → (length last == 0) ≡ b → is_whole d ≡ w
    → end_cause (lines d) last ≡ (if b then (if w then None else Some TextCause.BadBlock) else Some TextCause.NoNewline)
unfolding end_cause
end_behind d last b w is e whole =
    (λ k. if e k && some_line d k then (if (ap is_whole is ∙ whole) k then None else Some TextCause.BadBlock) else no_newline d last k) ∙ by b
  where
    by : (b : Bool) → (if b && true then (if w then None else Some TextCause.BadBlock) else Some TextCause.NoNewline)
        ≡ (if b then (if w then None else Some TextCause.BadBlock) else Some TextCause.NoNewline)
    by true = refl
    by false = refl

-- the program that was read
pub whole_program : (s : ReadState) → IsRead s → is_whole (draft_read s) ≡ true → (IsProgram (program_read s)) × (draft_read s ≡ draft_of (program_read s))
whole_program s read whole = by s.unended refl
    (both (is_none (draft_read s).unended) (length (draft_read s).ended == count_of Kind.Goroutine s.decls.declarations) whole)
  where
    by : (o : Option UnendedState) → s.unended ≡ o
        → (is_none (draft_read s).unended ≡ true) × ((length (draft_read s).ended == count_of Kind.Goroutine s.decls.declarations) ≡ true)
        → (IsProgram (program_read s)) × (draft_read s ≡ draft_of (program_read s))
    by (Some u) e two = absurd (true≢false (sym two.0 ∙ ap (λ o. is_none (spelled_unended s.decls.places o)) e))
    by None e two =
        let same : draft_read s ≡ draft_of (program_read s) =
        λ k. record {
          version = s.decls.version;
          declarations = s.decls.declarations;
          ended = map (spelled s.decls.places) s.ended;
          unended = spelled_unended s.decls.places (e k);
        } in
        let len = length-map s.ended (spelled s.decls.places) in
        let count : length (map (spelled s.decls.places) s.ended) ≡ count_of Kind.Goroutine s.decls.declarations = grind (arith, nat_tests, two.1) in
        let few = read.sound.well_formed.places_limited in
        let places = ap length (sym (ap places_of same) ∙ read.sound.places) in (
          record {
            well_formed = read.sound.well_formed;
            count = sym len ∙ count;
            bodies = read.sound.ended;
            few_places = omega (arith, few, places);
          },
          same,
        )

-- where nothing is wrong at the end, all that is a program was read
pub record IsAllRead (s : ReadState) : Type 0 where
  pub header : s.has_header ≡ true
  pub whole : is_whole (draft_read s) ≡ true
  pub program : IsProgram (program_read s)
  pub text : flat_map ended (lines_read s) ≡ program_text (program_read s)

pub all_read : (s : ReadState) → IsReadBy s.has_header s → (last : List ℕ) → end_cause (lines_read s) last ≡ None → IsAllRead s
unfolding draft_text
all_read s reading last h =
    let header = header_before_end s.has_header (draft_read s) last h in
    let read : IsRead s = subst (λ b. IsReadBy b s) header reading in
    let behind : end_cause (lines (draft_read s)) last ≡ None = ap (λ b. end_cause (lines_by b (draft_read s)) last) (sym header) ∙ h in
    let whole = ap is_whole (sym read.seen_is) ∙ (end_empty (lines (draft_read s)) last behind).2 in
    let program = whole_program s read whole in
    record {
      header = header;
      whole = whole;
      program = program.0;
      text = ap (λ b. flat_map ended (lines_by b (draft_read s))) header ∙ ap (λ x. flat_map ended (lines x)) program.1;
    }
