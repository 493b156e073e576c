-- Bytes without a fault are some program's text: line by line, each is taken into a program.
use Rattle.std.proofs.Common.{◌≡◌, ℕ, zero, suc, ◌<◌, ◌==◌, ◌&&◌, ◌||◌, Bool, true, false, true≢false, not, nat_le}
use Rattle.std.proofs.Common.{if◌then◌else◌, is_some, List, [], ◌∷◌, ◌++◌, length, Option, Some, None, Result, Ok, Err}
use Rattle.std.proofs.{Common.{refl, sym, ap, ◌∙◌, arith, append-nil, append_assoc}, lemmas.Bool.Decides.nat_tests}
use Rattle.std.proofs.lemmas.{Grind.flat_map-append, List.reverse-reverse}
use Rattle.std.proofs.lemmas.{List.Splits.{join_with_byte-slice_split, length-slice_split}, Option.none-some}
use Rattle.std.specs.{List.{flat_map, join_with_byte}, Prelude.reverse, Result.result_err}
use Rattle.race_records.specs.declared.{declarations.{DeclFault.DeclFault, TheConstants.MAX_PLACES}, decl_keywords.DeclKeyword.DeclKeyword}
use Rattle.race_records.specs.{declared.version.Version.Version, Declarations.{Declaration, is_known, place_fault}}
use Rattle.race_records.specs.{Declarations.{place_number, with_place}, Equality.declared, Name.is_place}
use Rattle.race_records.specs.DeclKeywords.{kind_of_decl_keyword}
use Rattle.race_requests.specs.Sound.{has_ask}
use Rattle.race_text.specs.{declared.{cause.TextCause.TextCause, form.Word.Word}, Declaring.with_declaration_in}
use Rattle.race_text.specs.{Lines.{fault_after, first_fault}, Form.{word_named, first_word}, Text.ended}
use Rattle.race_text.specs.{Words.{parts_of, words_of, has_bad_byte}, Fault.header_cause}
use Rattle.race_text.proofs.{ParseLemmas.{none_step, none_end, no_bytes}, TraceLemmas.late_declaration}
use Rattle.race_script.specs.declared.{form.{StepKeyword.StepKeyword, LineKeyword.LineKeyword}, program.TheConstants.MAX_STEPS}
use Rattle.race_script.specs.{Bodies.{is_exit, after_ask}, Fault.{words_cause, has_no_room, may_follow, may_begin}}
use Rattle.race_script.specs.Fault.{said_cause, asked_cause, cause, program_causes, text_fault, is_whole}
use Rattle.race_script.specs.{Form.{line_word, line_word_in, on_nil, ask_fields, begin_fields}, Offers.select_words}
use Rattle.race_script.specs.{Program.{Instruction, Draft, ask_fits, bodies_of}, Reader.{UnendedState, ReadState, Adds}}
use Rattle.race_script.specs.Reader.{draft_read, spelled_unended, program_read, IsRead, HasWords, TakesLine}
use Rattle.race_script.specs.{Reading.{version_said, selected_in}, Text.{header, Said, Begins, Asks, lines, draft_text}}
use Rattle.race_script.{specs.Text.IsProgramText, proofs.LineLemmas.{IsSaidLine, cause_behind, begins_line, asks_line}}
use Rattle.race_script.proofs.{LineLemmas.selects_line, ParseLemmas.end_empty, ReadLemmas.{begin_told, asks_told}}
use Rattle.race_script.proofs.ReadLemmas.{selects_told, bad_byte_told, unknown_told, declares_cause, first_cause}
use Rattle.race_script.proofs.ReadLemmas.{declared_taken, said_taken, whole_program, nothing_read, nothing_is_read}
use Rattle.race_script.proofs.ReadLemmas.{nothing_lines_read, said_header}
use Rattle.race_script.proofs.{SaidLines.{begun_is_there, is_begun, asked_is_there}, TakingLemmas.begin_taken}
use Rattle.race_script.proofs.TakingLemmas.{asked_cause_is, ended_taken, more_taken}

-- what was read with one more line
record IsNext (s : ReadState) (line : List ℕ) : Type 0 where
  next : ReadState
  takes : TakesLine s line next

-- a place for which there is room isn't refused
not_full : (places : List (List ℕ)) (word : List ℕ) → is_place word ≡ true → has_no_room places word ≡ false → place_fault places word ≡ None
unfolding place_fault
not_full places word form h = by (is_place word) form (is_known places word) (nat_le MAX_PLACES (length places)) h
  where
    by : (a : Bool) → a ≡ true → (b c : Bool) → (not b && c) ≡ false
        → ◌≡◌ {A = Option DeclFault} (if not a then Some DeclFault.BadName else (if b then None else (if c then Some DeclFault.TooMany else None))) None
    by true e true c h = refl
    by true e false true h = absurd (true≢false h)
    by true e false false h = refl
    by false e b c h = absurd (true≢false (sym e))

no_word : (version : Version) → line_word_in version [] ≡ None
unfolding line_word word_named
no_word version = refl

module _ (s : ReadState) (header_is : s.has_header ≡ true) (read : IsRead s) (line : List ℕ) (none : cause (lines (draft_read s)) line true ≡ None) where
  abbrev d : Draft
  d = draft_read s

  abbrev ds : List Declaration
  ds = s.decls.declarations

  not_told : (told : TextCause) → cause (lines d) line true ≡ Some told → ⊥
  not_told told h = none-some told (sym none ∙ h)

  said_fine : (said : Said) → IsSaidLine (declared s.decls) line said → said_cause d said ≡ None
  said_fine said is = sym (cause_behind d line read.seen_is ∙ is.cause_is d refl) ∙ none

  with_begin : (words : List (List ℕ)) → HasWords s.decls.version line LineKeyword.Begins words → IsNext s line
  with_begin words has = by (words_cause ds begin_fields words) refl
    where
      begun : (g : ℕ) → IsSaidLine (declared s.decls) line (Begins g) → (b : Bool) → may_begin d g ≡ b
          → (if b then None else Some TextCause.BadBlock) ≡ None → may_begin d g ≡ true
      begun g is true e h = e
      begun g is false e h = absurd (none-some TextCause.BadBlock (sym h))

      by : (o : Option TextCause) → words_cause ds begin_fields words ≡ o → IsNext s line
      by (Some told) e = absurd (not_told told (begin_told s read line words told has e))
      by None e =
          let there = begun_is_there ds words e in
          let is = begins_line s.decls read.sound.well_formed line words there.0 has there.1 in
          let may = begun there.0 is (may_begin d there.0) refl (said_fine (Begins there.0) is) in
          record {
            next = _;
            takes = said_taken s read line (Begins there.0) _ is
                (begin_taken s read.sound there.0 (is_begun s.decls read.sound.well_formed words there.0 there.1).less may);
          }

  with_asked : (i : Instruction) → IsSaidLine (declared s.decls) line (Asks i) → ask_fits ds i.ask ≡ true → is_place i.place ≡ true
      → has_ask s.decls.version i.ask ≡ true → IsNext s line
  with_asked i is fits form known = by s.unended refl
    where
      fine : said_cause d (Asks i) ≡ None
      fine = said_fine (Asks i) is

      tests : (u : UnendedState) → s.unended ≡ Some u → (a b c : Bool) → nat_le MAX_STEPS (length u.requests) ≡ a → has_no_room s.decls.places i.place ≡ b
          → may_follow (Some (reverse u.onces)) i.ask ≡ c → (if a || b then Some TextCause.TooMany else (if c then None else Some TextCause.BadBlock)) ≡ None
          → (nat_le MAX_STEPS (length u.requests) ≡ false) × (has_no_room s.decls.places i.place ≡ false) × (may_follow (Some (reverse u.onces)) i.ask ≡ true)
      tests u is_left false false true e f g h = (e, f, g)
      tests u is_left false false false e f g h = absurd (none-some TextCause.BadBlock (sym h))
      tests u is_left false true c e f g h = absurd (none-some TextCause.TooMany (sym h))
      tests u is_left true b c e f g h = absurd (none-some TextCause.TooMany (sym h))

      added : (u : UnendedState) → length u.requests < MAX_STEPS → place_fault s.decls.places i.place ≡ None → may_follow (Some (reverse u.onces)) i.ask ≡ true
          → (inside : List ℕ) → (is_exit i.ask ≡ false → after_ask (reverse u.onces) i.ask ≡ Some (reverse inside))
          → Adds s.decls u i (with_place s.decls i.place)
          (record { requests = u.requests ++ record { ask = i.ask; place = place_number s.decls.places i.place } ∷ []; onces = inside })
      added u few room follows inside entered =
          record { few = few; room = room; place = refl; pushes = record { follows = follows; added = refl; entered = entered } }

      goes : (u : UnendedState) → s.unended ≡ Some u → length u.requests < MAX_STEPS → place_fault s.decls.places i.place ≡ None
          → may_follow (Some (reverse u.onces)) i.ask ≡ true → (b : Bool) → is_exit i.ask ≡ b → (o : Option (List ℕ)) → after_ask (reverse u.onces) i.ask ≡ o
          → (if b then length (reverse u.onces) == 0 else is_some o) ≡ true → IsNext s line
      goes u is_left few room follows true exit o e h = record {
        next = _;
        takes = said_taken s read line (Asks i) _ is (ended_taken s read.sound u is_left i fits form known
            (added u few room follows [] (λ other. absurd (true≢false (sym exit ∙ other)))) exit);
      }
      goes u is_left few room follows false other None e h = absurd (true≢false (sym h))
      goes u is_left few room follows false other (Some inside) e h = record {
        next = _;
        takes = said_taken s read line (Asks i) _ is (more_taken s read.sound u is_left i fits form known
            (added u few room follows (reverse inside) (λ _. e ∙ ap Some (sym (reverse-reverse inside)))) other);
      }

      by : (o : Option UnendedState) → s.unended ≡ o → IsNext s line
      by None e = absurd (none-some TextCause.BadBlock (sym fine ∙ ap (λ o. asked_cause d i (spelled_unended s.decls.places o)) e))
      by (Some u) e =
          let three = tests u e _ _ _ refl refl refl (sym (asked_cause_is s read.sound u e i fits form) ∙ fine) in
          goes u e (grind (arith, nat_tests, three.0)) (not_full s.decls.places i.place form three.1)
          three.2 (is_exit i.ask) refl (after_ask (reverse u.onces) i.ask) refl three.2

  with_asks : (word : StepKeyword) (words : List (List ℕ)) → HasWords s.decls.version line (LineKeyword.Asks word) words → IsNext s line
  with_asks word words has = by (words_cause ds (ask_fields (on_nil word words).0) (on_nil word words).1) refl
    where
      by : (o : Option TextCause) → words_cause ds (ask_fields (on_nil word words).0) (on_nil word words).1 ≡ o → IsNext s line
      by (Some told) e = absurd (not_told told (asks_told s read line word words told has e))
      by None e =
          let there = asked_is_there ds (on_nil word words).0 (on_nil word words).1 e in
          let is = asks_line s.decls read.sound.well_formed line word words there.0 has there.1 in
          with_asked there.0 is is.fits.0 is.fits.1 is.fits.2

  with_selects : (words : List (List ℕ)) → HasWords s.decls.version line LineKeyword.Selects words → IsNext s line
  with_selects words has = by (selected_in ds (select_words words)) refl
    where
      by : (r : Result Instruction TextCause) → selected_in ds (select_words words) ≡ r → IsNext s line
      by (Err told) e = absurd (not_told told (selects_told s read line words told has (ap result_err e)))
      by (Ok i) e =
          let is = selects_line s.decls read.sound.well_formed line words i has e in
          with_asked i is is.fits.0 is.fits.1 is.fits.2

  with_declared : (keyword : DeclKeyword) (words : List (List ℕ)) → HasWords s.decls.version line (LineKeyword.Declares keyword) words → IsNext s line
  with_declared keyword words has = by (length (bodies_of d)) refl
    where
      by : (n : ℕ) → length (bodies_of d) ≡ n → IsNext s line
      by zero e =
          let new : ReadState = record { has_header = true; decls = with_declaration_in s.decls line; ended = s.ended; unended = s.unended } in
          record {
            next = new;
            takes = declared_taken s read line keyword words has e new
                (sym (first_cause s read line keyword words has e) ∙ none) refl refl refl refl;
          }
      by (suc n) e = absurd (late_declaration ds (length (bodies_of d)) (Word.Declares keyword) (kind_of_decl_keyword keyword) words refl (omega (arith, e))
          (sym (declares_cause s read line keyword words has) ∙ none))

  with_line : IsNext s line
  with_line = clean (has_bad_byte line) refl
    where
      has_words : has_bad_byte line ≡ false → (first : List ℕ) (args : List (List ℕ)) → words_of line ≡ first ∷ args
          → (word : LineKeyword) → line_word_in s.decls.version first ≡ Some word → HasWords s.decls.version line word args
      has_words fine first args e word h = record {
        clean = fine;
        named = ap (λ ws. line_word_in s.decls.version (first_word ws)) e ∙ h;
        behind = e ∙ ap (λ ws. first_word ws ∷ args) (sym e);
      }

      unknown : has_bad_byte line ≡ false → (ws : List (List ℕ)) → words_of line ≡ ws → line_word_in s.decls.version (first_word ws) ≡ None → IsNext s line
      unknown fine ws e h = absurd (not_told TextCause.UnknownWord
          (unknown_told s read line fine (ap (λ ws. line_word_in s.decls.version (first_word ws)) e ∙ h)))

      by_word : has_bad_byte line ≡ false → (first : List ℕ) (args : List (List ℕ))
          → words_of line ≡ first ∷ args → (o : Option LineKeyword) → line_word_in s.decls.version first ≡ o → IsNext s line
      by_word fine first args e None h = unknown fine (first ∷ args) e h
      by_word fine first args e (Some (LineKeyword.Declares keyword)) h = with_declared keyword args (has_words fine first args e (LineKeyword.Declares keyword) h)
      by_word fine first args e (Some LineKeyword.Begins) h = with_begin args (has_words fine first args e LineKeyword.Begins h)
      by_word fine first args e (Some (LineKeyword.Asks word)) h = with_asks word args (has_words fine first args e (LineKeyword.Asks word) h)
      by_word fine first args e (Some LineKeyword.Selects) h = with_selects args (has_words fine first args e LineKeyword.Selects h)

      words : has_bad_byte line ≡ false → (ws : List (List ℕ)) → words_of line ≡ ws → IsNext s line
      words fine [] e = unknown fine [] e (no_word s.decls.version)
      words fine (first ∷ args) e = by_word fine first args e (line_word_in s.decls.version first) refl

      clean : (b : Bool) → has_bad_byte line ≡ b → IsNext s line
      clean true bad = absurd (not_told TextCause.BadByte (bad_byte_told s read line bad))
      clean false fine = words fine (words_of line) refl

-- the parts that are left, behind the lines that were read
scanned : (parts : List (List ℕ)) (s : ReadState) → s.has_header ≡ true → IsRead s → 0 < length parts
    → fault_after program_causes (lines (draft_read s)) parts ≡ None
    → (t : ReadState) × IsRead t × (is_whole (draft_read t) ≡ true)
    × (flat_map ended (lines (draft_read t)) ≡ flat_map ended (lines (draft_read s)) ++ join_with_byte 10 parts)
scanned [] s header read some none = absurd (omega (arith, some))
scanned (last ∷ []) s header read some none =
    let before = lines (draft_read s) in
    let empty = end_empty before last (none_end program_causes before last none) in (
      s,
      read,
      ap is_whole (sym read.seen_is) ∙ empty.2,
      sym (ap (λ l. flat_map ended before ++ l) (no_bytes last empty.0) ∙ append-nil (flat_map ended before)),
    )
scanned (line ∷ part ∷ others) s header read some none =
    let before = lines (draft_read s) in
    let parts = part ∷ others in
    let split = none_step program_causes before line parts (omega arith) none in
    let next = with_line s header read line split.0 in
    let rest = scanned (part ∷ others) next.next next.takes.header next.takes.read
    (omega arith) (ap (λ ls. fault_after program_causes ls parts) next.takes.goes.lines ∙ split.1) in
    let front = flat_map ended before in (
      rest.0,
      rest.1,
      rest.2,
      rest.3 ∙ ap (λ ls. flat_map ended ls ++ join_with_byte 10 parts) next.takes.goes.lines
          ∙ ap (λ l. l ++ join_with_byte 10 parts) (flat_map-append ended before (line ∷ []) ∙ ap (λ l. front ++ l) (append-nil (ended line)))
          ∙ append_assoc front (ended line) (join_with_byte 10 parts)
          ∙ ap (λ l. front ++ l) (append_assoc line (10 ∷ []) (join_with_byte 10 parts)),
    )

-- the first line is a header
is_header : (line : List ℕ) → cause [] line true ≡ None → (version : Version) × (line ≡ header version)
unfolding cause
is_header line h = by (version_said line) refl h
  where
    by : (o : Option Version) → version_said line ≡ o → header_cause o true ≡ None → (version : Version) × (line ≡ header version)
    by (Some version) e h = (version, said_header line version e)
    by None e h = absurd (none-some TextCause.BadHeader (sym h))

-- a line with its newline, before other bytes
one_line : (line rest : List ℕ) → line ++ 10 ∷ rest ≡ flat_map ended (line ∷ []) ++ rest
one_line line rest = sym (append_assoc line (10 ∷ []) rest) ∙ ap (λ l. l ++ rest) (sym (append-nil (ended line)))

pub faultless_is_text : (bytes : List ℕ) → text_fault bytes ≡ None → IsProgramText bytes
unfolding first_fault draft_text
faultless_is_text bytes none = by (parts_of bytes) refl none
  where
    by : (parts : List (List ℕ)) → parts_of bytes ≡ parts → fault_after program_causes [] parts ≡ None → IsProgramText bytes
    by [] e h = let some = sym (ap length e) ∙ length-slice_split (λ b. b == 10) bytes in absurd (omega (arith, some))
    by (last ∷ []) e h =
        let empty = end_empty [] last (none_end program_causes [] last h) in
        let some = empty.1 in
        absurd (omega (arith, some))
    by (line ∷ part ∷ others) e h =
        let parts = part ∷ others in
        let split = none_step program_causes [] line parts (omega arith) h in
        let is = is_header line split.0 in
        let version = is.0 in
        let first = is.1 in
        let rest = scanned parts (nothing_read version) refl (nothing_is_read version) (omega arith)
        (ap (λ ls. fault_after program_causes ls parts) (nothing_lines_read version ∙ (λ i. sym first i ∷ [])) ∙ split.1) in
        let program = whole_program rest.0 rest.1 rest.2 in
        let printed = sym (join_with_byte-slice_split 10 bytes) ∙ ap (join_with_byte 10) e ∙ (λ i. first i ++ 10 ∷ join_with_byte 10 parts)
        ∙ one_line (header version) (join_with_byte 10 parts)
        ∙ sym (rest.3 ∙ ap (λ ls. flat_map ended ls ++ join_with_byte 10 parts) (nothing_lines_read version))
        ∙ ap (λ x. flat_map ended (lines x)) program.1 in
        (program_read rest.0, record { program = program.0; printed = printed })
