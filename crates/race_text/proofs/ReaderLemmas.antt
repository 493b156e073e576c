-- The header, and lines that declare.
use Rattle.std.proofs.Common.{◌≡◌, ℕ, ◌≤◌, length, Bool, true, false, if◌then◌else◌, List, [], ◌∷◌, ◌++◌, Option, Some}
use Rattle.std.proofs.Common.{None, Result, Ok, Err, IfOk, refl, sym, ap, subst, ◌∙◌, arith, true≢false}
use Rattle.std.proofs.lemmas.{List.Splits.join_with_byte-slice_split, Option.none-some}
use Rattle.race_records.specs.{declared.version.Version.Version, Declarations.{Declaration, DeclsState, decl_fault}}
use Rattle.race_records.specs.{Declarations.with_declaration, Events.{TraceState, IsTrace}}
use Rattle.race_records.specs.{Refusal.{Refuses, AllowsUnless}, DeclKeywords.object_says}
use Rattle.race_records.proofs.{DeclFaultLemmas.allowed_from_no_fault, DeclsKept.{empty_well_formed, push_well_formed}}
use Rattle.race_text.specs.{declared.{cause.TextCause.TextCause, form.Word.Word}, Words.{words_of, has_bad_byte}}
use Rattle.race_text.specs.Text.{header, line_of, declaration_line, lines, HasText}
use Rattle.race_text.specs.{Form.{word_named, first_word, arguments}, Fault.{seen, seen_so_far, version_said}}
use Rattle.race_text.specs.Fault.{header_cause, cause, trace_causes, word_cause, declaration, declaration_in}
use Rattle.race_text.specs.{Fault.{is_event_line, is_event_word}, Lines.GoesOn, Owed.owed}
use Rattle.race_text.specs.{Writing.{decl_keyword_text, number_words}, Declaring.{is_declaration_line, is_declaration_word}}
use Rattle.race_text.specs.{Declaring.{declaration_cause, with_declared, with_declaration_in}, Taking.state_of}
use Rattle.race_text.specs.{Taking.{IsRead, TakesLine, begun}, Reader.{nothing_in, trace_read, lines_read, IsReading}}
use Rattle.race_text.specs.Reader.{TakesIfDeclared, TakesDeclaration}
use Rattle.race_text.proofs.DeclarationLemmas.{declaration_cause-words, declaration_in-words, is_there, declared_there}
use Rattle.race_text.proofs.{DeclarationLemmas.spelled_there, HeaderLemmas.said_by_header}
use Rattle.race_text.proofs.{WordTable.{word_spelled, declares_in, object_words_are}, TraceLemmas.cause_behind}
use Rattle.race_text.proofs.TraceLemmas.{clean_line, lines_declaration, seen_declaration, no_word}

-- a trace without events
pub no_events : (decls : DeclsState) → IsTrace (begun decls)
no_events decls = record { fit = λ i d less. absurd (omega (arith, less)); values = λ i d less. absurd (omega (arith, less)); limited = omega arith }

-- the first line
pub header_told : (line : List ℕ) → version_said line ≡ None → cause [] line true ≡ Some TextCause.BadHeader
unfolding cause
header_told line h = ap (λ v. header_cause v true) h

header_fine : (line : List ℕ) (version : Version) → version_said line ≡ Some version → cause [] line true ≡ None
unfolding cause
header_fine line version h = ap (λ v. header_cause v true) h

pub header_lines : (version : Version) → lines (begun (nothing_in version)) ≡ header version ∷ []
unfolding lines
header_lines version = refl

pub header_says : (version : Version) → seen (header version ∷ []) ≡ seen_so_far [] 0
unfolding seen word_named
header_says Version.One = refl
header_says Version.Two = refl

pub empty_has_text : (version : Version) → HasText (begun (nothing_in version))
empty_has_text version = record {
  well_formed = empty_well_formed;
  is_trace = no_events (nothing_in version);
}

pub empty_is_read : (version : Version) → IsRead (begun (nothing_in version))
empty_is_read version =
    record { has_text = empty_has_text version; seen_is = ap seen (header_lines version) ∙ header_says version; few_places = omega arith }

module _ (version : Version) (decls : DeclsState) (trace : Option TraceState) (none : decls ≡ nothing_in version) (no_trace : trace ≡ None) where
  pub header_taken : (line : List ℕ) → version_said line ≡ Some version → GoesOn trace_causes [] line (lines_read true decls trace)
  header_taken line h = record {
    no_cause = header_fine line version h;
    lines = (λ i. lines (trace_read (none i) (no_trace i))) ∙ header_lines version ∙ (λ i. sym (said_by_header line version h) i ∷ []);
  }

  pub header_reading : IsReading true decls trace
  header_reading =
      subst (λ (p : DeclsState × Option TraceState). IsReading true p.0 p.1) (λ i. (sym none i, sym no_trace i)) (empty_is_read version)

-- a line that declares, and is not refused
pub record IsDeclaration (ds : List Declaration) (line : List ℕ) : Type 0 where
  pub d : Declaration
  pub is : declaration_in line ≡ Some d
  pub text : line ≡ declaration_line d
  pub event : is_event_line line ≡ false
  pub fine : decl_fault ds d.object d.name ≡ None

module _ (ds : List Declaration) (line first : List ℕ) (args : List (List ℕ)) (words : words_of line ≡ first ∷ args) where
  joined : line ≡ line_of (first ∷ args)
  joined = sym (join_with_byte-slice_split 32 line) ∙ ap line_of words

  named_line : (word : Word) → word_named first ≡ Some word → word_named (first_word (words_of line)) ≡ Some word
  named_line word named = ap (λ ws. word_named (first_word ws)) words ∙ named

  by_word : (word : Option Word) → word_named first ≡ word → is_declaration_word word ≡ true → declaration_cause ds line ≡ None → IsDeclaration ds line
  by_word None named h none = absurd (true≢false (sym h))
  by_word (Some (Word.Declares decl_keyword)) named h none =
      let there = is_there ds decl_keyword args (sym (declaration_cause-words line first args (Some (Word.Declares decl_keyword)) words (sym named) ds) ∙ none) in
      let said = spelled_there ds decl_keyword args there in
      record {
        d = declaration there.name there.object;
        is = declaration_in-words line first args (Some (Word.Declares decl_keyword)) words (sym named) ∙ declared_there ds decl_keyword args there;
        text =
            joined ∙ (λ i. line_of (word_spelled first (Word.Declares decl_keyword) named i ∷ said.1 i))
            ∙ (λ i. line_of (decl_keyword_text (said.0 i) ∷ there.name ∷ number_words (object_says there.object).1))
            ∙ ap line_of (sym (object_words_are there.name there.object));
        event = ap is_event_word (named_line (Word.Declares decl_keyword) named);
        fine = there.fine;
      }
  by_word (Some (Word.Does op_keyword)) named h none = absurd (true≢false (sym h))

pub declaration_of_line : (ds : List Declaration) (line : List ℕ) → is_declaration_line line ≡ true → declaration_cause ds line ≡ None → IsDeclaration ds line
declaration_of_line ds line h none = by (words_of line) refl h
  where
    by : (ws : List (List ℕ)) → words_of line ≡ ws → is_declaration_word (word_named (first_word ws)) ≡ true → IsDeclaration ds line
    by [] e h = absurd (true≢false (sym h ∙ ap is_declaration_word no_word))
    by (first ∷ args) e h = by_word ds line first args e (word_named first) refl h none

-- a declaration that was read, or refused
module _ (old new : DeclsState) (line : List ℕ) (read : IsRead (begun old)) (clean : has_bad_byte line ≡ false) where
  pub cause_of_line : is_declaration_line line ≡ true → cause (lines (begun old)) line true ≡ declaration_cause old.declarations line
  cause_of_line h = cause_behind (begun old) line read ∙ clean_line old.version (state_of (begun old)) line clean
      ∙ ap (λ w. word_cause (state_of (begun old)) w (arguments (words_of line))) (declares_in old.version (first_word (words_of line)) h)
      ∙ sym (ap (λ b. if b then word_cause (seen_so_far old.declarations 0) (word_named (first_word (words_of line))) (arguments (words_of line)) else None) h)

  pub taken_declaration : is_declaration_line line ≡ true → declaration_cause old.declarations line ≡ None → new ≡ with_declaration_in old line
      → TakesLine (lines (begun old)) line (begun new)
  taken_declaration h none added =
      let is = declaration_of_line old.declarations line h none in
      let new_is : new ≡ with_declaration old is.d.name is.d.object = added ∙ ap (with_declared old) is.is in
      let after : lines (begun new) ≡ lines (begun old) ++ line ∷ [] =
      ap (λ (d : DeclsState). lines (begun d)) new_is ∙ lines_declaration old line is.d is.text in
      record {
        no_cause = cause_of_line h ∙ none;
        lines = after;
        is_read = record {
          has_text = subst (λ (d : DeclsState). HasText (begun d)) (sym new_is) (record {
            well_formed = push_well_formed old read.has_text.well_formed is.d.name is.d.object
                (allowed_from_no_fault old.declarations is.d.object is.d.name is.fine);
            is_trace = no_events (with_declaration old is.d.name is.d.object);
          });
          seen_is = ap seen after ∙ seen_declaration (lines (begun old)) line old.declarations is.d read.seen_is is.is is.event
              ∙ (λ i. seen_so_far (sym new_is i).declarations 0);
          few_places = subst (λ (d : DeclsState). length d.places ≤ 0) (sym new_is) read.few_places;
        };
      }

  is_declared : (f : TextCause) → declaration_cause old.declarations line ≡ Some f → is_declaration_line line ≡ true
  is_declared f h = by (is_declaration_line line) refl h
    where
      by : (b : Bool) → is_declaration_line line ≡ b
          → (if b then word_cause (seen_so_far old.declarations 0) (word_named (first_word (words_of line))) (arguments (words_of line)) else None) ≡ Some f
          → is_declaration_line line ≡ true
      by true e h = e
      by false e h = absurd (none-some f h)

  pub declaration_answered : (r : Result Bool TextCause) → (is_declaration_line line ≡ false → r ≡ Ok false)
      → Refuses (declaration_cause old.declarations line) r
      → AllowsUnless (declaration_cause old.declarations line) r TextCause.OutOfMemory
      → IfOk r (λ added. added ≡ is_declaration_line line) → (r ≡ Ok true → new ≡ with_declaration_in old line)
      → (r ≡ Ok false → new ≡ old) → TakesDeclaration old line r new
  declaration_answered (Ok true) other refused allowed ok added same = taken_declaration (sym ok) (by (declaration_cause old.declarations line) refused) (added refl)
    where
      by : (o : Option TextCause) → Refuses {T = Bool} o (Ok true) → o ≡ None
      by None h = refl
      by (Some f) h = let wrong = h f refl in absurd (cc)
  declaration_answered (Ok false) other refused allowed ok added same = (same refl, sym ok)
  declaration_answered (Err e) other refused allowed ok added same = by (declaration_cause old.declarations line) refl refused allowed
    where
      no_cause : (b : Bool) → is_declaration_line line ≡ b → declaration_cause old.declarations line ≡ None → cause (lines (begun old)) line true ≡ None
      no_cause true h is = cause_of_line h ∙ is
      no_cause false h is = let wrong = other h in absurd (cc)

      by : (o : Option TextCause) → declaration_cause old.declarations line ≡ o → Refuses {T = Bool} o (Err e)
          → AllowsUnless {T = Bool} o (Err e) TextCause.OutOfMemory → e ≡ owed (cause (lines (begun old)) line true)
      by None is refused allowed = allowed refl ∙ sym (ap owed (no_cause (is_declaration_line line) refl is))
      by (Some f) is refused allowed =
          let told = refused f refl in
          let same : e ≡ f = cc in
          same ∙ sym (ap owed (cause_of_line (is_declared f is) ∙ is))

pub not_declared : (old new : DeclsState) (line : List ℕ) (added : Bool) → TakesIfDeclared old line added new → added ≡ false → new ≡ old
not_declared old new line true taken h = absurd (true≢false h)
not_declared old new line false taken h = taken.0

-- a trace of declarations alone
pub fresh : (t : TraceState) (decls : DeclsState) → t.decls ≡ decls → t.events ≡ [] → t.spare ≡ 0 → t ≡ begun decls
fresh t decls d e s = λ i. record { decls = d i; events = e i; spare = s i }

-- what was read, before or behind the first event
pub read_of : (decls : DeclsState) (trace : Option TraceState) → IsReading true decls trace → IsRead (trace_read decls trace)
read_of decls None reading = reading
read_of decls (Some trace) reading = reading.0
