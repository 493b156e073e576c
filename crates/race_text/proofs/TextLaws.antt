-- What the lines of a trace say: its declarations, and its events.
use Rattle.std.proofs.Common.{◌≡◌, ℕ, suc, ◌<◌, ◌^◌, Bool, true, false, true≢false, List, [], ◌∷◌, ◌++◌, length, map}
use Rattle.std.proofs.Common.{get_or, slice_get, unwrap_or, Option, Some, None, refl, sym, ap, ◌∙◌, arith, append-nil}
use Rattle.std.proofs.lemmas.{List.{append_cancel_right, Elements.filter_map-append}, Option.slice_get-get_or}
use Rattle.std.{proofs.lemmas.Bool.Decides.nat_tests, specs.Fmt.decimal}
use Rattle.std.specs.{List.{filter_map, cons_option, AllByRecursion}, Option.option_and_then}
use Rattle.race_records.specs.{declared.{event.Event.Event, version.Version.Version}, Name.is_name}
use Rattle.race_records.specs.{Declarations.{Declaration, is_too_wide}, DeclKeywords.{object_says, number_limit}}
use Rattle.race_records.specs.{Events.{TraceState, fits, second_place_fits}, Operands.{says, has_two_places}}
use Rattle.race_records.specs.TraceEquality.{PlacedEvent, placed, placed_events, recorded}
use Rattle.race_records.proofs.DeclKeywordLaws.{IsWanted, says_wanted}
use Rattle.race_text.specs.{declared.form.Word.Word, Words.{parts_of, words_of, has_bad_byte}, Text.{header, line_of}}
use Rattle.race_text.specs.{Text.{second_text, declaration_line, event_line, lines, text, HasText}, Form.word_named}
use Rattle.race_text.specs.{Form.{word_in, first_word, arguments}, Fault.{declaration_in, declared_as, is_event_line}}
use Rattle.race_text.specs.{Fault.is_event_word, Reading.{Occurrence, event_by, event_in}}
use Rattle.race_text.{specs.Writing.{decl_keyword_text, number_words}, proofs.CleanLemmas.number_is_visible}
use Rattle.race_text.proofs.{DeclarationLemmas.{small_limit, said_again}, NumberLemmas.number-some}
use Rattle.race_text.proofs.{EventLines.{IsEventLine, event_line as event_line_of}, EventsAgain.{said, event_again}}
use Rattle.race_text.proofs.{HeaderLemmas.same_version, PlacesAdded.is_fit, WordTable.{word_is_seen, word_of_version}}
use Rattle.race_text.proofs.{WordTable.{object_words_are, decl_keyword_again}, WordLemmas.name_is_visible}
use Rattle.race_text.proofs.WordsAgain.{AreVisible, words_again, visible_line_clean, operands_again}

-- what holds of the line of a declaration, whose name has a name's form
pub record IsDeclarationLine (d : Declaration) (line : List ℕ) : Type 0 where
  pub words : words_of line ≡ decl_keyword_text (object_says d.object).0 ∷ d.name ∷ number_words (object_says d.object).1
  pub named : word_named (first_word (words_of line)) ≡ Some (Word.Declares (object_says d.object).0)
  pub declares : declaration_in line ≡ Some d
  pub clean : has_bad_byte line ≡ false

numbers_visible : (limit number : Option ℕ) → IsWanted limit number → ((l : ℕ) → limit ≡ Some l → l < 2 ^ 64) → AreVisible (number_words number)
numbers_visible None None wanted small = tt
numbers_visible (Some l) (Some n) wanted small = let low = small l refl in
    (number_is_visible l (decimal n) n low (number-some l n (decimal n) low wanted refl), tt)
numbers_visible None (Some n) wanted small = absurd wanted
numbers_visible (Some l) None wanted small = absurd wanted

pub declaration_again : (d : Declaration) → is_name d.name ≡ true → is_too_wide d.object ≡ false → IsDeclarationLine d (declaration_line d)
declaration_again d form narrow =
    let keyword = (object_says d.object).0 in
    let numbers = number_words (object_says d.object).1 in
    let found = decl_keyword_again keyword in
    let visible : AreVisible (decl_keyword_text keyword ∷ d.name ∷ numbers) = (
      word_is_seen (decl_keyword_text keyword) (Word.Declares keyword) found,
      (name_is_visible d.name form, numbers_visible (number_limit keyword) (object_says d.object).1 (says_wanted d.object narrow) (small_limit keyword)),
    ) in
    let printed = object_words_are d.name d.object in
    let again = ap (λ ws. words_of (line_of ws)) printed ∙ words_again (decl_keyword_text keyword) (d.name ∷ numbers) visible in
    let named = ap (λ ws. word_named (first_word ws)) again ∙ found in
    record {
      words = again;
      named = named;
      declares = (λ j. declared_as (named j) (arguments (again j))) ∙ said_again d.name d.object narrow;
      clean = ap (λ ws. has_bad_byte (line_of ws)) printed ∙ visible_line_clean (decl_keyword_text keyword ∷ d.name ∷ numbers) visible;
    }

-- it says no event
pub says_no_event : (version : Version) (ds : List Declaration) (d : Declaration) (line : List ℕ) → IsDeclarationLine d line
    → event_in version ds (words_of line) ≡ None
says_no_event version ds d line is =
    let keyword = (object_says d.object).0 in
    let named : word_named (decl_keyword_text keyword) ≡ Some (Word.Declares keyword) = decl_keyword_again keyword in
    ap (event_in version ds) is.words ∙ ap (λ w. event_by ds w (d.name ∷ number_words (object_says d.object).1))
    (word_of_version version (decl_keyword_text keyword) (Word.Declares keyword) named refl)

pub is_no_event : (d : Declaration) (line : List ℕ) → IsDeclarationLine d line → is_event_line line ≡ false
is_no_event d line is = ap is_event_word is.named

-- what holds of all elements, by recursion over a list that is printed line by line
each_line : {X : Type 0} (P : List ℕ → Type 0) (line : X → List ℕ) (xs : List X) → ((i : ℕ) (d : X) → i < length xs → P (line (get_or xs i d)))
    → AllByRecursion P (map line xs)
each_line P line [] each = tt
each_line P line (x ∷ xs) each = (each 0 x (omega arith), each_line P line xs (λ i d less. each (suc i) d (omega (arith, less))))

joined_each : (P : List ℕ → Type 0) (xs ys : List (List ℕ)) → AllByRecursion P xs → AllByRecursion P ys → AllByRecursion P (xs ++ ys)
joined_each P [] ys h k = k
joined_each P (x ∷ xs) ys h k = (h.0, joined_each P xs ys h.1 k)

-- what a scan of printed lines gives
scan_none : {X Y : Type 0} (f : List ℕ → Option Y) (line : X → List ℕ) (xs : List X) → ((i : ℕ) (d : X) → i < length xs → f (line (get_or xs i d)) ≡ None)
    → filter_map f (map line xs) ≡ []
scan_none f line [] each = refl
scan_none f line (x ∷ xs) each = (λ j. cons_option (each 0 x (omega arith) j) (filter_map f (map line xs)))
    ∙ scan_none f line xs (λ i d less. each (suc i) d (omega (arith, less)))

scan_some : {X Y : Type 0} (f : List ℕ → Option Y) (line : X → List ℕ) (g : X → Y) (xs : List X)
    → ((i : ℕ) (d : X) → i < length xs → f (line (get_or xs i d)) ≡ Some (g (get_or xs i d))) → filter_map f (map line xs) ≡ map g xs
scan_some f line g [] each = refl
scan_some f line g (x ∷ xs) each = λ j. cons_option (each 0 x (omega arith) j) (scan_some f line g xs (λ i d less. each (suc i) d (omega (arith, less))) j)

-- the text of a second place that fits is the one in the table
second_at : (places : List (List ℕ)) (two : Bool) (place2 : Option ℕ) → second_place_fits (length places) two place2 ≡ true
    → second_text places place2 ≡ option_and_then (slice_get places) place2
second_at places two None fit = refl
second_at places true (Some n) fit = let at = slice_get-get_or places n [] (grind (arith, nat_tests, fit)) in ap (λ o. Some (unwrap_or o [])) at ∙ sym at
second_at places false (Some n) fit = absurd (true≢false (sym fit))

-- what an event is recorded as, by what its line says
abbrev recorded_as : Occurrence → PlacedEvent
recorded_as o = record { who = o.who; op = o.op; place = Some o.place; place2 = o.place2 }

header_scanned : (version : Version)
    → (declaration_in (header version) ≡ None) × ((v : Version) (ds : List Declaration) → event_in v ds (words_of (header version)) ≡ None)
unfolding word_named word_in
header_scanned Version.One = (refl, λ v ds. refl)
header_scanned Version.Two = (refl, λ v ds. refl)

header_clean : (version : Version) → has_bad_byte (header version) ≡ false
header_clean Version.One = refl
header_clean Version.Two = refl

module _ (t : TraceState) (has : HasText t) where
  abbrev version : Version
  version = t.decls.version

  abbrev ds : List Declaration
  ds = t.decls.declarations

  declaration_at : (i : ℕ) (d : Declaration) → i < length ds → IsDeclarationLine (get_or ds i d) (declaration_line (get_or ds i d))
  declaration_at i d less = declaration_again (get_or ds i d) (has.well_formed.names i d less) (has.well_formed.capacities i d less)

  says_at : (i : ℕ) (e : Event) → i < length t.events
      → event_in version ds (words_of (event_line t.decls (get_or t.events i e))) ≡ Some (said t.decls (get_or t.events i e))
  says_at i e less = event_again t.decls has.well_formed (get_or t.events i e) (has.is_trace.fit i e less) (has.is_trace.values i e less)

  pub event_at : (i : ℕ) (e : Event) → i < length t.events → IsEventLine t.decls (event_line t.decls (get_or t.events i e)) (said t.decls (get_or t.events i e))
  event_at i e less = event_line_of t.decls (event_line t.decls (get_or t.events i e)) (said t.decls (get_or t.events i e)) has.well_formed (says_at i e less)

  -- no line has a bad byte, so the text is cut into its lines again
  lines_clean : AllByRecursion (λ l. has_bad_byte l ≡ false) (lines t)
  unfolding lines
  lines_clean = (
    header_clean version,
    joined_each (λ l. has_bad_byte l ≡ false) (map declaration_line ds) (map (event_line t.decls) t.events)
        (each_line (λ l. has_bad_byte l ≡ false) declaration_line ds (λ i d less. (declaration_at i d less).clean))
        (each_line (λ l. has_bad_byte l ≡ false) (event_line t.decls) t.events (λ i e less. (event_at i e less).clean)),
  )

  pub lines_again : parts_of (text t) ≡ lines t ++ [] ∷ []
  unfolding text
  lines_again = operands_again (lines t) lines_clean

  -- the lines say the declarations and the events
  declarations_again : filter_map declaration_in (lines t) ≡ ds
  unfolding lines
  declarations_again =
      (λ j. cons_option ((header_scanned version).0 j) (filter_map declaration_in (map declaration_line ds ++ map (event_line t.decls) t.events)))
      ∙ filter_map-append declaration_in (map declaration_line ds) (map (event_line t.decls) t.events)
      ∙ (λ j. scan_some declaration_in declaration_line (λ d. d) ds (λ i d less. (declaration_at i d less).declares) j
      ++ scan_none declaration_in (event_line t.decls) t.events (λ i e less. (event_at i e less).declares) j)
      ∙ append-nil _ ∙ map-id ds
    where
      map-id : (ds : List Declaration) → map (λ d. d) ds ≡ ds
      map-id [] = refl
      map-id (d ∷ ds) = ap (λ l. d ∷ l) (map-id ds)

  events_again : filter_map (λ l. event_in version ds (words_of l)) (lines t) ≡ map (said t.decls) t.events
  unfolding lines
  events_again =
      (λ j. cons_option ((header_scanned version).1 version ds j)
      (filter_map (λ l. event_in version ds (words_of l)) (map declaration_line ds ++ map (event_line t.decls) t.events)))
      ∙ filter_map-append (λ l. event_in version ds (words_of l)) (map declaration_line ds) (map (event_line t.decls) t.events)
      ∙ (λ j. scan_none (λ l. event_in version ds (words_of l)) declaration_line ds
      (λ i d less. says_no_event version ds (get_or ds i d) (declaration_line (get_or ds i d)) (declaration_at i d less)) j
      ++ scan_some (λ l. event_in version ds (words_of l)) (event_line t.decls) (said t.decls) t.events says_at j)

  recorded_again : (events : List Event) → ((i : ℕ) (e : Event) → i < length events → fits t.decls (get_or events i e) ≡ true)
      → map recorded_as (map (said t.decls) events) ≡ map (placed t.decls.places) events
  recorded_again [] fit = refl
  recorded_again (e ∷ es) fit = λ j. one e (fit 0 e (omega arith)) j ∷ recorded_again es (λ i e less. fit (suc i) e (omega (arith, less))) j
    where
      one : (e : Event) → fits t.decls e ≡ true → recorded_as (said t.decls e) ≡ placed t.decls.places e
      one e fit =
          let is = is_fit t.decls e fit in
          let at = slice_get-get_or t.decls.places e.place [] is.place in
          λ j. record {
            who = e.who;
            op = e.op;
            place = (ap (λ o. Some (unwrap_or o [])) at ∙ sym at) j;
            place2 = second_at t.decls.places (has_two_places (says e.op).0) e.place2 is.second j;
          }

  pub placed_again : map recorded_as (filter_map (λ l. event_in version ds (words_of l)) (lines t)) ≡ placed_events t
  placed_again = ap (map recorded_as) events_again ∙ recorded_again t.events (λ i e less. has.is_trace.fit i e less)

first_line : (t : TraceState) → header t.decls.version ≡ first_word (lines t)
unfolding lines
first_line t = refl

-- equal texts come from equal traces
pub equal_texts : (t u : TraceState) → HasText t → HasText u → text t ≡ text u → recorded t ≡ recorded u
equal_texts t u has other same =
    let cut : lines t ≡ lines u = append_cancel_right (lines t) (lines u) ([] ∷ []) (sym (lines_again t has) ∙ ap parts_of same ∙ lines_again u other) in
    let declared : t.decls.declarations ≡ u.decls.declarations = sym (declarations_again t has)
    ∙ ap (filter_map declaration_in) cut ∙ declarations_again u other in
    let first : header t.decls.version ≡ header u.decls.version = first_line t ∙ ap first_word cut ∙ sym (first_line u) in
    let version : t.decls.version ≡ u.decls.version = same_version t.decls.version u.decls.version first in
    λ j. record {
      declared = record { version = version j; declarations = declared j };
      events = (sym (placed_again t has) ∙ (λ k. map recorded_as (filter_map (λ l. event_in (version k) (declared k) (words_of l)) (cut k)))
          ∙ placed_again u other) j;
    }
