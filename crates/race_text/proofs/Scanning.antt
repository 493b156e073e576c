-- Bytes without a fault are some trace's text: line by line, each is taken into a trace.
use Rattle.std.proofs.Common.{◌≡◌, ℕ, ◌*◌, ◌<◌, ◌≤◌, Bool, true, false, nat_le, ◌==◌, if◌then◌else◌, List, [], ◌∷◌}
use Rattle.std.proofs.Common.{◌++◌, length, Option, Some, None, refl, sym, ap, subst, ◌∙◌, arith, true≢false}
use Rattle.std.proofs.{Common.{append-nil, append_assoc}, lemmas.{Bool.Decides.nat_tests, Grind.flat_map-append}}
use Rattle.std.proofs.lemmas.{List.Splits.{join_with_byte-slice_split, length-slice_split}, Option.none-some}
use Rattle.std.specs.List.{flat_map, join_with_byte}
use Rattle.race_records.specs.declared.{version.Version.Version, event.Event.Event, trace.TheConstants.MAX_EVENTS}
use Rattle.race_records.specs.{Declarations.{Declaration, with_declaration}, Events.TraceState}
use Rattle.race_text.specs.{declared.cause.TextCause.TextCause, Words.{parts_of, words_of, has_bad_byte}, Text.header}
use Rattle.race_text.specs.{Text.{ended, lines, text, HasText, IsTraceText}, Lines.{fault_after, first_fault}}
use Rattle.race_text.specs.Fault.{seen, seen_so_far, version_said, header_cause, line_cause, cause, trace_causes}
use Rattle.race_text.specs.{Fault.text_fault, Declaring.{is_declaration_line, with_declared}}
use Rattle.race_text.specs.{Reading.{Occurrence, event_in}, Reader.nothing_in, Taking.{state_of, IsRead, begun}}
use Rattle.race_text.{specs.Taking.{with_places, event_of}, proofs.{EventLines.{event_line as event_line_of}}}
use Rattle.race_text.proofs.{HeaderLemmas.said_by_header, ParseLemmas.{none_step, none_end, end_empty, no_bytes}}
use Rattle.race_text.proofs.ReaderLemmas.{header_lines, empty_is_read, no_events, declaration_of_line, cause_of_line}
use Rattle.race_text.proofs.{ReaderLemmas.taken_declaration, TraceLemmas.{cause_behind, bad_byte_is_told}}
use Rattle.race_text.proofs.TraceLemmas.{no_event_is_told, event_cause, event_taken}

-- a trace with one more line
record IsNext (t : TraceState) (line : List ℕ) : Type 0 where
  next : TraceState
  read : IsRead next
  lines_are : lines next ≡ lines t ++ line ∷ []

module _ (t : TraceState) (read : IsRead t) (line : List ℕ) (none : cause (lines t) line true ≡ None) where
  abbrev ds : List Declaration
  ds = t.decls.declarations

  with_event : (o : Occurrence) → event_in t.decls.version ds (words_of line) ≡ Some o → IsNext t line
  with_event o says =
      let is = event_line_of t.decls line o read.has_text.well_formed says in
      let next : TraceState = record { decls = with_places t.decls o; events = t.events ++ event_of t.decls o ∷ []; spare = 0 } in
      let room : length t.events < MAX_EVENTS = by (nat_le MAX_EVENTS (length t.events)) refl (sym (event_cause t next line o read is) ∙ none) in
      let taken = event_taken t next line o read is (record { room = omega (arith, room); decls = refl; events = refl }) in
      record { next = next; read = taken.is_read; lines_are = taken.lines }
    where
      by : (b : Bool) → nat_le MAX_EVENTS (length t.events) ≡ b → (if b then Some TextCause.TooMany else None) ≡ None → length t.events < MAX_EVENTS
      by true e h = absurd (none-some TextCause.TooMany (sym h))
      by false e h = grind (arith, nat_tests)

  is_clean : has_bad_byte line ≡ false
  is_clean = by (has_bad_byte line) refl
    where
      by : (b : Bool) → has_bad_byte line ≡ b → b ≡ false
      by true bad = absurd (none-some TextCause.BadByte (sym (sym (cause_behind t line read ∙ bad_byte_is_told t.decls.version (state_of t) line bad) ∙ none)))
      by false e = refl

  lines_begun : t.events ≡ [] → lines (begun t.decls) ≡ lines t
  unfolding lines
  lines_begun e = λ i. lines (record { decls = t.decls; events = sym e i; spare = 0 })

  with_declared_line : t.events ≡ [] → is_declaration_line line ≡ true → IsNext t line
  with_declared_line empty declares =
      let same = lines_begun empty in
      let before : IsRead (begun t.decls) = record {
        has_text = record { well_formed = read.has_text.well_formed; is_trace = no_events t.decls };
        seen_is = ap seen same ∙ read.seen_is ∙ (λ i. seen_so_far ds (length (empty i)));
        few_places = subst (λ (es : List Event). length t.decls.places ≤ 2 * length es) empty read.few_places;
      } in
      let fine = sym (cause_of_line t.decls t.decls line before is_clean declares) ∙ ap (λ ls. cause ls line true) same ∙ none in
      let is = declaration_of_line ds line declares fine in
      let new = with_declaration t.decls is.d.name is.d.object in
      let taken = taken_declaration t.decls new line before is_clean declares fine (sym (ap (with_declared t.decls) is.is)) in
      record { next = begun new; read = taken.is_read; lines_are = taken.lines ∙ ap (λ ls. ls ++ line ∷ []) same }

  told_none : line_cause t.decls.version (seen_so_far ds (length t.events)) line ≡ None
  told_none = sym (cause_behind t line read) ∙ none

  with_line : IsNext t line
  with_line = by (event_in t.decls.version ds (words_of line)) refl (is_declaration_line line) refl t.events refl
    where
      by : (o : Option Occurrence) → event_in t.decls.version ds (words_of line) ≡ o → (b : Bool) → is_declaration_line line ≡ b → (es : List Event) → t.events ≡ es
          → IsNext t line
      by (Some o) says b declares es are = with_event o says
      by None says false declares es are = absurd (no_event_is_told t.decls.version ds (length t.events) line says (λ h. absurd (true≢false (sym h ∙ declares))) told_none)
      by None says true declares [] are = with_declared_line are declares
      by None says true declares (e ∷ es) are =
          absurd (no_event_is_told t.decls.version ds (length t.events) line says (λ _. let l = ap length are in omega (arith, l)) told_none)

-- the parts that are left, behind the lines of a trace
scanned : (parts : List (List ℕ)) (t : TraceState) → IsRead t → 0 < length parts → fault_after trace_causes (lines t) parts ≡ None
    → (u : TraceState) × HasText u × (flat_map ended (lines u) ≡ flat_map ended (lines t) ++ join_with_byte 10 parts)
scanned [] t read some none = absurd (omega (arith, some))
scanned (last ∷ []) t read some none =
    let empty = end_empty (lines t) last (none_end trace_causes (lines t) last none) in
    (t, read.has_text, sym (ap (λ l. flat_map ended (lines t) ++ l) (no_bytes last empty.0) ∙ append-nil (flat_map ended (lines t))))
scanned (line ∷ part ∷ others) t read some none =
    let parts = part ∷ others in
    let split = none_step trace_causes (lines t) line parts (omega arith) none in
    let next = with_line t read line split.0 in
    let rest = scanned (part ∷ others) next.next next.read (omega arith) (ap (λ ls. fault_after trace_causes ls parts) next.lines_are ∙ split.1) in
    let front = flat_map ended (lines t) in (
      rest.0,
      rest.1,
      rest.2 ∙ ap (λ ls. flat_map ended ls ++ join_with_byte 10 parts) next.lines_are
          ∙ ap (λ l. l ++ join_with_byte 10 parts) (flat_map-append ended (lines t) (line ∷ []) ∙ ap (λ l. front ++ l) (append-nil (ended line)))
          ∙ append_assoc front (ended line) (join_with_byte 10 parts)
          ∙ ap (λ l. front ++ l) (append_assoc line (10 ∷ []) (join_with_byte 10 parts)),
    )

-- a line with its newline, in front of what follows
one_line : (line rest : List ℕ) → flat_map ended (line ∷ []) ++ rest ≡ line ++ 10 ∷ rest
one_line line rest = ap (λ l. l ++ rest) (append-nil (ended line)) ∙ append_assoc line (10 ∷ []) rest

-- the trace that a header begins
abbrev empty_trace : Version → TraceState
empty_trace version = begun (nothing_in version)

-- the first line is a header
is_header : (line : List ℕ) → cause [] line true ≡ None → (version : Version) × (line ≡ header version)
unfolding cause
is_header line h = by (version_said line) refl h
  where
    by : (v : Option Version) → version_said line ≡ v → header_cause v true ≡ None → (version : Version) × (line ≡ header version)
    by (Some version) e h = (version, said_by_header line version e)
    by None e h = absurd (none-some TextCause.BadHeader (sym h))

pub faultless_is_text : (bytes : List ℕ) → text_fault bytes ≡ None → IsTraceText bytes
unfolding first_fault text
faultless_is_text bytes none = by (parts_of bytes) refl none
  where
    by : (parts : List (List ℕ)) → parts_of bytes ≡ parts → fault_after trace_causes [] parts ≡ None → IsTraceText bytes
    by [] e h = let some = sym (ap length e) ∙ length-slice_split (λ b. b == 10) bytes in absurd (omega (arith, some))
    by (last ∷ []) e h =
        let empty = end_empty [] last (none_end trace_causes [] last h) in
        let some = empty.1 in
        absurd (omega (arith, some))
    by (line ∷ part ∷ others) e h =
        let parts = part ∷ others in
        let split = none_step trace_causes [] line parts (omega arith) h in
        let said = is_header line split.0 in
        let first = said.1 in
        let rest = scanned parts (empty_trace said.0) (empty_is_read said.0) (omega arith)
        (ap (λ ls. fault_after trace_causes ls parts) (header_lines said.0 ∙ (λ i. sym first i ∷ [])) ∙ split.1) in
        let printed = sym (join_with_byte-slice_split 10 bytes) ∙ ap (join_with_byte 10) e ∙ (λ i. first i ++ 10 ∷ join_with_byte 10 parts)
        ∙ sym (one_line (header said.0) (join_with_byte 10 parts)) ∙ sym (rest.2 ∙ ap (λ ls. flat_map ended ls ++ join_with_byte 10 parts) (header_lines said.0)) in
        (rest.0, record { has_text = rest.1; printed = printed })
