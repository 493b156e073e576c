-- One more event, or one more declaration: the lines of a trace, and what they say to the next one.
use Rattle.std.proofs.Common.{◌≡◌, ℕ, suc, ◌+◌, ◌<◌, ◌==◌, ◌&&◌, Bool, true, false, not, if◌then◌else◌, nat_lt, nat_le}
use Rattle.std.proofs.Common.{cond, List, [], ◌∷◌, ◌++◌, length, map, get_or, Option, Some, None, Result, Ok, Err}
use Rattle.std.proofs.Common.{MatchResult, IsOkUnless, IsSome, OnOk, refl, sym, ap, subst, ◌∙◌, arith, true≢false}
use Rattle.std.proofs.{Common.{append-nil, append_assoc}, lemmas.Bool.Decides.nat_tests}
use Rattle.std.proofs.lemmas.List.{length-append, map-append, Elements.filter_map-append, Sums.sum_by-append}
use Rattle.std.{proofs.lemmas.Option.none-some, specs.List.{filter_map, cons_option, count_by}}
use Rattle.std.specs.Option.{option_and_then}
use Rattle.race_records.specs.declared.{event.Event.Event, trace.{PushFault.PushFault, TheConstants.MAX_EVENTS}}
use Rattle.race_records.specs.{declared.{version.Version.Version, kind.Kind.Kind}, Declarations.Declaration}
use Rattle.race_records.specs.Declarations.{DeclsState, place_number, with_declaration, IsWellFormed, count_of}
use Rattle.race_records.specs.{Declarations.limit_of, DeclKeywords.kind_of_decl_keyword, Events.{TraceState, IsTrace, fits}}
use Rattle.race_records.specs.{Events.{is_in_range, is_right_kind, push_fault}, Operands.{says, has_two_places}}
use Rattle.race_records.proofs.EventLemmas.{push_is_trace}
use Rattle.race_text.specs.{declared.{cause.TextCause.TextCause, form.Word.Word}, Words.{words_of, has_bad_byte}}
use Rattle.race_text.specs.Form.{word_named, as_had, word_in, fields_of, kind_declared, first_word, arguments}
use Rattle.race_text.specs.{Declaring.{is_declaration_word, is_declaration_line}, Text.{header, declaration_line}}
use Rattle.race_text.specs.{Text.{event_line, op_words, goroutine_name, line_of, lines, HasText}, Owed.owed, Fault.Seen}
use Rattle.race_text.specs.Fault.{seen, seen_so_far, declaration_in, is_event_line, or_else, fields_cause, room_cause}
use Rattle.race_text.specs.{Fault.{line_cause, cause, word_cause}, Reading.{Occurrence, event_by, event_in}}
use Rattle.race_text.specs.Taking.{state_of, IsRead, begun, IsFitting, with_places, event_of, AppendsEvent, TellsOfRoom}
use Rattle.race_text.{specs.Taking.{TakesLine, TakesOrTells}, proofs.EventWords.event_is_there}
use Rattle.race_text.proofs.{HeaderLemmas.version_again, WordTable.declares_named}
use Rattle.race_text.proofs.{EventLines.{IsEventLine, event_line as event_line_of}, PlacesAdded.words_are_there}
use Rattle.race_text.proofs.PlacesAdded.{words_stay, places_grow, places_well_formed, places_are_trace, both_fit}

map_same : {X Y : Type 0} (f g : X → Y) (xs : List X) → ((k : ℕ) (d : X) → k < length xs → f (get_or xs k d) ≡ g (get_or xs k d)) → map f xs ≡ map g xs
map_same f g [] h = refl
map_same f g (x ∷ xs) h = λ i. h 0 x (omega arith) i ∷ map_same f g xs (λ k d l. h (suc k) d (omega arith)) i

-- the lines of the events before stay
events_stay : (t : TraceState) (o : Occurrence) → IsTrace t → map (event_line (with_places t.decls o)) t.events ≡ map (event_line t.decls) t.events
events_stay t o holds = map_same (event_line (with_places t.decls o)) (event_line t.decls) t.events
    (λ k d within. let e = get_or t.events k d in
    ap (λ places. line_of (op_words t.decls.declarations (goroutine_name t.decls.declarations e.who) places e.op))
    (words_stay t.decls o e (holds.fit k d within)))

-- the line of the event that is appended
event_line_is : (decls : DeclsState) (line : List ℕ) (o : Occurrence) → IsEventLine decls line o
    → event_line (with_places decls o) (event_of decls o) ≡ line
event_line_is decls line o is =
    ap (λ places. line_of (op_words decls.declarations (goroutine_name decls.declarations o.who) places o.op)) (words_are_there decls o) ∙ sym is.line_is

lines_event : (old new : TraceState) (line : List ℕ) (o : Occurrence) → IsTrace old → IsEventLine old.decls line o → AppendsEvent 0 old new o
    → lines new ≡ lines old ++ line ∷ []
unfolding lines
lines_event old new line o holds is added =
    let decls = with_places old.decls o in
    let e = event_of old.decls o in
    let before = header old.decls.version ∷ map declaration_line old.decls.declarations in
    (λ i. (header (added.decls i).version ∷ map declaration_line (added.decls i).declarations) ++ map (event_line (added.decls i)) (added.events i))
    ∙ ap (λ l. before ++ l) (map-append (event_line decls) old.events (e ∷ []))
    ∙ (λ i. before ++ (events_stay old o holds i ++ event_line_is old.decls line o is i ∷ []))
    ∙ sym (append_assoc before (map (event_line old.decls) old.events) (line ∷ []))

-- what the lines say after an event
pub seen_event : (before : List (List ℕ)) (line : List ℕ) (ds : List Declaration) (events : ℕ) → seen before ≡ seen_so_far ds events
    → declaration_in line ≡ None → is_event_line line ≡ true
    → seen (before ++ line ∷ []) ≡ seen_so_far ds (events + 1)
unfolding seen
seen_event before line ds events h none event =
    let declared : filter_map declaration_in (before ++ line ∷ []) ≡ filter_map declaration_in before =
    filter_map-append declaration_in before (line ∷ []) ∙ (λ i. filter_map declaration_in before ++ cons_option (none i) []) ∙ append-nil _ in
    let counted : count_by is_event_line (before ++ line ∷ []) ≡ count_by is_event_line before + 1 =
    sum_by-append (λ l. cond (is_event_line l) 1 0) before (line ∷ []) ∙ (λ i. count_by is_event_line before + (0 + cond (event i) 1 0)) in
    (λ i. seen_so_far (declared i) (counted i)) ∙ ap (λ (s : Seen). seen_so_far s.declarations (s.events + 1)) h

-- and after a declaration
pub seen_declaration : (before : List (List ℕ)) (line : List ℕ) (ds : List Declaration) (d : Declaration) → seen before ≡ seen_so_far ds 0
    → declaration_in line ≡ Some d → is_event_line line ≡ false
    → seen (before ++ line ∷ []) ≡ seen_so_far (ds ++ d ∷ []) 0
unfolding seen
seen_declaration before line ds d h is event =
    let declared : filter_map declaration_in (before ++ line ∷ []) ≡ filter_map declaration_in before ++ d ∷ [] =
    filter_map-append declaration_in before (line ∷ []) ∙ (λ i. filter_map declaration_in before ++ cons_option (is i) []) in
    let counted : count_by is_event_line (before ++ line ∷ []) ≡ count_by is_event_line before + 0 =
    sum_by-append (λ l. cond (is_event_line l) 1 0) before (line ∷ []) ∙ (λ i. count_by is_event_line before + (0 + cond (event i) 1 0)) in
    (λ i. seen_so_far (declared i) (counted i)) ∙ ap (λ (s : Seen). seen_so_far (s.declarations ++ d ∷ []) (s.events + 0)) h

pub lines_declaration : (decls : DeclsState) (line : List ℕ) (d : Declaration) → line ≡ declaration_line d
    → lines (begun (with_declaration decls d.name d.object)) ≡ lines (begun decls) ++ line ∷ []
unfolding lines
lines_declaration decls line d is =
    let first = header decls.version in
    ap (λ l. (first ∷ l) ++ []) (map-append declaration_line decls.declarations (d ∷ []))
    ∙ append-nil _ ∙ (λ i. (first ∷ map declaration_line decls.declarations) ++ sym is i ∷ [])
    ∙ ap (λ l. l ++ line ∷ []) (sym (append-nil (first ∷ map declaration_line decls.declarations)))

-- the event fits with its places
pub event_fits : (decls : DeclsState) (o : Occurrence) → IsFitting decls o → fits (with_places decls o) (event_of decls o) ≡ true
unfolding fits
event_fits decls o fitting =
    let both = both_fit decls o (has_two_places (says o.op).0) fitting.two in
    let who = fitting.who in
    let less = both.0 in
    let who_fits : nat_lt o.who (count_of Kind.Goroutine decls.declarations) ≡ true = grind (arith, nat_tests, who) in
    let place_fits : nat_lt (place_number decls.places o.place) (length (with_places decls o).places) ≡ true = grind (arith, nat_tests, less) in
    λ i. (who_fits i && fitting.op i && place_fits i && both.1 i) && (fitting.has i && fitting.lock i)

-- what is refused with room for it is refused for memory
pub memory_alone : {T E : Type 0} (r : Result T E) (e m : E) → IsOkUnless r m → r ≡ Err e → e ≡ m
memory_alone (Ok x) e m h is = cc
memory_alone (Err d) e m h is = cc

pub event_has_room : (t : TraceState) (e : Event) → fits t.decls e ≡ true → length t.events < MAX_EVENTS → push_fault t e ≡ None
unfolding push_fault fits
event_has_room t e fit room =
    let full : nat_le MAX_EVENTS (length t.events) ≡ false = grind (arith, nat_tests) in
    by (is_in_range t.decls e) (is_right_kind t.decls e.op) fit (nat_le MAX_EVENTS (length t.events)) full
  where
    by : (a b : Bool) → (a && b) ≡ true → (c : Bool) → c ≡ false
        → ◌≡◌ {A = Option PushFault} (if not a then Some PushFault.BadNumber else
        (if not b then Some PushFault.WrongKind else (if c then Some PushFault.Full else None))) None
    by true true e true f = absurd (true≢false f)
    by true true e false f = refl
    by true false e c f = absurd (true≢false (sym e))
    by false b e c f = absurd (true≢false (sym e))

-- after its places were added there is room for the event
pub draft_has_room : (old mid : TraceState) (o : Occurrence) (e : Event) → IsFitting old.decls o → length old.events < MAX_EVENTS
    → mid.decls ≡ with_places old.decls o → mid.events ≡ old.events → e ≡ event_of old.decls o → push_fault mid e ≡ None
draft_has_room old mid o e fitting room decls events is =
    event_has_room mid e ((λ i. fits (decls i) (is i)) ∙ event_fits old.decls o fitting)
    (subst (λ (es : List Event). length es < MAX_EVENTS) (sym events) room)

-- what is not nothing is something
pub is_there : {A : Type 0} (o : Option A) → (o ≡ None → ⊥) → IsSome o
is_there None h = absurd (h refl)
is_there (Some x) h = refl

-- the cause of a line behind others is told by what they say
pub cause_behind : (t : TraceState) (line : List ℕ) → IsRead t → cause (lines t) line true ≡ line_cause t.decls.version (state_of t) line
unfolding lines cause
cause_behind t line read =
    ap (option_and_then (λ version. line_cause version (seen (lines t)) line)) (version_again t.decls.version)
    ∙ ap (λ s. line_cause t.decls.version s line) read.seen_is

pub bad_byte_is_told : (version : Version) (s : Seen) (line : List ℕ) → has_bad_byte line ≡ true → line_cause version s line ≡ Some TextCause.BadByte
unfolding line_cause
bad_byte_is_told version s line bad =
    ap (λ b. if b then Some TextCause.BadByte else word_cause s (word_in version (first_word (words_of line))) (arguments (words_of line))) bad

pub clean_line : (version : Version) (s : Seen) (line : List ℕ) → has_bad_byte line ≡ false
    → line_cause version s line ≡ word_cause s (word_in version (first_word (words_of line))) (arguments (words_of line))
unfolding line_cause
clean_line version s line clean = ap (λ b. if b then Some TextCause.BadByte else word_cause s
    (word_in version (first_word (words_of line))) (arguments (words_of line))) clean

-- an event that a line says fits
pub fitting : (decls : DeclsState) (line : List ℕ) (o : Occurrence) → IsEventLine decls line o → IsFitting decls o
fitting decls line o is = record {
  place = is.places.first;
  second = is.places.second;
  two = is.places.count;
  who = is.who;
  op = is.op;
  has = is.has;
  lock = is.lock;
  value = is.value;
}

-- an event that was appended, or refused
module _ (old new : TraceState) (line : List ℕ) (o : Occurrence) (read : IsRead old) (is : IsEventLine old.decls line o) where
  pub event_cause : cause (lines old) line true ≡ room_cause (state_of old) None
  event_cause = cause_behind old line read ∙ clean_line old.decls.version (state_of old) line is.clean ∙ is.cause_is (length old.events)

  room_is : (b : Bool) → nat_le MAX_EVENTS (length old.events) ≡ b → cause (lines old) line true ≡ (if b then Some TextCause.TooMany else None)
  room_is b e = event_cause ∙ ap (λ c. if c then Some TextCause.TooMany else None) e

  event_has_text : AppendsEvent 0 old new o → HasText new
  event_has_text added =
      let decls = with_places old.decls o in
      let e = event_of old.decls o in
      let mid : TraceState = record { decls = decls; events = old.events; spare = old.spare } in
      let fit = event_fits old.decls o (fitting old.decls line o is) in
      let few = read.few_places in
      let room = added.room in
      let before = read.has_text in
      record {
        well_formed = subst IsWellFormed (sym added.decls)
            (places_well_formed old.decls o is.places.first is.places.second (omega (arith, few, room)) before.well_formed);
        is_trace = subst (λ (d : DeclsState). IsTrace (record { decls = d; events = new.events; spare = new.spare })) (sym added.decls)
            (push_is_trace mid e new.events new.spare (places_are_trace old o before.is_trace) is.value (event_has_room mid e fit (let room = added.room in omega (arith, room))) added.events);
      }

  pub event_taken : AppendsEvent 0 old new o → TakesLine (lines old) line new
  event_taken added =
      let more : length new.events ≡ length old.events + 1 = ap length added.events ∙ length-append old.events (event_of old.decls o ∷ []) in
      let after = lines_event old new line o read.has_text.is_trace is added in
      record {
        no_cause = let room = added.room in room_is false (grind (arith, nat_tests, room));
        lines = after;
        is_read = record {
          has_text = event_has_text added;
          seen_is = ap seen after ∙ seen_event (lines old) line old.decls.declarations (length old.events) read.seen_is is.declares is.is_event
              ∙ (λ i. seen_so_far (sym added.decls i).declarations (sym more i));
          few_places =
              let few = read.few_places in
              let same : length new.decls.places ≡ length (with_places old.decls o).places = ap (λ (d : DeclsState). length d.places) added.decls in
              omega (arith, few, same, places_grow old.decls o, more);
        };
      }

  pub event_answered : (r : Result (Unit {0}) TextCause) → MatchResult r (λ _. AppendsEvent 0 old new o) (TellsOfRoom 0 old)
      → TakesOrTells (lines old) line r new
  event_answered (Ok u) added = event_taken added
  event_answered (Err told) tells = by (nat_le MAX_EVENTS (length old.events)) refl
    where
      by : (b : Bool) → nat_le MAX_EVENTS (length old.events) ≡ b → told ≡ owed (cause (lines old) line true)
      by true over = tells.full (grind (arith, nat_tests, over)) ∙ sym (ap owed (room_is true over))
      by false less = tells.room (grind (arith, nat_tests, less)) ∙ sym (ap owed (room_is false less))

pub event_grown : (before : ℕ) (old new : TraceState) (o : Occurrence) (r : Result (Unit {0}) TextCause)
    → MatchResult r (λ _. AppendsEvent before old new o) (TellsOfRoom before old) → OnOk r (0 < length new.events)
event_grown before old new o (Ok u) added =
    let more = ap length added.events ∙ length-append old.events (event_of old.decls o ∷ []) in omega (arith, more)
event_grown before old new o (Err told) tells = tt

-- a line that says no event is at fault, where an event stands before it or it declares nothing
or_else_some : (a : Option TextCause) (b : TextCause) → or_else a (Some b) ≡ None → ⊥
or_else_some None b h = none-some b (sym h)
or_else_some (Some c) b h = none-some c (sym h)

late : (ds : List Declaration) (events : ℕ) (kind : Kind) → 0 < events → (c : TextCause) × (room_cause (seen_so_far ds events) (Some kind) ≡ Some c)
late ds events kind some = by (nat_le (limit_of kind) (count_of kind ds)) (nat_lt 0 events) (grind (arith, nat_tests))
  where
    by : (a b : Bool) → b ≡ true → (c : TextCause) × ((if a then Some TextCause.TooMany else (if b then Some TextCause.LateDeclaration else None)) ≡ Some c)
    by true b e = (TextCause.TooMany, refl)
    by false true e = (TextCause.LateDeclaration, refl)
    by false false e = absurd (true≢false (sym e))

pub late_declaration : (ds : List Declaration) (events : ℕ) (word : Word) (kind : Kind) (words : List (List ℕ)) → kind_declared word ≡ Some kind → 0 < events
    → word_cause (seen_so_far ds events) (Some word) words ≡ None → ⊥
late_declaration ds events word kind words is some h = by (length words == length (fields_of word)) h
  where
    by : (b : Bool)
        → (if not b then Some TextCause.WrongCount else or_else (fields_cause ds (fields_of word) words)
        (room_cause (seen_so_far ds events) (kind_declared word))) ≡ None
        → ⊥
    by false h = none-some TextCause.WrongCount (sym h)
    by true h =
        let told = late ds events kind some in
        or_else_some (fields_cause ds (fields_of word) words) told.0
        (ap (or_else (fields_cause ds (fields_of word) words)) (sym (ap (room_cause (seen_so_far ds events)) is ∙ told.1)) ∙ h)

no_event : (ds : List Declaration) (events : ℕ) (word : Option Word) (args : List (List ℕ)) → event_by ds word args ≡ None
    → (is_declaration_word word ≡ true → 0 < events)
    → word_cause (seen_so_far ds events) word args ≡ None → ⊥
no_event ds events None args none behind h = none-some TextCause.UnknownWord (sym h)
no_event ds events (Some (Word.Declares decl_keyword)) args none behind h =
    late_declaration ds events (Word.Declares decl_keyword) (kind_of_decl_keyword decl_keyword) args refl (behind refl) h
no_event ds events (Some (Word.Does op_keyword)) args none behind h = event_is_there ds events op_keyword args h none

pub no_word : word_named [] ≡ None
unfolding word_named
no_word = refl

no_word_in : (version : Version) → word_in version [] ≡ None
unfolding word_in
no_word_in version = ap (option_and_then (as_had version)) no_word

pub no_event_is_told : (version : Version) (ds : List Declaration) (events : ℕ) (line : List ℕ) → event_in version ds (words_of line) ≡ None
    → (is_declaration_line line ≡ true → 0 < events)
    → line_cause version (seen_so_far ds events) line ≡ None → ⊥
no_event_is_told version ds events line none behind h =
    cases (has_bad_byte line) refl (λ clean. by (words_of line) none behind (sym (clean_line version (seen_so_far ds events) line clean) ∙ h))
  where
    cases : (b : Bool) → has_bad_byte line ≡ b → (has_bad_byte line ≡ false → ⊥) → ⊥
    cases true bad rest = none-some TextCause.BadByte (sym h ∙ bad_byte_is_told version (seen_so_far ds events) line bad)
    cases false clean rest = rest clean

    by : (ws : List (List ℕ)) → event_in version ds ws ≡ None → (is_declaration_word (word_named (first_word ws)) ≡ true → 0 < events)
        → word_cause (seen_so_far ds events) (word_in version (first_word ws)) (arguments ws) ≡ None → ⊥
    by [] none behind h = none-some TextCause.UnknownWord (sym (sym (ap (λ w. word_cause (seen_so_far ds events) w []) (no_word_in version)) ∙ h))
    by (first ∷ args) none behind h = no_event ds events (word_in version first) args none (λ d. behind (declares_named version first d)) h

-- a line that says an event of these declarations, under another name
pub says_event : (lent decls : DeclsState) (line : List ℕ) (o : Occurrence) → IsWellFormed lent → lent ≡ decls
    → event_in lent.version lent.declarations (words_of line) ≡ Some o → IsEventLine decls line o
says_event lent decls line o holds is h = subst (λ (d : DeclsState). IsEventLine d line o) is (event_line_of lent line o holds h)

-- where a fact fails only without events, there is one
pub behind_events : (events : List Event) (count : ℕ) (b : Bool) → count ≡ length events → (events ≡ [] → b ≡ false) → b ≡ true → 0 < count
behind_events [] count b e ready h = absurd (true≢false (sym h ∙ ready refl))
behind_events (x ∷ xs) count b e ready h = omega (arith, e)
