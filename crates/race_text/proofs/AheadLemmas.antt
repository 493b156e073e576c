-- Lines that are read ahead, and are taken later.
use Rattle.std.proofs.Common.{◌≡◌, ℕ, ◌+◌, ◌-◌, ◌<◌, ◌≤◌, List, [], ◌∷◌, ◌++◌, length, take, drop, refl, sym, ap, subst, ◌∙◌, arith, append_assoc}
use Rattle.std.proofs.Common.{Option, Some, None, IfSome, Result, Ok, Err, IfErr, OnOk, MatchResult}
use Rattle.std.specs.Prelude.{slice_get}
use Rattle.std.proofs.{Math.Seq.drop-append_seam, lemmas.List.{length-append, length-drop, take-append-drop}}
use Rattle.race_records.specs.declared.{event.Event.Event, trace.TheConstants.MAX_EVENTS}
use Rattle.race_records.specs.{Declarations.{Declaration, IsWellFormed}, Events.{TraceState, push_fault}}
use Rattle.race_text.specs.{Reading.{Occurrence, occurrence}, Taking.{IsReadBehind, AppendsEvent, TellsOfRoom, event_of, with_places, with_second}}
use Rattle.race_text.specs.{declared.{ahead.LineAhead.LineAhead, cause.TextCause.TextCause, common.Said.Said}, Ahead.{IsAhead, ahead_of}, Words.parts_of}
use Rattle.race_text.specs.Common.{SaysEvent, event_at, line_in, op_of, said_of}
use Rattle.race_text.proofs.{EventLines.IsEventLine, FedLemmas.shorter, GuessLemmas.{adds_nothing, number_is}, ParseLemmas.cut_joined}
use Rattle.race_text.proofs.TraceLemmas.{draft_has_room, fitting, says_event}

-- what stands behind a part of the bytes stands where it is counted from their end
behind_part : (bytes front rest : List ℕ) (at : ℕ) → drop at bytes ≡ front ++ rest → drop (length bytes - length rest) bytes ≡ rest
behind_part bytes front rest at is =
    let before = take at bytes ++ front in
    let whole : before ++ rest ≡ bytes = append_assoc (take at bytes) front rest ∙ ap (λ (l : List ℕ). take at bytes ++ l) (sym is) ∙ take-append-drop at bytes in
    let count = ap length (sym whole) ∙ length-append before rest in
    ap (λ (n : ℕ). drop n bytes) (omega (arith, count)) ∙ ap (drop (length before)) (sym whole) ∙ drop-append_seam before rest

module _ (bytes left line rest : List ℕ) (at : ℕ) (is : left ≡ drop at bytes) (parts : parts_of left ≡ line ∷ parts_of rest) where
  -- where the bytes after a line begin
  pub rest_is : drop (length bytes - length rest) bytes ≡ rest
  rest_is = behind_part bytes (line ++ 10 ∷ []) rest at (sym is ∙ cut_joined left line rest parts ∙ sym (append_assoc line (10 ∷ []) rest))

  -- they are fewer
  pub later : at + length rest < length bytes
  later =
      let less = shorter left line rest parts in
      let left_is = ap length is ∙ length-drop at bytes in
      omega (arith, less, left_is)

-- what is kept of a line is right of it
pub kept_ahead : (ds : List Declaration) (places : List (List ℕ)) (bytes left rest : List ℕ) (said : Said) (number : Option ℕ) (at end : ℕ) (r : Option LineAhead)
    → left ≡ drop at bytes → SaysEvent ds left (said_of said) rest → drop end bytes ≡ rest → end ≤ length bytes
    → IfSome number (λ n. slice_get places n ≡ Some said.place.now)
    → IfSome r (λ line. (number ≡ Some line.place) × (line ≡ ahead_of said line.place at end))
    → IfSome r (IsAhead ds places bytes)
kept_ahead ds places bytes left rest said number at end None is says behind within place kept = tt
kept_ahead ds places bytes left rest said number at end (Some line) is says behind within place kept =
    let these : IsAhead ds places bytes (ahead_of said line.place at end) = record {
      place = said.place.now;
      number = subst (λ o. IfSome o (λ n. slice_get places n ≡ Some said.place.now)) kept.0 place;
      says = subst (λ (p : List ℕ × List ℕ). SaysEvent ds p.0 (said_of said) p.1) (λ i. (is i, sym behind i)) says;
      within = within;
    } in
    subst (IsAhead ds places bytes) (sym kept.1) these

module _ (before : ℕ) (old : TraceState) (bytes : List ℕ) (line : LineAhead) (read : IsReadBehind before old)
    (ahead : IsAhead old.decls.declarations old.decls.places bytes line) where
  well_formed : IsWellFormed old.decls
  well_formed = read.is_read.has_text.well_formed

  -- the event that the line says
  abbrev pub said_ahead : Occurrence
  said_ahead = occurrence line.who (op_of line.deed) (ahead.place, None)

  pub is_event_line : IsEventLine old.decls (line_in (drop line.start bytes)) said_ahead
  is_event_line = says_event old.decls old.decls (line_in (drop line.start bytes)) said_ahead well_formed refl (ahead.says.says old.decls.version)

  event_is : event_at line.who (op_of line.deed) line.place ≡ event_of old.decls said_ahead
  event_is = λ i. record {
    who = line.who;
    op = op_of line.deed;
    place = sym (number_is old.decls line.place ahead.place well_formed ahead.number) i;
    place2 = None;
  }

  decls_are : old.decls ≡ with_places old.decls said_ahead
  decls_are = λ i. with_second (sym (adds_nothing old.decls line.place ahead.place ahead.number) i) None

  -- it fits the trace where there is room
  pub allowed_ahead : before + length old.events < MAX_EVENTS → push_fault old (event_at line.who (op_of line.deed) line.place) ≡ None
  allowed_ahead room =
      draft_has_room old old said_ahead (event_at line.who (op_of line.deed) line.place)
      (fitting old.decls (line_in (drop line.start bytes)) said_ahead is_event_line) (omega (arith, room)) decls_are refl event_is

  -- and it is appended with its place, or memory is refused
  pub answered_ahead : (new : TraceState) (r : Result (Unit {0}) TextCause) → before + length old.events < MAX_EVENTS
      → OnOk r (new.decls ≡ old.decls) → OnOk r (new.events ≡ old.events ++ event_at line.who (op_of line.deed) line.place ∷ [])
      → IfErr r (λ cause. cause ≡ TextCause.OutOfMemory) → MatchResult r (λ _. AppendsEvent before old new said_ahead) (TellsOfRoom before old)
  answered_ahead new (Ok u) room decls events refused = record {
    room = room;
    decls = decls ∙ decls_are;
    events = events ∙ ap (λ (e : Event). old.events ++ e ∷ []) event_is;
  }
  answered_ahead new (Err told) room decls events refused = record { full = λ full. absurd (omega (arith, full, room)); room = λ _. refused }
