-- The table of places with an event's places: the old ones stay, and the new ones are there.
use Rattle.std.proofs.Common.{◌≡◌, ℕ, suc, ◌+◌, ◌<◌, ◌≤◌, ◌&&◌, ◌||◌, Bool, true, false, not, if◌then◌else◌, nat_lt}
use Rattle.std.proofs.Common.{nat_le, cond, List, [], ◌∷◌, ◌++◌, length, slice_get, unwrap_or, Option, Some, None}
use Rattle.std.proofs.Common.{option_map, IfSome, is_some, refl, sym, ap, ◌∙◌, arith, true≢false}
use Rattle.std.proofs.lemmas.{Bool.Decides.nat_tests, List.length-append, Option.slice_get_within}
use Rattle.std.{proofs.lemmas.Slice.Eq.bytes_eq-Decides, specs.{List.{position_or_len, list_any}, Str.bytes_eq}}
use Rattle.race_records.specs.declared.{event.Event.Event, declarations.{DeclFault.DeclFault, TheConstants.MAX_PLACES}}
use Rattle.race_records.specs.{declared.kind.Kind.Kind, Name.is_place, Declarations.{DeclsState, is_known}}
use Rattle.race_records.specs.Declarations.{place_number, with_place, place_fault, IsWellFormed, count_of}
use Rattle.race_records.specs.Events.{TraceState, IsTrace, fits, is_in_range, is_right_kind, has_op, lock_fits, op_fits}
use Rattle.race_records.specs.{Events.second_place_fits, Operands.{says, has_two_places}}
use Rattle.race_records.proofs.EventLemmas.{with_place_is_trace}
use Rattle.race_records.proofs.ListLemmas.{slice_get-push_within, slice_get-push_last}
use Rattle.race_records.proofs.{PlaceLemmas.with_place_well_formed, TextLemmas.position_or_len-absent}
use Rattle.race_text.specs.{Text.{place_text, second_text, place_words}, Reading.Occurrence}
use Rattle.race_text.{specs.Taking.{with_second, with_places, event_of}, proofs.WordLemmas.both}

-- the number of a place leads to it
known_at : (places : List (List ℕ)) (word : List ℕ) → list_any (bytes_eq word) places ≡ true
    → slice_get places (position_or_len (bytes_eq word) places) ≡ Some word
known_at [] word h = absurd (true≢false (sym h))
known_at (p ∷ ps) word h = by (bytes_eq word p) refl h (known_at ps word)
  where
    by : (b : Bool) → bytes_eq word p ≡ b → (b || list_any (bytes_eq word) ps) ≡ true
        → (list_any (bytes_eq word) ps ≡ true → slice_get ps (position_or_len (bytes_eq word) ps) ≡ Some word)
        → slice_get (p ∷ ps) (cond (not b) (1 + position_or_len (bytes_eq word) ps) 0) ≡ Some word
    by true e h rest = ap Some (sym ((bytes_eq-Decides word p).0 e))
    by false e h rest = let n = position_or_len (bytes_eq word) ps in let one : 1 + n ≡ suc n = omega arith in ap (slice_get (p ∷ ps)) one ∙ rest h

pub place_is_there : (decls : DeclsState) (word : List ℕ) → slice_get (with_place decls word).places (place_number decls.places word) ≡ Some word
place_is_there decls word = by (is_known decls.places word) refl
  where
    by : (b : Bool) → is_known decls.places word ≡ b
        → slice_get (if b then decls.places else decls.places ++ word ∷ []) (place_number decls.places word) ≡ Some word
    by true e = known_at decls.places word e
    by false e = slice_get-push_last decls.places word (place_number decls.places word) (position_or_len-absent (bytes_eq word) decls.places e)

-- a place that was there stays
pub place_stays : (decls : DeclsState) (word : List ℕ) (n : ℕ) → n < length decls.places → slice_get (with_place decls word).places n ≡ slice_get decls.places n
place_stays decls word n within = by (is_known decls.places word)
  where
    by : (b : Bool) → slice_get (if b then decls.places else decls.places ++ word ∷ []) n ≡ slice_get decls.places n
    by true = refl
    by false = slice_get-push_within decls.places word n within

-- one more place at most
pub place_grows : (decls : DeclsState) (word : List ℕ)
    → (length decls.places ≤ length (with_place decls word).places) × (length (with_place decls word).places ≤ length decls.places + 1)
place_grows decls word = by (is_known decls.places word)
  where
    by : (b : Bool)
        → (length decls.places ≤ length (if b then decls.places else decls.places ++ word ∷ []))
        × (length (if b then decls.places else decls.places ++ word ∷ []) ≤ length decls.places + 1)
    by true = (omega arith, omega arith)
    by false = (omega (arith, length-append decls.places (word ∷ [])), omega (arith, length-append decls.places (word ∷ [])))

-- a place that has a place's form is refused for want of room alone
pub place_has_room : (decls : DeclsState) (word : List ℕ) → is_place word ≡ true → length decls.places < MAX_PLACES → place_fault decls.places word ≡ None
unfolding place_fault
place_has_room decls word form room = by (is_place word) form (is_known decls.places word) (nat_le MAX_PLACES (length decls.places)) (grind (arith, nat_tests))
  where
    by : (a : Bool) → a ≡ true → (b c : Bool) → c ≡ false
        → ◌≡◌ {A = Option DeclFault} (if not a then Some DeclFault.BadName else (if b then None else (if c then Some DeclFault.TooMany else None))) None
    by true e true c f = refl
    by true e false true f = absurd (true≢false f)
    by true e false false f = refl
    by false e b c f = absurd (true≢false (sym e))

-- of a second place, where there is one
second_stays : (decls : DeclsState) (place2 : Option (List ℕ)) (n : ℕ) → n < length decls.places
    → slice_get (with_second decls place2).places n ≡ slice_get decls.places n
second_stays decls None n within = refl
second_stays decls (Some word) n within = place_stays decls word n within

second_is_there : (decls : DeclsState) (place2 : Option (List ℕ))
    → second_text (with_second decls place2).places (option_map (place_number decls.places) place2) ≡ place2
second_is_there decls None = refl
second_is_there decls (Some word) = ap (λ o. Some (unwrap_or o [])) (place_is_there decls word)

second_grows : (decls : DeclsState) (place2 : Option (List ℕ)) → length (with_second decls place2).places ≤ length decls.places + 1
second_grows decls None = omega arith
second_grows decls (Some word) = (place_grows decls word).1

second_fits : (decls : DeclsState) (place2 : Option (List ℕ))
    → second_place_fits (length (with_second decls place2).places) (is_some place2) (option_map (place_number decls.places) place2) ≡ true
second_fits decls None = refl
second_fits decls (Some word) =
    let within = slice_get_within (with_place decls word).places (place_number decls.places word) word (place_is_there decls word) in
    grind (arith, nat_tests, within)

second_well_formed : (decls : DeclsState) (place2 : Option (List ℕ)) → IfSome place2 (λ place. is_place place ≡ true) → length decls.places < MAX_PLACES
    → IsWellFormed decls → IsWellFormed (with_second decls place2)
second_well_formed decls None form room holds = holds
second_well_formed decls (Some word) form room holds = with_place_well_formed decls word holds (place_has_room decls word form room)

second_is_trace : (trace : TraceState) (place2 : Option (List ℕ)) → IsTrace trace
    → IsTrace (record { decls = with_second trace.decls place2; events = trace.events; spare = trace.spare })
second_is_trace trace None holds = holds
second_is_trace trace (Some word) holds = with_place_is_trace trace word (with_place trace.decls word) holds refl

-- of both
pub places_stay : (decls : DeclsState) (o : Occurrence) (n : ℕ) → n < length decls.places → slice_get (with_places decls o).places n ≡ slice_get decls.places n
places_stay decls o n within =
    let grown = (place_grows decls o.place).0 in
    second_stays (with_place decls o.place) o.place2 n (omega (arith, within, grown)) ∙ place_stays decls o.place n within

pub places_grow : (decls : DeclsState) (o : Occurrence) → length (with_places decls o).places ≤ length decls.places + 2
places_grow decls o =
    let first = (place_grows decls o.place).1 in
    let second = second_grows (with_place decls o.place) o.place2 in
    omega (arith, first, second)

first_within : (decls : DeclsState) (o : Occurrence) → place_number decls.places o.place < length (with_place decls o.place).places
first_within decls o = slice_get_within (with_place decls o.place).places (place_number decls.places o.place) o.place (place_is_there decls o.place)

-- the words of the places of the event that is appended
pub words_are_there : (decls : DeclsState) (o : Occurrence)
    → place_words (place_text (with_places decls o).places (event_of decls o).place) (second_text (with_places decls o).places (event_of decls o).place2)
    ≡ place_words o.place o.place2
words_are_there decls o =
    let mid = with_place decls o.place in
    let first = second_stays mid o.place2 (place_number decls.places o.place) (first_within decls o) ∙ place_is_there decls o.place in
    λ i. place_words (unwrap_or (first i) []) (second_is_there mid o.place2 i)

-- what fits of an event
pub record IsFit (decls : DeclsState) (e : Event) : Type 0 where
  pub who : e.who < count_of Kind.Goroutine decls.declarations
  pub op : op_fits decls.declarations e.op ≡ true
  pub place : e.place < length decls.places
  pub second : second_place_fits (length decls.places) (has_two_places (says e.op).0) e.place2 ≡ true
  pub has : has_op decls.version e.op ≡ true
  pub lock : lock_fits decls.declarations e.op ≡ true

pub is_fit : (decls : DeclsState) (e : Event) → fits decls e ≡ true → IsFit decls e
unfolding fits
is_fit decls e h =
    let who = nat_lt e.who (count_of Kind.Goroutine decls.declarations) in
    let op = op_fits decls.declarations e.op in
    let place = nat_lt e.place (length decls.places) in
    let second = second_place_fits (length decls.places) (has_two_places (says e.op).0) e.place2 in
    let a = both (is_in_range decls e) (is_right_kind decls e.op) h in
    let right = both (has_op decls.version e.op) (lock_fits decls.declarations e.op) a.1 in
    let b = both (who && op && place) second a.0 in
    let c = both (who && op) place b.0 in
    let d = both who op c.0 in
    record { who = grind (arith, nat_tests, d.0); op = d.1; place = grind (arith, nat_tests, c.1); second = b.1; has = right.0; lock = right.1 }

-- the words of the places of those before
pub words_stay : (decls : DeclsState) (o : Occurrence) (e : Event) → fits decls e ≡ true
    → place_words (place_text (with_places decls o).places e.place) (second_text (with_places decls o).places e.place2)
    ≡ place_words (place_text decls.places e.place) (second_text decls.places e.place2)
words_stay decls o e fit =
    λ i. place_words (unwrap_or (places_stay decls o e.place (is_fit decls e fit).place i) [])
    (second (has_two_places (says e.op).0) e.place2 (is_fit decls e fit).second i)
  where
    second : (two : Bool) (place2 : Option ℕ) → second_place_fits (length decls.places) two place2 ≡ true
        → second_text (with_places decls o).places place2 ≡ second_text decls.places place2
    second two None fit = refl
    second true (Some n) fit = ap (λ o. Some (unwrap_or o [])) (places_stay decls o n (grind (arith, nat_tests, fit)))
    second false (Some n) fit = absurd (true≢false (sym fit))

-- both keep what holds of the declarations and of a trace
pub places_well_formed : (decls : DeclsState) (o : Occurrence) → is_place o.place ≡ true → IfSome o.place2 (λ place. is_place place ≡ true)
    → length decls.places + 1 < MAX_PLACES
    → IsWellFormed decls → IsWellFormed (with_places decls o)
places_well_formed decls o form form2 room holds =
    let mid = with_place decls o.place in
    let grown = (place_grows decls o.place).1 in
    second_well_formed mid o.place2 form2 (omega (arith, room, grown))
    (with_place_well_formed decls o.place holds (place_has_room decls o.place form (omega (arith, room))))

pub places_are_trace : (trace : TraceState) (o : Occurrence) → IsTrace trace
    → IsTrace (record { decls = with_places trace.decls o; events = trace.events; spare = trace.spare })
places_are_trace trace o holds =
    let mid : TraceState = record { decls = with_place trace.decls o.place; events = trace.events; spare = trace.spare } in
    second_is_trace mid o.place2 (with_place_is_trace trace o.place mid.decls holds refl)

-- what is in range of the places with an event's
pub both_fit : (decls : DeclsState) (o : Occurrence) (two : Bool) → two ≡ is_some o.place2
    → (place_number decls.places o.place < length (with_places decls o).places)
    × (second_place_fits (length (with_places decls o).places) two (event_of decls o).place2 ≡ true)
both_fit decls o two count = (
  slice_get_within (with_places decls o).places (place_number decls.places o.place) o.place
      (second_stays (with_place decls o.place) o.place2 (place_number decls.places o.place) (first_within decls o) ∙ place_is_there decls o.place),
  ap (λ b. second_place_fits (length (with_places decls o).places) b (event_of decls o).place2) count ∙ second_fits (with_place decls o.place) o.place2,
)
