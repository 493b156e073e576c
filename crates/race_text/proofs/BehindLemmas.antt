-- What is appended to a trace is appended behind the events before it, too.
use Rattle.std.proofs.Common.{◌≡◌, ℕ, zero, suc, ◌+◌, ◌*◌, ◌<◌, ◌≤◌, Bool, true, false, List, ◌∷◌, [], ◌++◌, length}
use Rattle.std.proofs.Common.{Result, Ok, Err, MatchResult, refl, sym, ap, ◌∙◌, arith, true≢false, append_assoc}
use Rattle.std.proofs.lemmas.List.{length-append}
use Rattle.std.specs.Prelude.{slice_get, OnOk}
use Rattle.std.proofs.Common.{Option, Some, None, if◌then◌else◌, subst}
use Rattle.std.proofs.lemmas.Option.{slice_get_within}
use Rattle.race_records.proofs.ListLemmas.{slice_get-push_within}
use Rattle.race_records.specs.Declarations.{DeclsState, is_known, with_place}
use Rattle.race_records.specs.{declared.event.Event.Event, Events.TraceState}
use Rattle.race_text.specs.{declared.cause.TextCause.TextCause, Reading.Occurrence, Taking.{IsRead, IsReadBehind}}
use Rattle.race_text.specs.{Taking.{behind, event_of, AppendsEvent, KeepsPlaces, TellsOfRoom, TakesOrTells, second_places}, Text.lines}
use Rattle.race_text.proofs.{EventLines.IsEventLine, TraceLemmas.event_answered}

-- how many events there are with those before
pub count_behind : (before : ℕ) (past : List Event) (t : TraceState) → length past ≡ before → length (behind past t).events ≡ before + length t.events
count_behind before past t count = omega (arith, count, length-append past t.events)

module _ (before : ℕ) (past : List Event) (old new : TraceState) (o : Occurrence) (count : length past ≡ before) where
  appends_behind : AppendsEvent before old new o → AppendsEvent 0 (behind past old) (behind past new) o
  appends_behind added = record {
    room = let room = added.room in omega (arith, room, count_behind before past old count);
    decls = added.decls;
    events = ap (λ es. past ++ es) added.events ∙ sym (append_assoc past old.events (event_of old.decls o ∷ []));
  }

  tells_behind : (told : TextCause) → TellsOfRoom before old told → TellsOfRoom 0 (behind past old) told
  tells_behind told tells = record {
    full = λ full. tells.full (omega (arith, full, count_behind before past old count));
    room = λ room. tells.room (omega (arith, room, count_behind before past old count));
  }

  pub answered_behind : (r : Result (Unit {0}) TextCause) → MatchResult r (λ _. AppendsEvent before old new o) (TellsOfRoom before old)
      → MatchResult r (λ _. AppendsEvent 0 (behind past old) (behind past new) o) (TellsOfRoom 0 (behind past old))
  answered_behind (Ok u) added = appends_behind added
  answered_behind (Err told) tells = tells_behind told tells

-- an event that was appended behind others, or refused
pub event_answered_behind : (before : ℕ) (past : List Event) (old new : TraceState) (line : List ℕ) (o : Occurrence) → length past ≡ before
    → IsRead (behind past old) → IsEventLine old.decls line o
    → (r : Result (Unit {0}) TextCause) → MatchResult r (λ _. AppendsEvent before old new o) (TellsOfRoom before old)
    → TakesOrTells (lines (behind past old)) line r (behind past new)
event_answered_behind before past old new line o count read is r answered =
    event_answered (behind past old) (behind past new) line o read is r (answered_behind before past old new o count r answered)

-- what fails only where nothing stands before holds where something does
pub some_before : (n : ℕ) (b : Bool) → (n ≡ 0 → b ≡ false) → b ≡ true → 0 < n
some_before zero b ready h = absurd (true≢false (sym h ∙ ready refl))
some_before (suc n) b ready h = omega arith

-- there are no more events than a trace can have, and few places
pub record AreFew (before : ℕ) (t : TraceState) : Type 0 where
  pub limited : before + length t.events ≤ 16777216
  pub places : length t.decls.places ≤ 2 * (before + length t.events)

pub few_behind : (before : ℕ) (t : TraceState) → IsReadBehind before t → AreFew before t
few_behind before t read =
    let all = count_behind before read.past t read.count in
    let limited = read.is_read.has_text.is_trace.limited in
    let places = read.is_read.few_places in
    record { limited = omega (arith, all, limited); places = omega (arith, all, places) }

-- places keep their numbers as an event is appended
keeps_place : (decls : DeclsState) (word : List ℕ) → KeepsPlaces decls.places (with_place decls word).places
keeps_place decls word n place at = by (is_known decls.places word)
  where
    by : (known : Bool) → slice_get (if known then decls.places else decls.places ++ word ∷ []) n ≡ Some place
    by true = at
    by false = slice_get-push_within decls.places word n (slice_get_within decls.places n place at) ∙ at

keeps_second : (decls : DeclsState) (second : Option (List ℕ)) → KeepsPlaces decls.places (second_places decls second)
keeps_second decls None n place at = at
keeps_second decls (Some word) n place at = keeps_place decls word n place at

pub keeps_places : (before : ℕ) (old new : TraceState) (o : Occurrence) (r : Result (Unit {0}) TextCause)
    → MatchResult r (λ _. AppendsEvent before old new o) (TellsOfRoom before old) → OnOk r (KeepsPlaces old.decls.places new.decls.places)
keeps_places before old new o (Err told) tells = tt
keeps_places before old new o (Ok u) added = λ n place at.
    subst (λ (d : DeclsState). slice_get d.places n ≡ Some place) (sym added.decls)
    (keeps_second (with_place old.decls o.place) o.place2 n place (keeps_place old.decls o.place n place at))
