-- What keeps a trace a trace.
use Rattle.std.proofs.Common.{◌≡◌, ℕ, ◌<◌, ◌≤◌, ◌&&◌, Bool, true, false, not, nat_le, List, [], ◌∷◌, ◌++◌, length}
use Rattle.std.proofs.Common.{Option, Some, None, IsTrue, IfSome, if◌then◌else◌, refl, sym, subst, get_or, arith, All}
use Rattle.std.proofs.lemmas.{Bool.Decides.nat_tests, List.{length-append, Elements.All-push}, Option.none-some}
use Rattle.race_records.specs.declared.{event.Event.Event, trace.PushFault.PushFault}
use Rattle.race_records.specs.declared.trace.PushFault.TheVariants.{BadNumber, WrongKind, Full}
use Rattle.race_records.specs.declared.{trace.TheConstants.MAX_EVENTS, version.Version.Version}
use Rattle.race_records.specs.{Declarations.{Declaration, DeclsState, is_known, with_place}, Events.TraceState}
use Rattle.race_records.specs.Events.{IsTrace, is_in_range, is_right_kind, fits, op_is_limited, push_fault}

-- what no fault means for an event
pub record IsAllowedEvent (trace : TraceState) (e : Event) : Type 0 where
  pub fit : IsTrue (fits trace.decls e)
  pub room : length trace.events < MAX_EVENTS

pub allowed_from_no_push_fault : (trace : TraceState) (e : Event) → push_fault trace e ≡ None → IsAllowedEvent trace e
unfolding push_fault fits
allowed_from_no_push_fault trace e h =
    by (is_in_range trace.decls e) refl (is_right_kind trace.decls e.op) refl (nat_le MAX_EVENTS (length trace.events)) refl h
  where
    by : (b : Bool) → is_in_range trace.decls e ≡ b → (suits : Bool) → is_right_kind trace.decls e.op ≡ suits
        → (full : Bool) → nat_le MAX_EVENTS (length trace.events) ≡ full
        → ◌≡◌ {A = Option PushFault} (if not b then Some BadNumber else (if not suits then Some WrongKind else (if full then Some Full else None))) None
        → IsAllowedEvent trace e
    by false _ _ _ _ _ h = absurd (none-some _ (sym h))
    by true _ false _ _ _ h = absurd (none-some _ (sym h))
    by true _ true _ true _ h = absurd (none-some _ (sym h))
    by true ranged true suits false room h = record { fit = λ i. ranged i && suits i; room = grind (arith, nat_tests) }

-- one more event that fits
pub push_is_trace : (trace : TraceState) (e : Event) (events : List Event) (spare : ℕ) → IsTrace trace → IsTrue (op_is_limited e.op) → push_fault trace e ≡ None
    → events ≡ trace.events ++ e ∷ []
    → IsTrace (record { decls = trace.decls; events = events; spare = spare })
push_is_trace trace e events spare holds value none is =
    let allowed = allowed_from_no_push_fault trace e none in
    let room = allowed.room in
    record {
      fit = subst (λ (es : List Event). All (λ (x : Event). IsTrue (fits trace.decls x)) es) (sym is)
          (All-push (λ (x : Event). IsTrue (fits trace.decls x)) trace.events e holds.fit allowed.fit);
      values = subst (λ (es : List Event). All (λ (x : Event). IsTrue (op_is_limited x.op)) es) (sym is)
          (All-push (λ (x : Event). IsTrue (op_is_limited x.op)) trace.events e holds.values value);
      limited = subst (λ (es : List Event). length es ≤ MAX_EVENTS) (sym is) (omega (arith, room, length-append trace.events (e ∷ [])));
    }

-- with more places, an event that fitted still fits
fits-more_places : (version : Version) (ds : List Declaration) (places more : List (List ℕ)) (e : Event) → length places ≤ length more
    → fits (record { version = version; declarations = ds; places = places }) e ≡ true
    → fits (record { version = version; declarations = ds; places = more }) e ≡ true
unfolding fits
fits-more_places version ds places more e grown h = grind (arith, nat_tests)

-- a second place of an event that fits is in range
pub place_in_range : (decls : DeclsState) (e : Event) → IsTrue (fits decls e) → e.place < length decls.places
unfolding fits
place_in_range decls e h = grind (arith, nat_tests)

pub second_in_range : (decls : DeclsState) (e : Event) → IsTrue (fits decls e) → IfSome e.place2 (λ place. place < length decls.places)
unfolding fits
second_in_range decls e h = grind (arith, nat_tests)

pub with_place_is_trace : (trace : TraceState) (word : List ℕ) (decls : DeclsState) → IsTrace trace → decls ≡ with_place trace.decls word
    → IsTrace (record { decls = decls; events = trace.events; spare = trace.spare })
with_place_is_trace trace word decls holds is = record {
  fit = λ k d within. subst (λ (x : DeclsState). IsTrue (fits x (get_or trace.events k d))) (sym is) (fits-more_places
      trace.decls.version trace.decls.declarations trace.decls.places _ (get_or trace.events k d) (grown (is_known trace.decls.places word)) (holds.fit k d within));
  values = holds.values;
  limited = holds.limited;
}
  where
    grown : (b : Bool) → length trace.decls.places ≤ length (if b then trace.decls.places else trace.decls.places ++ word ∷ [])
    grown true = omega arith
    grown false = omega (arith, length-append trace.decls.places (word ∷ []))
