-- A run is skipped by its first events: each that begins with these is.
use Rattle.std.proofs.Common.{ℕ, ◌≡◌, ◌<◌, ◌≤◌, ◌+◌, ◌++◌, List, [], ◌∷◌, length, take, Some, refl, sym, ap, ◌∙◌, arith, subst}
use Rattle.std.proofs.Common.{append_assoc, length-append}
use Rattle.std.proofs.lemmas.{List.{append-nil, take-append-le, take_all}, Option.slice_get_within}
use Rattle.std.specs.Prelude.{slice_get}
use Rattle.race_records.specs.declared.event.Event.{Event}
use Rattle.race_model.specs.Events.{At}
use Rattle.race_model.proofs.Indexes.{append_at_old, slice_get-append}
use Rattle.race_hub.specs.Hub.{HubState}
use Rattle.race_record.specs.{declared.noting.Fork.Fork, Serial.TakesTurn}
use Rattle.race_script.specs.Run.{ScriptState, Asks}
use Rattle.race_exchange.specs.Exchange.{IsInOrder, IsFirstTurned}
use Rattle.race_explore.specs.{declared.orders.Orders.Orders, Orders.IsSkipped, Ways.{Way, here, turned, fired, choice_count, IsNumbered}}

-- a turn adds no event, and a choice one
turn_events : (old new : HubState ScriptState) → TakesTurn Asks old new → new.events ≡ old.events
turn_events old new t = t.submits.same.1 ∙ t.takes.same.1

pub way_events : {a b : HubState ScriptState} {forks : List Fork} → Way (TakesTurn Asks) IsNumbered choice_count a forks b
    → (more : List Event) × (b.events ≡ a.events ++ more) × (length more ≡ length forks)
way_events {a = a} here = ([], sym (append-nil a.events), refl)
way_events {a = a} (turned {b = b} turn way) =
    let (more, is, count) = way_events way in
    (more, is ∙ ap (λ l. l ++ more) (turn_events a b turn), count)
way_events {a = a} (fired pick fire way) =
    let (more, is, count) = way_events way in
    let e = fire.1.1.fires.e in
    (e ∷ more, is ∙ ap (λ l. l ++ more) fire.1.1.fires.events ∙ append_assoc a.events (e ∷ []) more, omega (arith, count))

-- which two stand turned first depends on the events before the next alone
front_alike : (front more other : List Event) (n : ℕ) → length front ≡ n → take n (front ++ more) ≡ take n (front ++ other)
front_alike front more other n is = take-append-le n front more (omega (arith, is)) ∙ sym (take-append-le n front other (omega (arith, is)))

at_front : (front more other : List Event) (i : ℕ) (e : Event) → i < length front → At (front ++ more) i e → At (front ++ other) i e
at_front front more other i e within at =
    slice_get-append front other i within ∙ sym (slice_get-append front more i within) ∙ at

turned_front : (front more other : List Event) (n : ℕ) → length front ≡ n → 0 < length other → IsFirstTurned (front ++ more) n → IsFirstTurned (front ++ other) n
turned_front front more other n is some stands =
    let last = stands.last_two in
    record {
      before = stands.before;
      a = stands.a;
      b = stands.b;
      last_two = last;
      at_a = at_front front more other stands.before stands.a (omega (arith, is, last)) stands.at_a;
      at_b = at_front front more other (stands.before + 1) stands.b (omega (arith, is, last)) stands.at_b;
      turned = stands.turned;
      more = let longer = length-append front other in omega (arith, is, some, longer);
      first = subst IsInOrder (front_alike front more other n is) stands.first;
    }

-- so it is of a run that comes through the same state
pub skipped_front : (orders : Orders) (front more other : List Event) (n : ℕ) → length front ≡ n → 0 < length other → IsSkipped orders (front ++ more) n
    → IsSkipped orders (front ++ other) n
skipped_front Orders.All front more other n is some skipped = skipped
skipped_front Orders.One front more other n is some skipped = turned_front front more other n is some skipped

-- there are more events than by which it is skipped
pub skipped_within : (orders : Orders) (events : List Event) (n : ℕ) → IsSkipped orders events n → n < length events
skipped_within Orders.All events n skipped = absurd skipped
skipped_within Orders.One events n skipped = skipped.more
