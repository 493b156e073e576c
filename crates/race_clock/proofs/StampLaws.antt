-- The laws of race_model's stamps are those of this crate's.
use Rattle.std.proofs.Common.{◌≡◌, ℕ, ◌+◌, ◌<◌, true, false, List, [], ◌∷◌, ◌++◌, Some, take, length, refl, sym, ap}
use Rattle.std.proofs.{Common.{◌∙◌, subst, arith, IsTrue}, lemmas.{List.length-take-le, Option.slice_get_within}}
use Rattle.race_records.specs.declared.event.{Event.Event, Op.{Op, TheVariants.{Read, Write}}}
use Rattle.race_model.specs.{Events.{At, is_access}, Order.{Begin, Reaches}, Clocks.{participations, CountsBegins}}
use Rattle.race_model.proofs.StampsLawful.{IsStamped, front_one, known_is_before, known_own, known_not_back, known_on}
use Rattle.race_clock.specs.{declared.stamp.Stamp.Stamp, ClockState.knows, Stamps.stamp_with, Laws.IsStampIn}
use Rattle.race_clock.specs.Laws.{KnownIsHappensBefore, IndexesRise, StampsAreLawful}

-- what the stamp of an operation says
pub record Says (at who count : ℕ) (o : Op) (stamp : Stamp) : Type 0 where
  pub access : IsTrue (is_access o)
  pub index : stamp.at ≡ at
  pub actor : stamp.who ≡ who
  pub number : stamp.count ≡ count

pub says : (at who count : ℕ) (o : Op) (stamp : Stamp) → stamp_with at who count o ≡ Some stamp → Says at who count o stamp
says at who count (Read x v) stamp is = let same : record { at = at; who = who; count = count; var = x; write = false } ≡ stamp = cc in record {
  access = refl;
  index = sym (ap (λ (s : Stamp). s.at) same);
  actor = sym (ap (λ (s : Stamp). s.who) same);
  number = sym (ap (λ (s : Stamp). s.count) same);
}
says at who count (Write x v) stamp is = let same : record { at = at; who = who; count = count; var = x; write = true } ≡ stamp = cc in record {
  access = refl;
  index = sym (ap (λ (s : Stamp). s.at) same);
  actor = sym (ap (λ (s : Stamp). s.who) same);
  number = sym (ap (λ (s : Stamp). s.count) same);
}
says at who count _ stamp is = cc

-- a front ends before its event
long : (events : List Event) (i : ℕ) (e : Event) → At events i e → length (take i events) ≡ i
long events i e at = length-take-le i events (let less : i < length events = slice_get_within events i e at in omega arith)

module _ (caps : ℕ → ℕ) (events : List Event) where
  -- a stamp of this crate is one of race_model
  pub stamped : (s : Stamp) (c : List ℕ) → IsStampIn caps events s c → IsStamped caps events s.at s.who s.count (knows c)
  stamped s c k = record {
    event = k.event;
    stands = k.stands;
    access = said.access;
    actor = sym said.actor;
    number = said.number ∙ ap (λ g. participations g (take s.at events) + 1) (sym said.actor);
    clock =
        subst (λ es. CountsBegins es (knows c) (λ i h. Reaches caps es (Begin i h) (Begin s.at s.who))) (sym (front_one caps events s.at k.event k.stands))
        (subst (λ n. CountsBegins (take s.at events ++ k.event ∷ []) (knows c)
        (λ i h. Reaches caps (take s.at events ++ k.event ∷ []) (Begin i h) (Begin n s.who)))
        (long events s.at k.event k.stands) k.reaching);
  }
    where
      said : Says (length (take s.at events)) k.event.who (participations k.event.who (take s.at events) + 1) k.event.op s
      said = says (length (take s.at events)) k.event.who (participations k.event.who (take s.at events) + 1) k.event.op s k.is

pub known_is_happens_before : (events : List Event) → KnownIsHappensBefore events
known_is_happens_before events caps a b c d A B =
    known_is_before caps events a.at a.who a.count (knows c) (stamped caps events a c A) b.at b.who b.count (knows d) (stamped caps events b d B)

indexes_rise : (events : List Event) → IndexesRise events
indexes_rise events i j e f a b ate atf less is_a is_b =
    let at_a : a.at ≡ length (take i events) = (says (length (take i events)) e.who (participations e.who (take i events) + 1) e.op a is_a).index in
    let at_b : b.at ≡ length (take j events) = (says (length (take j events)) f.who (participations f.who (take j events) + 1) f.op b is_b).index in
    omega (arith, at_a, at_b, long events i e ate, long events j f atf, less)

pub stamps_are_lawful : (events : List Event) → StampsAreLawful events
stamps_are_lawful events = record {
  rising = indexes_rise events;
  own = λ caps a b c d A B same less.
      known_own caps events a.at a.who a.count (knows c) (stamped caps events a c A) b.at b.who b.count (knows d) (stamped caps events b d B) same less;
  onward = λ caps a b c d A B less known.
      known_not_back caps events a.at a.who a.count (knows c) (stamped caps events a c A) b.at b.who b.count (knows d) (stamped caps events b d B) less known;
  transitive = λ caps a b s c d t A B S first second.
      known_on caps events a.at a.who a.count (knows c) (stamped caps events a c A)
      b.at b.who b.count (knows d) (stamped caps events b d B) s.at s.who s.count (knows t)
      (stamped caps events s t S) first second;
}
