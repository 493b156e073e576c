-- What is noted of touches is noted of the events.
use Rattle.std.proofs.Common.{◌≡◌, ℕ, ◌+◌, true, false, List, length, take, Option, Some, None, refl, sym, ap, subst}
use Rattle.race_records.specs.declared.event.{Event.Event, Op.{Op, TheVariants.{Read, Write}}}
use Rattle.race_model.specs.{Events.is_access, Clocks.participations}
use Rattle.race_clock.{specs.{declared.stamp.Stamp.Stamp, Stamps.stamp_with, Laws.IsStampIn}, proofs.StampLaws.says}
use Rattle.race_verdict.specs.{declared.report.ReportedAccess.ReportedAccess, Accesses.is_write, Notes.IsNoteOf}
use Rattle.race_access.specs.{Touches.{Touch, noted_of, IsNotedIn, AreNotedIn}, StampsOf.AreStampsOf}

-- whether an operation with a stamp writes
write_said : (at who count : ℕ) (o : Op) (stamp : Stamp) → stamp_with at who count o ≡ Some stamp → is_write o ≡ stamp.write
write_said at who count (Read y v) stamp is =
    let same : record { at = at; who = who; count = count; var = y; write = false } ≡ stamp = cc in ap (λ (s : Stamp). s.write) same
write_said at who count (Write y v) stamp is =
    let same : record { at = at; who = who; count = count; var = y; write = true } ≡ stamp = cc in ap (λ (s : Stamp). s.write) same
write_said at who count _ stamp is = cc

-- one without a stamp is no access
pub no_access : (at who count : ℕ) (o : Op) → stamp_with at who count o ≡ None → is_access o ≡ false
no_access at who count (Read y v) none = cc
no_access at who count (Write y v) none = cc
no_access at who count _ none = refl

module _ (caps : ℕ → ℕ) (events : List Event) (x : ℕ) (touched : List Touch) (stamps : AreStampsOf caps events x touched) where
  note_is : (n : ReportedAccess) → IsNotedIn touched n → IsNoteOf events n
  note_is n (a, ina, is) = subst (IsNoteOf events) is (go (stamps.each a ina).0)
    where
      go : IsStampIn caps events a.stamp a.clock → IsNoteOf events (noted_of a)
      go s =
          let said = says (length (take a.stamp.at events)) s.event.who (participations s.event.who (take a.stamp.at events) + 1) s.event.op a.stamp s.is in
          record {
            event = s.event;
            stands = s.stands;
            access = said.access;
            write = write_said (length (take a.stamp.at events)) s.event.who (participations s.event.who (take a.stamp.at events) + 1) s.event.op a.stamp s.is;
            who = sym said.actor;
            place = stamps.places a ina s.event s.stands;
          }

  -- so are both of two
  pub notes_are : (noted : Option (ReportedAccess × ReportedAccess)) → AreNotedIn touched noted → (m n : ReportedAccess) → noted ≡ Some (m, n)
      → IsNoteOf events m × IsNoteOf events n
  notes_are None are m n is = cc
  notes_are (Some (a, b)) are m n is =
      let pair : ◌≡◌ {A = ReportedAccess × ReportedAccess} (a, b) (m, n) = cc in
      let first = subst (IsNoteOf events) (ap (λ (p : ReportedAccess × ReportedAccess). p.0) pair) (note_is a are.0) in
      let second = subst (IsNoteOf events) (ap (λ (p : ReportedAccess × ReportedAccess). p.1) pair) (note_is b are.1) in
      (first, second)
