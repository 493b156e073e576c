-- Stamps of accesses.
use Rattle.std.specs.Prelude.{ℕ, ◌+◌, true, false, List, Option, Some, None, length}
use Rattle.race_records.specs.declared.event.{Event.Event, Op.{Op, TheVariants.{Read, Write}}}
use Rattle.race_model.specs.Clocks.{participations}
use Rattle.race_clock.specs.declared.stamp.Stamp.{Stamp}

-- the stamp of an operation, where it is an access, with these numbers
abbrev pub stamp_with : ℕ → ℕ → ℕ → Op → Option Stamp
stamp_with at who count (Read x v) = Some (record { at = at; who = who; count = count; var = x; write = false })
stamp_with at who count (Write x v) = Some (record { at = at; who = who; count = count; var = x; write = true })
stamp_with at who count _ = None

-- the stamp of e, coming behind the events past: its index, and how many events its goroutine took part in, e included
abbrev pub stamp_of : List Event → Event → Option Stamp
stamp_of past e = stamp_with (length past) e.who (participations e.who past + 1) e.op
