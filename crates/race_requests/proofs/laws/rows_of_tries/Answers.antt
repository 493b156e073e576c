-- Each list of choices, each event and each row is computed.
use Rattle.std.proofs.Common.{refl}
use Rattle.race_requests.proofs.laws.rows_of_tries.Goals as goal

pub returns : goal.returns
returns c = record {
  free = record { both = refl; taken_event = refl; taken_row = refl; missed_event = refl; missed_row = refl };
  held = record { only = refl; event = refl; row = refl };
  read_held = record { only = refl; event = refl; row = refl };
  taken = record { only = refl; event = refl; row = refl };
  taken_for_reading = record { only = refl; event = refl; row = refl };
  missed = record { both = refl; taken_event = refl; taken_row = refl; missed_event = refl; missed_row = refl };
  unlocked = record { both = refl; taken_event = refl; taken_row = refl; missed_event = refl; missed_row = refl };
  reader = record { both = refl; taken_event = refl; taken_row = refl; missed_event = refl; missed_row = refl };
  second_reader = record { both = refl; taken_event = refl; taken_row = refl; missed_event = refl; missed_row = refl };
  reader_fails = record { only = refl; event = refl; row = refl };
  reader_taken = record { only = refl; event = refl; row = refl };
  reader_taken_for_reading = record { both = refl; taken_event = refl; taken_row = refl; missed_event = refl; missed_row = refl };
  reader_missed = record { both = refl; taken_event = refl; taken_row = refl; missed_event = refl; missed_row = refl };
  reader_unlocked = record { both = refl; taken_event = refl; taken_row = refl; missed_event = refl; missed_row = refl };
  runlocked = record { both = refl; taken_event = refl; taken_row = refl; missed_event = refl; missed_row = refl };
  lock_waits = refl;
  lock_waits_for_reader = refl;
  reader_waits = refl;
  reader_joins = record { only = refl; event = refl; row = refl };
  unlock = record { only = refl; event = refl; row = refl };
  unlock_missed = record { only = refl; event = refl; row = refl };
  unlock_of_reader = record { only = refl; event = refl; row = refl };
  runlock = record { only = refl; event = refl; row = refl };
  runlock_missed = record { only = refl; event = refl; row = refl };
  runlock_of_writer = record { only = refl; event = refl; row = refl };
  not_behind = λ told row. absurd cc;
  not_first = λ told row. absurd cc;
  not_for_reading = λ k told row. absurd cc;
  not_plain = λ k told row. absurd cc;
  reader_not_behind = λ told row. absurd cc;
  reader_not_first = λ told row. absurd cc;
  reader_not_for_writing = λ k told row. absurd cc;
  reader_not_plain = λ k told row. absurd cc;
}
