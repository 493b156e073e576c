-- The first faults of the examples: they compute.
use Rattle.std.{proofs.Common.{◌≡◌, Some, None, refl}, specs.Fmt.digits}
use Rattle.race_text.specs.{declared.cause.TextCause.TextCause, Fault.field_cause, Form.word_named}
use Rattle.race_text.specs.{Lines.{fault_after, first_fault}, Words.number}
use Rattle.race_script.specs.Examples.{fault_at, locks, locks_2, tries, early_try, early_try_to_read}
use Rattle.race_script.specs.Examples.{mutex_tried_for_rwmutex, asked_failure, no_newline_2, nothing_2, no_version}
use Rattle.race_script.specs.{Fault.{line_cause, cause, end_cause, text_fault}, Form.line_word, Reading.seen}

pub locks_row : text_fault locks ≡ None
unfolding first_fault fault_after cause end_cause line_cause seen line_word word_named field_cause number digits
locks_row = refl

pub locks_2_row : text_fault locks_2 ≡ None
unfolding first_fault fault_after cause end_cause line_cause seen line_word word_named field_cause number digits
locks_2_row = refl

pub no_newline_2_row : text_fault no_newline_2 ≡ Some (fault_at 1 TextCause.NoNewline)
unfolding first_fault fault_after cause end_cause line_cause seen line_word word_named field_cause number digits
no_newline_2_row = refl

pub nothing_2_row : text_fault nothing_2 ≡ Some (fault_at 2 TextCause.BadBlock)
unfolding first_fault fault_after cause end_cause line_cause seen line_word word_named field_cause number digits
nothing_2_row = refl

pub no_version_row : text_fault no_version ≡ Some (fault_at 1 TextCause.BadHeader)
unfolding first_fault fault_after cause end_cause line_cause seen line_word word_named field_cause number digits
no_version_row = refl

pub tries_row : text_fault tries ≡ None
unfolding first_fault fault_after cause end_cause line_cause seen line_word word_named field_cause number digits
tries_row = refl

pub early_try_row : text_fault early_try ≡ Some (fault_at 4 TextCause.UnknownWord)
unfolding first_fault fault_after cause end_cause line_cause seen line_word word_named field_cause number digits
early_try_row = refl

pub early_try_to_read_row : text_fault early_try_to_read ≡ Some (fault_at 4 TextCause.UnknownWord)
unfolding first_fault fault_after cause end_cause line_cause seen line_word word_named field_cause number digits
early_try_to_read_row = refl

pub mutex_tried_for_rwmutex_row : text_fault mutex_tried_for_rwmutex ≡ Some (fault_at 4 TextCause.WrongKind)
unfolding first_fault fault_after cause end_cause line_cause seen line_word word_named field_cause number digits
mutex_tried_for_rwmutex_row = refl

pub asked_failure_row : text_fault asked_failure ≡ Some (fault_at 4 TextCause.UnknownWord)
unfolding first_fault fault_after cause end_cause line_cause seen line_word word_named field_cause number digits
asked_failure_row = refl
