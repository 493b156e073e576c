-- The first faults of the examples: they compute.
use Rattle.std.{proofs.Common.{◌≡◌, [], Some, None, refl}, specs.Fmt.digits}
use Rattle.race_text.specs.{declared.cause.TextCause.TextCause, Words.number, Form.{word_named, word_in}}
use Rattle.race_text.specs.{Lines.{fault_after, first_fault}, Fault.{seen, field_cause, line_cause, cause, text_fault}}
use Rattle.race_text.specs.Examples.{fault_at, fine, no_newline, leading_zero, two_spaces, late_declaration, long_name}
use Rattle.race_text.specs.Examples.{unknown_word, unknown_name, wrong_kind, mutex_for_rwmutex, no_newline_2}
use Rattle.race_text.specs.Examples.{no_version, tries, early_try, early_try_to_read, early_failure}
use Rattle.race_text.specs.Examples.{mutex_tried_for_rwmutex}

pub fine_row : text_fault fine ≡ None
unfolding first_fault fault_after cause line_cause seen word_in word_named field_cause number digits
fine_row = refl

pub empty_row : text_fault [] ≡ Some (fault_at 1 TextCause.BadHeader)
unfolding first_fault fault_after cause line_cause seen word_in word_named field_cause number digits
empty_row = refl

pub no_newline_row : text_fault no_newline ≡ Some (fault_at 1 TextCause.NoNewline)
unfolding first_fault fault_after cause line_cause seen word_in word_named field_cause number digits
no_newline_row = refl

pub leading_zero_row : text_fault leading_zero ≡ Some (fault_at 3 TextCause.BadNumber)
unfolding first_fault fault_after cause line_cause seen word_in word_named field_cause number digits
leading_zero_row = refl

pub two_spaces_row : text_fault two_spaces ≡ Some (fault_at 3 TextCause.WrongCount)
unfolding first_fault fault_after cause line_cause seen word_in word_named field_cause number digits
two_spaces_row = refl

pub long_name_row : text_fault long_name ≡ Some (fault_at 2 TextCause.BadName)
unfolding first_fault fault_after cause line_cause seen word_in word_named field_cause number digits
long_name_row = refl

pub late_declaration_row : text_fault late_declaration ≡ Some (fault_at 4 TextCause.LateDeclaration)
unfolding first_fault fault_after cause line_cause seen word_in word_named field_cause number digits
late_declaration_row = refl

pub unknown_word_row : text_fault unknown_word ≡ Some (fault_at 9 TextCause.UnknownWord)
unfolding first_fault fault_after cause line_cause seen word_in word_named field_cause number digits
unknown_word_row = refl

pub unknown_name_row : text_fault unknown_name ≡ Some (fault_at 4 TextCause.Unknown)
unfolding first_fault fault_after cause line_cause seen word_in word_named field_cause number digits
unknown_name_row = refl

pub wrong_kind_row : text_fault wrong_kind ≡ Some (fault_at 4 TextCause.WrongKind)
unfolding first_fault fault_after cause line_cause seen word_in word_named field_cause number digits
wrong_kind_row = refl

pub mutex_for_rwmutex_row : text_fault mutex_for_rwmutex ≡ Some (fault_at 6 TextCause.WrongKind)
unfolding first_fault fault_after cause line_cause seen word_in word_named field_cause number digits
mutex_for_rwmutex_row = refl

pub no_newline_2_row : text_fault no_newline_2 ≡ Some (fault_at 1 TextCause.NoNewline)
unfolding first_fault fault_after cause line_cause seen word_in word_named field_cause number digits
no_newline_2_row = refl

pub no_version_row : text_fault no_version ≡ Some (fault_at 1 TextCause.BadHeader)
unfolding first_fault fault_after cause line_cause seen word_in word_named field_cause number digits
no_version_row = refl

pub tries_row : text_fault tries ≡ None
unfolding first_fault fault_after cause line_cause seen word_in word_named field_cause number digits
tries_row = refl

pub early_try_row : text_fault early_try ≡ Some (fault_at 3 TextCause.UnknownWord)
unfolding first_fault fault_after cause line_cause seen word_in word_named field_cause number digits
early_try_row = refl

pub early_try_to_read_row : text_fault early_try_to_read ≡ Some (fault_at 3 TextCause.UnknownWord)
unfolding first_fault fault_after cause line_cause seen word_in word_named field_cause number digits
early_try_to_read_row = refl

pub early_failure_row : text_fault early_failure ≡ Some (fault_at 3 TextCause.UnknownWord)
unfolding first_fault fault_after cause line_cause seen word_in word_named field_cause number digits
early_failure_row = refl

pub mutex_tried_for_rwmutex_row : text_fault mutex_tried_for_rwmutex ≡ Some (fault_at 3 TextCause.WrongKind)
unfolding first_fault fault_after cause line_cause seen word_in word_named field_cause number digits
mutex_tried_for_rwmutex_row = refl
