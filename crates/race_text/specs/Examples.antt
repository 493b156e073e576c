-- Small texts, whose first faults are proved in src/examples.rt.
use Rattle.std.specs.Prelude.{ℕ, List, codes}
use Rattle.race_text.specs.declared.cause.{TextCause.TextCause, TextFault.TextFault}

-- a fault by its line and its cause
abbrev pub fault_at : ℕ → TextCause → TextFault
fault_at line cause = record { line = line; cause = cause }

-- a trace: four events, and no fault
abbrev pub fine : List ℕ
fine = codes "gotrace 1\ngoroutine w\nvar x\nwrite main x 7 a.go:1\ngo main w a.go:2\nread w x 7 a.go:5\nexit main a.go:3\n"

-- the header alone, without a newline
abbrev pub no_newline : List ℕ
no_newline = codes "gotrace 1"

-- the second header alone, without a newline
abbrev pub no_newline_2 : List ℕ
no_newline_2 = codes "gotrace 2"

-- a header of no version
abbrev pub no_version : List ℕ
no_version = codes "gotrace 3\n"

-- a value with a leading zero
abbrev pub leading_zero : List ℕ
leading_zero = codes "gotrace 1\nvar x\nwrite main x 01 p\n"

-- two spaces, so an empty word
abbrev pub two_spaces : List ℕ
two_spaces = codes "gotrace 1\nvar x\nwrite main  x 1 p\n"

-- a declaration behind an event
abbrev pub late_declaration : List ℕ
late_declaration = codes "gotrace 1\nvar x\nwrite main x 1 p\nvar y\n"

-- a name of 65 letters
abbrev pub long_name : List ℕ
long_name = codes "gotrace 1\nvar aaaaaaaaaaaaaaaaaaaaaaaaaaaaaaaaaaaaaaaaaaaaaaaaaaaaaaaaaaaaaaaaa\n"

-- a word that begins no line, behind events of which the first isn't legal
abbrev pub unknown_word : List ℕ
unknown_word = codes "gotrace 1\ngoroutine w\nvar x\nvar y\nread main x 1 p\ngo main w p\nexit w p\nwrite main y 1 p\njump main p\n"

-- a variable that nothing declares
abbrev pub unknown_name : List ℕ
unknown_name = codes "gotrace 1\ngoroutine a\nvar x\nread a y 0 p\n"

-- names in each other's place
abbrev pub wrong_kind : List ℕ
wrong_kind = codes "gotrace 1\ngoroutine a\nvar x\nread x a 0 p\n"

-- a mutex where an rwmutex is wanted
abbrev pub mutex_for_rwmutex : List ℕ
mutex_for_rwmutex = codes "gotrace 1\ngoroutine a\nmutex m\nrwmutex l\nonce o\nrlock main m p\n"

-- tries, under the header of version 2
abbrev pub tries : List ℕ
tries = codes "gotrace 2\nmutex m\nrwmutex l\ntrylock main m p\ntryfail main m q\ntryrlock main l r\n"

-- a try to lock, under that of version 1
abbrev pub early_try : List ℕ
early_try = codes "gotrace 1\nmutex m\ntrylock main m p\n"

-- a try to lock for reading
abbrev pub early_try_to_read : List ℕ
early_try_to_read = codes "gotrace 1\nrwmutex l\ntryrlock main l p\n"

-- a failed try
abbrev pub early_failure : List ℕ
early_failure = codes "gotrace 1\nmutex m\ntryfail main m p\n"

-- a try to lock a mutex for reading
abbrev pub mutex_tried_for_rwmutex : List ℕ
mutex_tried_for_rwmutex = codes "gotrace 2\nmutex m\ntryrlock main m p\n"
