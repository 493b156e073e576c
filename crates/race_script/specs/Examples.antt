-- Small texts of programs, whose first faults are proved in src/examples.rt.
use Rattle.std.specs.Prelude.{ℕ, List, codes}
use Rattle.race_text.specs.declared.cause.{TextCause.TextCause, TextFault.TextFault}

-- a fault by its line and its cause
abbrev pub fault_at : ℕ → TextCause → TextFault
fault_at line cause = record { line = line; cause = cause }

-- a program of version 1
abbrev pub locks : List ℕ
locks = codes "goprogram 1\nmutex m\nbody main\nlock m a:1\nunlock m a:2\nexit a:3\n"

-- the same under the header of version 2
abbrev pub locks_2 : List ℕ
locks_2 = codes "goprogram 2\nmutex m\nbody main\nlock m a:1\nunlock m a:2\nexit a:3\n"

-- tries, under the header of version 2
abbrev pub tries : List ℕ
tries = codes "goprogram 2\nmutex m\nrwmutex l\nbody main\ntrylock m a:1\ntryrlock l a:2\nexit a:3\n"

-- a try to lock, under that of version 1
abbrev pub early_try : List ℕ
early_try = codes "goprogram 1\nmutex m\nbody main\ntrylock m a:1\nexit a:2\n"

-- a try to lock for reading
abbrev pub early_try_to_read : List ℕ
early_try_to_read = codes "goprogram 1\nrwmutex l\nbody main\ntryrlock l a:1\nexit a:2\n"

-- a try to lock a mutex for reading
abbrev pub mutex_tried_for_rwmutex : List ℕ
mutex_tried_for_rwmutex = codes "goprogram 2\nmutex m\nbody main\ntryrlock m a:1\nexit a:2\n"

-- a failed try, which no goroutine asks for
abbrev pub asked_failure : List ℕ
asked_failure = codes "goprogram 2\nmutex m\nbody main\ntryfail m a:1\nexit a:2\n"

-- the second header alone, without a newline
abbrev pub no_newline_2 : List ℕ
no_newline_2 = codes "goprogram 2"

-- the second header alone
abbrev pub nothing_2 : List ℕ
nothing_2 = codes "goprogram 2\n"

-- a header of no version
abbrev pub no_version : List ℕ
no_version = codes "goprogram 3\n"
