-- Small lists of events on onces, whose verdicts are proved in src/once_examples.rt. (The Go Memory Model, "Once"; package sync, Once)
use Rattle.std.specs.Prelude.{ℕ, List, [], ◌∷◌}
use Rattle.race_records.specs.declared.event.Event.{Event}
use Rattle.race_records.specs.declared.event.Op.TheVariants.{Go, Exit, Read, Write, OnceBegin, OnceEnd, OnceDone}
use Rattle.race_model.specs.Examples.{main, w, v, x, does}

-- two onces
abbrev pub o : ℕ
o = 0

abbrev pub p : ℕ
p = 1

-- Small lists to come before an event.

abbrev pub begun : List Event
begun = does main (Go w) ∷ does main (OnceBegin o) ∷ []

abbrev pub ended : List Event
ended = does main (Go w) ∷ does main (OnceBegin o) ∷ does main (OnceEnd o) ∷ []

-- the function of o calls Do of p, whose function it runs
abbrev pub nested : List Event
nested = does main (Go w) ∷ does main (OnceBegin o) ∷ does main (OnceBegin p) ∷ []

abbrev pub inner_ended : List Event
inner_ended = does main (Go w) ∷ does main (OnceBegin o) ∷ does main (OnceBegin p) ∷ does main (OnceEnd p) ∷ []

-- main is in the function of o, and w in that of p
abbrev pub side_by_side : List Event
side_by_side = does main (Go w) ∷ does main (OnceBegin o) ∷ does w (OnceBegin p) ∷ []

abbrev pub found_done : List Event
found_done = does main (Go w) ∷ does main (OnceBegin o) ∷ does main (OnceEnd o) ∷ does w (OnceDone o) ∷ []

-- w is in the function
abbrev pub begun_by_w : List Event
begun_by_w = does main (Go w) ∷ does w (OnceBegin o) ∷ []

-- and main has exited
abbrev pub left_begun : List Event
left_begun = does main (Go w) ∷ does w (OnceBegin o) ∷ does main Exit ∷ []

-- OnceEnd and OnceDone.

-- w writes in the function; two others find it done, then read
abbrev pub write_in_function : List Event
write_in_function =
    does main (Go w) ∷ does main (Go v) ∷ does w (OnceBegin o) ∷ does w (Write x 5) ∷ does w (OnceEnd o)
    ∷ does main (OnceDone o) ∷ does v (OnceDone o) ∷ does main (Read x 5) ∷ does v (Read x 5) ∷ []

-- the write stands behind the function's end
abbrev pub write_behind_function : List Event
write_behind_function =
    does main (Go w) ∷ does w (OnceBegin o) ∷ does w (OnceEnd o) ∷ does w (Write x 5) ∷ does main (OnceDone o)
    ∷ does main (Read x 5) ∷ []

-- main doesn't call Do before it reads
abbrev pub read_without_do : List Event
read_without_do =
    does main (Go w) ∷ does w (OnceBegin o) ∷ does w (Write x 5) ∷ does w (OnceEnd o) ∷ does main (Read x 5) ∷ []

-- another once's function ends behind the write
abbrev pub another_ended : List Event
another_ended =
    does main (Go w) ∷ does w (OnceBegin o) ∷ does w (OnceEnd o) ∷ does w (Write x 5) ∷ does w (OnceBegin p)
    ∷ does w (OnceEnd p) ∷ does main (OnceDone o) ∷ does main (Read x 5) ∷ []

-- main finds that one done too
abbrev pub both_done : List Event
both_done =
    does main (Go w) ∷ does w (OnceBegin o) ∷ does w (OnceEnd o) ∷ does w (Write x 5) ∷ does w (OnceBegin p)
    ∷ does w (OnceEnd p) ∷ does main (OnceDone o) ∷ does main (OnceDone p) ∷ does main (Read x 5) ∷ []

-- w writes in the function of o behind that of p, which ran inside; main finds p done
abbrev pub inner_done : List Event
inner_done =
    does main (Go w) ∷ does w (OnceBegin o) ∷ does w (OnceBegin p) ∷ does w (OnceEnd p) ∷ does w (Write x 5)
    ∷ does w (OnceEnd o) ∷ does main (OnceDone p) ∷ does main (Read x 5) ∷ []

-- main finds o done
abbrev pub outer_done : List Event
outer_done =
    does main (Go w) ∷ does w (OnceBegin o) ∷ does w (OnceBegin p) ∷ does w (OnceEnd p) ∷ does w (Write x 5)
    ∷ does w (OnceEnd o) ∷ does main (OnceDone o) ∷ does main (Read x 5) ∷ []

-- What orders nothing.

-- w writes and runs the function of o, then main begins that of p and reads
abbrev pub once_then_begin : List Event
once_then_begin =
    does main (Go w) ∷ does w (Write x 5) ∷ does w (OnceBegin o) ∷ does w (OnceEnd o) ∷ does main (OnceBegin p)
    ∷ does main (Read x 5) ∷ []

-- w writes in the function of o, which ends while main is in that of p; main ends that and reads
abbrev pub once_then_end : List Event
once_then_end =
    does main (Go w) ∷ does main (OnceBegin p) ∷ does w (OnceBegin o) ∷ does w (Write x 5) ∷ does w (OnceEnd o)
    ∷ does main (OnceEnd p) ∷ does main (Read x 5) ∷ []

-- w writes and finds the function ended; main finds it too and reads
abbrev pub done_then_done : List Event
done_then_done =
    does main (Go w) ∷ does main (OnceBegin o) ∷ does main (OnceEnd o) ∷ does w (Write x 5) ∷ does w (OnceDone o)
    ∷ does main (OnceDone o) ∷ does main (Read x 5) ∷ []
