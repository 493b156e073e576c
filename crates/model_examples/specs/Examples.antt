-- Small lists of events in which several pairs race. (The Go Memory Model, "Memory Model": data race)
use Rattle.std.specs.Prelude.{ℕ, List, [], ◌∷◌}
use Rattle.race_records.specs.declared.event.{Event.Event, Op.TheVariants.{Go, Read, Write}}
use Rattle.race_model.specs.{Examples.{main, w, v, x, does}, Verdict.Race}

-- another variable
abbrev pub y : ℕ
y = 1

abbrev pub race_of : ℕ → ℕ → ℕ → Race
race_of variable i j = record { var = variable; first = i; second = j }

-- main and w write y, and then x
abbrev pub on_y_then_on_x : List Event
on_y_then_on_x = does main (Go w) ∷ does main (Write y 1) ∷ does w (Write y 2) ∷ does main (Write x 1) ∷ does w (Write x 2) ∷ []

-- main and the two goroutines that it started write x
abbrev pub three_writes : List Event
three_writes = does main (Go w) ∷ does main (Go v) ∷ does main (Write x 1) ∷ does w (Write x 2) ∷ does v (Write x 3) ∷ []

-- main and w read x, then v writes it
abbrev pub two_reads_then_a_write : List Event
two_reads_then_a_write = does main (Go w) ∷ does main (Go v) ∷ does main (Read x 0) ∷ does w (Read x 0) ∷ does v (Write x 1) ∷ []
