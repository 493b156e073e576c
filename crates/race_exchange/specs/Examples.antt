-- Small lists of events: src/examples.rt states which of them differ only in the order of independent neighbours. (Our own)
use Rattle.std.specs.Prelude.{ℕ, List, [], ◌∷◌}
use Rattle.race_records.specs.declared.event.{Event.Event, Op.TheVariants.{Exit, Write}}
use Rattle.race_model.specs.Examples.{main, w, v, x, does}

-- two more variables
abbrev pub y : ℕ
y = 1

abbrev pub z : ℕ
z = 2

-- v, w and main write each a variable of its own: goroutines 2, 1 and 0
abbrev pub v_writes : Event
v_writes = does v (Write x 1)

abbrev pub w_writes : Event
w_writes = does w (Write y 1)

abbrev pub main_writes : Event
main_writes = does main (Write z 1)

abbrev pub main_exits : Event
main_exits = does main Exit

-- the greater goroutine first, and the other way round, with nothing after them
abbrev pub greater_first : List Event
greater_first = w_writes ∷ main_writes ∷ []

abbrev pub lesser_first : List Event
lesser_first = main_writes ∷ w_writes ∷ []

-- with main's exit after them
abbrev pub greater_first_then_exit : List Event
greater_first_then_exit = w_writes ∷ main_writes ∷ main_exits ∷ []

abbrev pub lesser_first_then_exit : List Event
lesser_first_then_exit = main_writes ∷ w_writes ∷ main_exits ∷ []

-- all three, the greatest goroutine first, and the other way round
abbrev pub three_turned : List Event
three_turned = v_writes ∷ w_writes ∷ main_writes ∷ main_exits ∷ []

abbrev pub three_in_order : List Event
three_in_order = main_writes ∷ w_writes ∷ v_writes ∷ main_exits ∷ []

-- two writes of one variable, with main's exit after them
abbrev pub on_one_variable : List Event
on_one_variable = does w (Write x 1) ∷ does main (Write x 2) ∷ main_exits ∷ []

abbrev pub on_one_variable_turned : List Event
on_one_variable_turned = does main (Write x 2) ∷ does w (Write x 1) ∷ main_exits ∷ []
