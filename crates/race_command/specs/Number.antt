-- Which words of the command line are numbers.
use Rattle.std.specs.{Prelude.{ℕ, nat_lt, if◌then◌else◌, List, Option, Some, None}, Option.option_and_then}
use Rattle.race_text.specs.Words.{number}

-- the number that the word is, from the least to the most
abbrev pub number_in : ℕ → ℕ → List ℕ → Option ℕ
number_in least most word = option_and_then (λ n. if nat_lt n least then None else Some n) (number most word)
