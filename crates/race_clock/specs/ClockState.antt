-- A clock is a list of counts, one for each goroutine; a count that is missing is 0.
use Rattle.std.specs.{Prelude.{ℕ, ◌-◌, List, [], ◌∷◌, ◌++◌, length, replicate, max, slice_set}, List.slice_index_or}

-- the count of goroutine g
abbrev pub knows : List ℕ → ℕ → ℕ
knows c g = slice_index_or c g 0

-- for each goroutine the greater count
abbrev pub joined : List ℕ → List ℕ → List ℕ
joined [] d = d
joined (m ∷ c) [] = m ∷ c
joined (m ∷ c) (n ∷ d) = max m n ∷ joined c d

-- the same counts, with at least n of them written out
abbrev pub padded : List ℕ → ℕ → List ℕ
padded c n = c ++ replicate (n - length c) 0

-- n for goroutine g, where its count is written out
abbrev pub with_count : List ℕ → ℕ → ℕ → List ℕ
with_count c g n = slice_set c g n
