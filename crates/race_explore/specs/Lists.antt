-- Which lists of picks the walk has still to take, by the events of the last run. (Our own)
use Rattle.std.specs.Prelude.{ℕ, ◌≡◌, ◌⊎◌, ◌<◌, ◌+◌, true, if◌then◌else◌, List, [], ◌∷◌, Option, Some, None}
use Rattle.race_record.specs.declared.noting.Fork.{Fork}

-- the picks of the run that comes next: the last pick that isn't its event's last choice is one greater, and what comes after it is left out
abbrev pub next_picks : List Fork → Option (List ℕ)
next_picks [] = None
next_picks (f ∷ forks) = elim (next_picks forks) [
  | Some picks ↦ Some (f.pick ∷ picks)
  | None ↦ if f.more then Some ((f.pick + 1) ∷ []) else None
]

-- the second run comes later than the first: at the first event in which they differ its pick is greater, and the first run had a choice of the next number
abbrev pub After : List Fork → List Fork → Type 0
After (f ∷ forks) (g ∷ others) = ((f.pick ≡ g.pick) × After forks others) ⊎ ((f.pick < g.pick) × (f.more ≡ true))
After _ _ = ⊥

-- the second run is another one, and comes later: at the first event in which they differ its pick is greater
abbrev pub Later : List Fork → List Fork → Type 0
Later (f ∷ forks) (g ∷ others) = ((f.pick ≡ g.pick) × Later forks others) ⊎ (f.pick < g.pick)
Later _ _ = ⊥

-- the run is one of those that begin with the picks, or comes later
abbrev pub IsLeft : List ℕ → List Fork → Type 0
IsLeft [] forks = Unit {0}
IsLeft (p ∷ picks) [] = ⊥
IsLeft (p ∷ picks) (f ∷ forks) = ((p ≡ f.pick) × IsLeft picks forks) ⊎ (p < f.pick)

-- the picks of the run are these, and then 0
abbrev pub HasPicks : List ℕ → List Fork → Type 0
HasPicks picks [] = Unit {0}
HasPicks [] (f ∷ forks) = (f.pick ≡ 0) × HasPicks [] forks
HasPicks (p ∷ picks) (f ∷ forks) = (f.pick ≡ p) × HasPicks picks forks
