-- The next picks, by the last event.
use Rattle.std.proofs.Common.{◌≡◌, ◌+◌, ◌++◌, true, false, List, [], ◌∷◌, Some, None, ap, map}
use Rattle.std.specs.Prelude.{if◌then◌else◌}
use Rattle.race_record.specs.declared.noting.Fork.{Fork}
use Rattle.race_explore.specs.Lists.{next_picks}

-- an event without another choice decides nothing
pub next_without : (forks : List Fork) (last : Fork) → last.more ≡ false → next_picks (forks ++ last ∷ []) ≡ next_picks forks
next_without [] last not_more = ap (λ b. if b then Some ((last.pick + 1) ∷ []) else None) not_more
next_without (f ∷ forks) last not_more =
    ap (λ o. elim o [ Some picks ↦ Some (f.pick ∷ picks) | None ↦ if f.more then Some ((f.pick + 1) ∷ []) else None ]) (next_without forks last not_more)

-- one with another choice is the one
pub next_with : (forks : List Fork) (last : Fork) → last.more ≡ true
    → next_picks (forks ++ last ∷ []) ≡ Some (map (λ f. f.pick) forks ++ (last.pick + 1) ∷ [])
next_with [] last more = ap (λ b. if b then Some ((last.pick + 1) ∷ []) else None) more
next_with (f ∷ forks) last more =
    ap (λ o. elim o [ Some picks ↦ Some (f.pick ∷ picks) | None ↦ if f.more then Some ((f.pick + 1) ∷ []) else None ]) (next_with forks last more)
