-- Runs as ways through the tree of the choices. (Our own)
use Rattle.std.specs.Prelude.{ℕ, ◌≡◌, ◌<◌, ◌+◌, nat_lt, List, [], ◌∷◌, length, IsSome}
use Rattle.race_hub.specs.{Hub.{HubState, choices_of, end_of}, Fires.IsFired}
use Rattle.race_record.specs.declared.noting.Fork.{Fork}

-- an event by the choice of that number, of so many
abbrev pub fork_of : ℕ → ℕ → Fork
fork_of count pick = record { pick = pick; more = nat_lt (pick + 1) count }

-- from one state to another by turns and by events, where each state has so many choices
module _ {S : Type 0} (Turns : S → S → Type 0) (Fires : ℕ → S → S → Type 0) (count : S → ℕ) where
  pub data Way : S → List Fork → S → Type 0 where
    here : {s : S} → Way s [] s
    turned : {a b c : S} {forks : List Fork} → Turns a b → Way b forks c → Way a forks c
    fired : {a b c : S} {forks : List Fork} (pick : ℕ) → Fires pick a b → Way b forks c → Way a (fork_of (count a) pick ∷ forks) c

module _ {R : Type 0} where
  -- how many choices there are
  abbrev pub choice_count : HubState R → ℕ
  choice_count h = length (choices_of h)

  -- the choice of the pick happens, where nobody is ready
  abbrev pub Happens : ℕ → HubState R → HubState R → Type 0
  Happens pick old new = (old.ready ≡ []) × IsFired pick old new

  -- and the pick is its number
  abbrev pub IsNumbered : ℕ → HubState R → HubState R → Type 0
  IsNumbered pick old new = (pick < choice_count old) × Happens pick old new

  -- the hub has ended
  abbrev pub HasStopped : HubState R → Type 0
  HasStopped h = IsSome (end_of h)
