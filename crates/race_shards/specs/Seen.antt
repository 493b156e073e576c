-- What the second access of a race has seen of the first one's goroutine. (The Go Memory Model, "Memory Model": happens before)
use Rattle.std.specs.Prelude.{ℕ, ◌≡◌, ◌<◌, ◌+◌, ◌⊎◌, List, Option, Some, None, take, slice_get}
use Rattle.race_records.specs.declared.event.Event.{Event}
use Rattle.race_model.specs.{Clocks.participations, Events.TakesPart, Order.{Begin, Reaches}}
use Rattle.race_verdict.specs.declared.races.Race.{Race}

-- the goroutine whose event stands at index i
abbrev pub who_at : List Event → ℕ → ℕ
who_at events i = elim (slice_get events i) [ Some e ↦ e.who | None ↦ 0 ]

-- the second access of the race has seen the first one's goroutine begin its part in event k: that begin reaches the access's
abbrev pub HasSeen : (ℕ → ℕ) → List Event → Race → ℕ → Type 0
HasSeen caps events r k = Reaches caps events (Begin k (who_at events r.first)) (Begin r.second (who_at events r.second))

-- p is the last event of the first one's goroutine that it has seen
pub record IsLast (caps : ℕ → ℕ) (events : List Event) (r : Race) (p : ℕ) : Type 0 where
  pub part : TakesPart events p (who_at events r.first)
  pub seen : HasSeen caps events r p
  pub last : (k : ℕ) → p < k → TakesPart events k (who_at events r.first) → ¬ HasSeen caps events r k

-- or it has seen none
abbrev pub IsLastSeen : (ℕ → ℕ) → List Event → Race → Option ℕ → Type 0
IsLastSeen caps events r None = (k : ℕ) → TakesPart events k (who_at events r.first) → ¬ HasSeen caps events r k
IsLastSeen caps events r (Some p) = IsLast caps events r p

-- p is g's part with the number n, counted from 1, or there is none
abbrev pub IsPart : List Event → ℕ → ℕ → Option ℕ → Type 0
IsPart events g n None = (n ≡ 0) ⊎ (participations g events < n)
IsPart events g n (Some p) = TakesPart events p g × (participations g (take p events) + 1 ≡ n)
