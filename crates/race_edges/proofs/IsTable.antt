-- What a table says of the events so far.
use Rattle.std.specs.Prelude.{ℕ, ◌≡◌, ◌<◌, ◌≤◌, ◌↔◌, IsTrue, List, length}
use Rattle.race_records.specs.declared.event.Event.{Event}
use Rattle.race_model.specs.{Events.At, Known.{SeenBy, SeenAt}}
use Rattle.race_edges.specs.{Synchronized.can_be_source, TableState.{TableState, row_of, sees}}

-- goroutine g has seen the begin of event i
abbrev pub HasSeen : (ℕ → ℕ) → List Event → ℕ → ℕ → Type 0
HasSeen caps past i g = (e : Event) × At past i e × SeenBy caps past i e.who g

-- at the begin of event k its goroutine, which is f, had seen the begin of event i
abbrev pub HadSeen : (ℕ → ℕ) → List Event → ℕ → ℕ → ℕ → Type 0
HadSeen caps past i k f = (e : Event) × At past i e × SeenAt caps past i e.who k f

-- the table tells of each goroutine which events' begins it has seen, and of each event that can be a source which its
-- goroutine had seen at its begin; it has room for so many events
pub record IsTable (caps : ℕ → ℕ) (table : TableState) (limit : ℕ) (past : List Event) : Type 0 where
  pub seen : (g i : ℕ) → g < length table.rows → i < limit → IsTrue (sees table.rows g i) ↔ HasSeen caps past i g
  pub heard : (k i : ℕ) (s : Event) → At past k s → IsTrue (can_be_source s.op) → i < limit → IsTrue (sees table.heard k i) ↔ HadSeen caps past i k s.who
  -- each goroutine's row has a place for each event
  pub wide : (g : ℕ) → g < length table.rows → length (row_of table.rows g) ≡ limit
  pub long : length table.heard ≡ length past
  pub room : length past ≤ limit
