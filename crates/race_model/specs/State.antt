-- What the events so far say of the run, its goroutines, variables, channels, locks and onces. (The Go Programming
-- Language Specification, "Program execution", "Go statements", "Channel types", "Close", "Run-time panics", "Handling panics"; package
-- sync)
use Rattle.std.specs.Prelude.{ℕ, if◌then◌else◌, ◌==◌, ◌-◌, ◌||◌, ◌&&◌, not, nat_lt, Bool, List, Option, Some, None}
use Rattle.std.specs.Prelude.{filter_map, slice_get, unwrap_or}
use Rattle.race_records.specs.declared.event.{Event.Event, Op.{Op, TheVariants.{Write, Send, OnceBegin}}}
use Rattle.race_model.specs.Events.{starts, is_fault, sends, receives, closes, locks, unlocks, rlocks, runlocks}
use Rattle.race_model.specs.Events.{once_begins, once_ends, count, has, has_exited, last_of}

-- the run is over: main, goroutine 0, has exited, or a goroutine has failed
abbrev pub over : List Event → Bool
over past = has_exited 0 past || has is_fault past

-- a Go started g; main needs none
abbrev pub started : ℕ → List Event → Bool
started g past = has (starts g) past

-- g is main or was started, and hasn't exited
abbrev pub runs : ℕ → List Event → Bool
runs g past = (g == 0 || started g past) && not (has_exited g past)

-- the value that the operation writes to x
abbrev pub written : ℕ → Op → Option ℕ
written x (Write y v) = if y == x then Some v else None
written x _ = None

-- the value of the last Write of x, or 0 where there is none
abbrev pub last_value : ℕ → List Event → ℕ
last_value x past = unwrap_or (last_of (λ e. written x e.op) past) 0

-- c was closed
abbrev pub is_closed : ℕ → List Event → Bool
is_closed c past = has (closes c) past

-- how many values wait in c's buffer: sends minus receives; 0 where receives exceed sends, which no legal list allows
abbrev pub buffered : ℕ → List Event → ℕ
buffered c past = count (sends c) past - count (receives c) past

-- the value that the operation sends on c
abbrev pub sent : ℕ → Op → Option ℕ
sent c (Send d v) = if d == c then Some v else None
sent c _ = None

-- the value that the next Recv from c gets: Recv number k gets that of Send number k; None where there is no such Send
abbrev pub front : ℕ → List Event → Option ℕ
front c past = slice_get (filter_map (λ e. sent c e.op) past) (count (receives c) past)

-- l is locked: it was locked more often than unlocked, by whichever goroutines
abbrev pub is_held : ℕ → List Event → Bool
is_held l past = nat_lt (count (unlocks l) past) (count (locks l) past)

-- l is locked for reading: it was so locked more often than so unlocked
abbrev pub is_read_held : ℕ → List Event → Bool
is_read_held l past = nat_lt (count (runlocks l) past) (count (rlocks l) past)

-- the function of o began to run
abbrev pub is_begun : ℕ → List Event → Bool
is_begun o past = has (once_begins o) past

-- it ended
abbrev pub is_ended : ℕ → List Event → Bool
is_ended o past = has (once_ends o) past

-- the once that the operation of goroutine who begins, where who is g and the once isn't ended
abbrev pub unended_once : ℕ → List Event → ℕ → Op → Option ℕ
unended_once g past who (OnceBegin o) = if (who == g) && not (is_ended o past) then Some o else None
unended_once g past who _ = None

-- the once that g began last among those that aren't ended: in its function g runs
abbrev pub innermost : ℕ → List Event → Option ℕ
innermost g past = last_of (λ e. unended_once g past e.who e.op) past
