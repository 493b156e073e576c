-- Which requests are bad. (Our own; compare The Go Programming Language Specification, "Go statements"; package sync)
use Rattle.std.specs.Prelude.{ℕ, ◌==◌, ◌||◌, ◌&&◌, not, nat_lt, Bool, true, false, List, length, Option, Some, None}
use Rattle.std.specs.{Prelude.is_some, List.list_any, Option.option_map_or}
use Rattle.race_records.specs.declared.{event.Event.Event, operands.OpKeyword.OpKeyword, version.Version.Version}
use Rattle.race_records.specs.{Declarations.{DeclsState, is_rw}, Operands.has_op_keyword}
use Rattle.race_model.specs.{Events.gives, State.{started, innermost}}
use Rattle.race_requests.specs.{declared.request.{Ask.Ask, Waiter.Waiter}, Waiting.is_declared}

-- the lock that the ask names and that has to be an rwmutex
abbrev pub rwmutex_asked : Ask → Option ℕ
rwmutex_asked (Ask.RLock l) = Some l
rwmutex_asked (Ask.RUnlock l) = Some l
rwmutex_asked (Ask.TryRLock l) = Some l
rwmutex_asked _ = None

-- where the ask wants an rwmutex, its lock is one
abbrev pub lock_suits : DeclsState → Ask → Bool
lock_suits decls ask = option_map_or (is_rw decls.declarations) (rwmutex_asked ask) true

-- the version has the ask: a try, where it has the word, and each other
abbrev pub has_ask : Version → Ask → Bool
has_ask version (Ask.Go h) = true
has_ask version Ask.Exit = true
has_ask version (Ask.Read x) = true
has_ask version (Ask.Write x v) = true
has_ask version (Ask.Send c v) = true
has_ask version (Ask.Recv c) = true
has_ask version (Ask.Close c) = true
has_ask version (Ask.Select offers has_default) = true
has_ask version (Ask.Lock l) = true
has_ask version (Ask.Unlock l) = true
has_ask version (Ask.RLock l) = true
has_ask version (Ask.RUnlock l) = true
has_ask version (Ask.TryLock l) = has_op_keyword version OpKeyword.TryLock
has_ask version (Ask.TryRLock l) = has_op_keyword version OpKeyword.TryRLock
has_ask version (Ask.Do o) = true
has_ask version (Ask.EndDo o) = true

-- the version has the request, and all that it names is declared, and of the right kind, its place too
abbrev pub is_sound : DeclsState → Waiter → Bool
is_sound decls w =
    is_declared decls.declarations w && (has_ask decls.version w.asked.ask && (lock_suits decls w.asked.ask && nat_lt w.asked.place (length decls.places)))

-- the ask is to start h
abbrev pub asks_to_start : ℕ → Ask → Bool
asks_to_start h (Ask.Go k) = k == h
asks_to_start h _ = false

-- g asks for a step out of turn: a start of main or of whom a Go starts or is to start, an exit in the function of a once, an end
-- of another once than the innermost
abbrev pub is_out_of_turn : List Event → List Waiter → ℕ → Ask → Bool
is_out_of_turn past waiting g (Ask.Go h) = (h == 0) || (started h past || list_any (λ w. asks_to_start h w.asked.ask) waiting)
is_out_of_turn past waiting g Ask.Exit = is_some (innermost g past)
is_out_of_turn past waiting g (Ask.EndDo o) = not (gives (innermost g past) o)
is_out_of_turn past waiting g _ = false

-- the request is bad behind these events and beside these requests
abbrev pub is_bad_among : DeclsState → List Event → List Waiter → Waiter → Bool
is_bad_among decls past waiting w = not (is_sound decls w) || is_out_of_turn past waiting w.who w.asked.ask
