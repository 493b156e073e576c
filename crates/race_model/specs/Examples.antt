-- Small lists of events, whose verdicts are proved in src/examples.rt. (The Go Memory Model, "Goroutine creation",
-- "Goroutine destruction", "Channel communication"; the Specification, "Select statements", "Run-time panics")
use Rattle.std.specs.Prelude.{ℕ, if◌then◌else◌, ◌==◌, List, [], ◌∷◌, ◌++◌, Some, None, length}
use Rattle.race_records.specs.declared.event.{Event.Event, Cause.TheVariants.{SendClosed, CloseNil}, Op.Op}
use Rattle.race_records.specs.declared.event.Op.TheVariants.{Go, Exit, Read, Write, Send, Recv, Meet, RecvClosed, Close}
use Rattle.race_records.specs.declared.{event.Op.TheVariants.{Default, Fault}, cases.{Case.Case, Dir.Dir}}
use Rattle.race_model.specs.{Legal.IsLegal, Verdict.{Race, IsVerdict, Illegal}}

-- the goroutine that runs first
abbrev pub main : ℕ
main = 0

-- two goroutines that main may start
abbrev pub w : ℕ
w = 1

abbrev pub v : ℕ
v = 2

-- a variable
abbrev pub x : ℕ
x = 0

-- an event of goroutine g; the place in the source plays no part
abbrev pub does : ℕ → Op → Event
does g o = record { who = g; op = o; place = 0; place2 = None }

-- the only race of the list is on x, between these two indexes
abbrev pub race_on_x : ℕ → ℕ → List Race
race_on_x i j = record { var = x; first = i; second = j } ∷ []

-- main writes, then starts the goroutine that reads
abbrev pub write_then_go : List Event
write_then_go = does main (Write x 7) ∷ does main (Go w) ∷ does w (Read x 7) ∷ does main Exit ∷ []

-- main starts the goroutine that reads, then writes
abbrev pub go_then_write : List Event
go_then_write = does main (Go w) ∷ does main (Write x 1) ∷ does w (Read x 1) ∷ []

-- the new goroutine writes and exits, then main reads
abbrev pub exit_then_read : List Event
exit_then_read = does main (Go w) ∷ does w (Write x 1) ∷ does w Exit ∷ does main (Read x 1) ∷ []

-- the new goroutine writes and exits, then main starts another and reads
abbrev pub exit_then_go : List Event
exit_then_go = does main (Go w) ∷ does w (Write x 1) ∷ does w Exit ∷ does main (Go v) ∷ does main (Read x 1) ∷ []

-- two goroutines read, with nothing to order them
abbrev pub two_reads : List Event
two_reads = does main (Go w) ∷ does w (Read x 0) ∷ does main (Read x 0) ∷ []

-- an event after main's exit
abbrev pub exit_twice : List Event
exit_twice = does main Exit ∷ does main Exit ∷ []

-- a write by a goroutine that nobody started
abbrev pub write_unstarted : List Event
write_unstarted = does w (Write x 1) ∷ []

-- main starts itself
abbrev pub go_main : List Event
go_main = does main (Go main) ∷ []

-- a read of a value that nobody wrote
abbrev pub read_unwritten : List Event
read_unwritten = does main (Read x 1) ∷ []

-- main starts the same goroutine twice
abbrev pub go_twice : List Event
go_twice = does main (Go w) ∷ does main (Go w) ∷ []

-- a write by a goroutine that has exited
abbrev pub write_exited : List Event
write_exited = does main (Go w) ∷ does w Exit ∷ does w (Write x 1) ∷ []

-- a read of the initial value behind a write of another
abbrev pub read_overwritten : List Event
read_overwritten = does main (Write x 7) ∷ does main (Read x 0) ∷ []

-- a read of a value that was written and overwritten
abbrev pub read_the_first : List Event
read_the_first = does main (Write x 1) ∷ does main (Write x 2) ∷ does main (Read x 1) ∷ []

-- a channel with room for one value
abbrev pub c : ℕ
c = 0

-- an unbuffered channel
abbrev pub d : ℕ
d = 1

-- a channel with room for two values
abbrev pub e : ℕ
e = 2

-- the capacities of these three
abbrev pub capacities : ℕ → ℕ
capacities n = if n == c then 1 else if n == d then 0 else 2

-- the events past are legal, and the event breaks a rule behind them: n is the least rule that it breaks
abbrev pub Breaks : List Event → Event → ℕ → Type 0
Breaks past event n = IsVerdict capacities (past ++ event ∷ []) (Illegal (length past) n)

-- the event breaks no rule behind the events past, which are legal
abbrev pub Fits : List Event → Event → Type 0
Fits past event = IsLegal capacities (past ++ event ∷ [])

-- Small lists to come before an event.

abbrev pub started : List Event
started = does main (Go w) ∷ []

abbrev pub gone : List Event
gone = does main (Go w) ∷ does w Exit ∷ []

abbrev pub one_sent : List Event
one_sent = does main (Send c 1) ∷ []

abbrev pub one_received : List Event
one_received = does main (Send c 1) ∷ does main (Recv c 1) ∷ []

abbrev pub second_sent : List Event
second_sent = does main (Send c 1) ∷ does main (Recv c 1) ∷ does main (Send c 2) ∷ []

abbrev pub two_waiting : List Event
two_waiting = does main (Send e 1) ∷ does main (Send e 2) ∷ []

abbrev pub closed : List Event
closed = does main (Close c) ∷ []

abbrev pub unbuffered_closed : List Event
unbuffered_closed = does main (Go w) ∷ does main (Close d) ∷ []

abbrev pub sent_and_closed : List Event
sent_and_closed = does main (Send c 1) ∷ does main (Close c) ∷ []

abbrev pub closed_and_emptied : List Event
closed_and_emptied = does main (Send c 1) ∷ does main (Close c) ∷ does main (Recv c 1) ∷ []

-- Values in a buffer.

-- main writes, then sends; w receives, then reads
abbrev pub write_then_send : List Event
write_then_send = does main (Go w) ∷ does main (Write x 5) ∷ does main (Send c 1) ∷ does w (Recv c 1) ∷ does w (Read x 5) ∷ []

-- the write stands behind the send
abbrev pub send_then_write : List Event
send_then_write = does main (Go w) ∷ does main (Send c 1) ∷ does main (Write x 5) ∷ does w (Recv c 1) ∷ does w (Read x 5) ∷ []

-- main writes between two sends, and w reads behind its receive of the first value
abbrev pub first_received : List Event
first_received =
    does main (Go w) ∷ does main (Send e 1) ∷ does main (Write x 5) ∷ does main (Send e 2) ∷ does w (Recv e 1)
    ∷ does w (Read x 5) ∷ []

-- w receives the second value too before it reads
abbrev pub second_received : List Event
second_received =
    does main (Go w) ∷ does main (Send e 1) ∷ does main (Write x 5) ∷ does main (Send e 2) ∷ does w (Recv e 1)
    ∷ does w (Recv e 2) ∷ does w (Read x 5) ∷ []

-- main sends on another channel behind the write
abbrev pub another_channel_sent : List Event
another_channel_sent =
    does main (Go w) ∷ does main (Send c 1) ∷ does main (Write x 5) ∷ does main (Send e 1) ∷ does w (Recv c 1)
    ∷ does w (Read x 5) ∷ []

-- Room in a buffer.

-- w writes, then receives; main sends again, for which that made room, then reads
abbrev pub room_then_read : List Event
room_then_read =
    does main (Go w) ∷ does main (Send c 1) ∷ does w (Write x 5) ∷ does w (Recv c 1) ∷ does main (Send c 2)
    ∷ does main (Read x 5) ∷ []

-- main doesn't send again
abbrev pub read_then_no_send : List Event
read_then_no_send = does main (Go w) ∷ does main (Send c 1) ∷ does w (Write x 5) ∷ does w (Recv c 1) ∷ does main (Read x 5) ∷ []

-- the write stands behind the receive
abbrev pub room_then_write : List Event
room_then_write =
    does main (Go w) ∷ does main (Send c 1) ∷ does w (Recv c 1) ∷ does w (Write x 5) ∷ does main (Send c 2)
    ∷ does main (Read x 5) ∷ []

-- there was room for the second send anyway
abbrev pub room_for_two : List Event
room_for_two =
    does main (Go w) ∷ does main (Send e 1) ∷ does w (Write x 5) ∷ does w (Recv e 1) ∷ does main (Send e 2)
    ∷ does main (Read x 5) ∷ []

-- main sends a third time, for which the receive made room
abbrev pub room_for_a_third : List Event
room_for_a_third =
    does main (Go w) ∷ does main (Send e 1) ∷ does w (Write x 5) ∷ does w (Recv e 1) ∷ does main (Send e 2)
    ∷ does main (Send e 3) ∷ does main (Read x 5) ∷ []

-- a buffer of one as a lock: each sends, writes, and receives
abbrev pub send_as_lock : List Event
send_as_lock =
    does main (Go w) ∷ does main (Send c 1) ∷ does main (Write x 1) ∷ does main (Recv c 1) ∷ does w (Send c 1)
    ∷ does w (Write x 2) ∷ does w (Recv c 1) ∷ []

-- w's receive makes room for v's send, behind which v reads what w wrote
abbrev pub sender_reads : List Event
sender_reads =
    does main (Go w) ∷ does main (Go v) ∷ does main (Send c 1) ∷ does w (Write x 5) ∷ does w (Recv c 1)
    ∷ does v (Send c 2) ∷ does v (Read x 5) ∷ []

-- main receives what v sent, and reads what w wrote
abbrev pub next_receiver_reads : List Event
next_receiver_reads =
    does main (Go w) ∷ does main (Go v) ∷ does main (Send c 1) ∷ does w (Write x 5) ∷ does w (Recv c 1)
    ∷ does v (Send c 2) ∷ does main (Recv c 2) ∷ does main (Read x 5) ∷ []

-- An unbuffered channel.

-- the sender writes before, and the receiver reads behind
abbrev pub sender_writes : List Event
sender_writes = does main (Go w) ∷ does main (Write x 3) ∷ does main (Meet w d 1) ∷ does w (Read x 3) ∷ []

-- the receiver writes before, and the sender reads behind
abbrev pub receiver_writes : List Event
receiver_writes = does main (Go w) ∷ does w (Write x 3) ∷ does main (Meet w d 1) ∷ does main (Read x 3) ∷ []

-- the sender writes behind, and the receiver reads behind
abbrev pub sender_writes_behind : List Event
sender_writes_behind = does main (Go w) ∷ does main (Meet w d 1) ∷ does main (Write x 3) ∷ does w (Read x 3) ∷ []

-- the receiver writes behind, and the sender reads behind
abbrev pub receiver_writes_behind : List Event
receiver_writes_behind = does main (Go w) ∷ does main (Meet w d 1) ∷ does w (Write x 3) ∷ does main (Read x 3) ∷ []

-- another goroutine than the two reads
abbrev pub another_reads : List Event
another_reads =
    does main (Go w) ∷ does main (Go v) ∷ does main (Write x 3) ∷ does main (Meet w d 1) ∷ does v (Read x 3) ∷ []

-- A closed channel.

-- main writes, then closes; two goroutines find it closed, then read
abbrev pub write_then_close : List Event
write_then_close =
    does main (Go w) ∷ does main (Go v) ∷ does main (Write x 5) ∷ does main (Close c) ∷ does w (RecvClosed c)
    ∷ does v (RecvClosed c) ∷ does w (Read x 5) ∷ does v (Read x 5) ∷ []

-- the write stands behind the close
abbrev pub close_then_write : List Event
close_then_write =
    does main (Go w) ∷ does main (Close c) ∷ does main (Write x 5) ∷ does w (RecvClosed c) ∷ does w (Read x 5) ∷ []

-- main closes another channel behind the write
abbrev pub another_channel_closed : List Event
another_channel_closed =
    does main (Go w) ∷ does main (Close c) ∷ does main (Write x 5) ∷ does main (Close d) ∷ does w (RecvClosed c)
    ∷ does w (Read x 5) ∷ []

-- main sends, writes and closes; w receives the value, then reads
abbrev pub value_behind_close : List Event
value_behind_close =
    does main (Go w) ∷ does main (Send c 1) ∷ does main (Write x 5) ∷ does main (Close c) ∷ does w (Recv c 1)
    ∷ does w (Read x 5) ∷ []

-- w finds the channel closed too before it reads
abbrev pub close_behind_value : List Event
close_behind_value =
    does main (Go w) ∷ does main (Send c 1) ∷ does main (Write x 5) ∷ does main (Close c) ∷ does w (Recv c 1)
    ∷ does w (RecvClosed c) ∷ does w (Read x 5) ∷ []

-- A select's default.

-- cases of a select: a send and a receive on a channel, or on nil
abbrev pub a_send : ℕ → Case
a_send c = record { dir = Dir.Send; chan = Some c }

abbrev pub a_receive : ℕ → Case
a_receive c = record { dir = Dir.Recv; chan = Some c }

abbrev pub send_on_nil : Case
send_on_nil = record { dir = Dir.Send; chan = None }

abbrev pub receive_on_nil : Case
receive_on_nil = record { dir = Dir.Recv; chan = None }

-- cases, where c's one place is taken: none could go on, the first could, the last could
abbrev pub none_ready : List Case
none_ready = a_send c ∷ a_receive d ∷ receive_on_nil ∷ a_receive e ∷ []

abbrev pub first_ready : List Case
first_ready = a_receive c ∷ a_send c ∷ a_receive d ∷ []

abbrev pub last_ready : List Case
last_ready = a_send c ∷ a_receive d ∷ receive_on_nil ∷ a_receive c ∷ []

abbrev pub one_of_two_sent : List Event
one_of_two_sent = does main (Send e 1) ∷ []

-- a default because the buffer is full
abbrev pub full_and_passed : List Event
full_and_passed = does main (Send c 1) ∷ does main (Default (a_send c ∷ [])) ∷ []

-- w writes and would receive, main would send, then reads
abbrev pub nobody_meets : List Event
nobody_meets =
    does main (Go w) ∷ does w (Write x 1) ∷ does w (Default (a_receive d ∷ [])) ∷ does main (Default (a_send d ∷ []))
    ∷ does main (Read x 1) ∷ []

-- w writes and sends; main finds the buffer full, then reads
abbrev pub finds_it_full : List Event
finds_it_full =
    does main (Go w) ∷ does w (Write x 1) ∷ does w (Send c 1) ∷ does main (Default (a_send c ∷ []))
    ∷ does main (Read x 1) ∷ []

-- w writes and receives; main finds the buffer empty, then reads
abbrev pub finds_it_empty : List Event
finds_it_empty =
    does main (Go w) ∷ does main (Send c 1) ∷ does w (Write x 1) ∷ does w (Recv c 1)
    ∷ does main (Default (a_receive c ∷ [])) ∷ does main (Read x 1) ∷ []

-- main writes and sends; w receives and reads; each took a default before
abbrev pub defaults_between : List Event
defaults_between =
    does main (Go w) ∷ does main (Write x 1) ∷ does main (Default (a_receive c ∷ [])) ∷ does main (Send c 1)
    ∷ does w (Default (a_send c ∷ [])) ∷ does w (Recv c 1) ∷ does w (Read x 1) ∷ []

-- A fault.

abbrev pub main_failed : List Event
main_failed = does main (Go w) ∷ does main (Fault CloseNil) ∷ []

abbrev pub w_failed : List Event
w_failed = does main (Go w) ∷ does w (Fault CloseNil) ∷ []

-- w writes and closes; main reads, then fails, since the channel is closed
abbrev pub reads_and_fails : List Event
reads_and_fails =
    does main (Go w) ∷ does w (Write x 1) ∷ does w (Close c) ∷ does main (Read x 1)
    ∷ does main (Fault (SendClosed c)) ∷ []

-- main finds the channel closed before it reads and fails
abbrev pub finds_it_closed_and_fails : List Event
finds_it_closed_and_fails =
    does main (Go w) ∷ does w (Write x 1) ∷ does w (Close c) ∷ does main (RecvClosed c) ∷ does main (Read x 1)
    ∷ does main (Fault (SendClosed c)) ∷ []
