-- A goroutine that runs its body: which step it asks after which answer. (Our own; compare package sync, "Once.Do")
use Rattle.std.specs.Prelude.{◌≡◌, ℕ, ◌+◌, ◌&&◌, Bool, true, false, if◌then◌else◌, List, drop, slice_get, Some}
use Rattle.race_requests.specs.declared.request.{Answer.Answer, Ask.Ask, Request.Request}
use Rattle.race_script.specs.{Bodies.{is_exit, is_behind_do, steps_to_end}, Program.asks_of}

-- a `Script` as its callers see it: the whole body, and the index of the step that comes next unless a function of a once was done
pub record ScriptState : Type 0 where
  pub whole : List Request
  pub position : ℕ

-- the answer is that the function of the once had run
abbrev pub is_done : Answer → Bool
is_done Answer.AlreadyDone = true
is_done _ = false

-- the step that is asked after the answer: where a once's function had run, the one behind its end
abbrev pub next_step : ScriptState → Answer → ℕ
next_step s answer =
    if is_behind_do (asks_of s.whole) s.position && is_done answer then s.position + steps_to_end 0 (drop s.position (asks_of s.whole))
    else s.position

-- the position behind the step that was asked; it stays at the exit
abbrev pub position_after : ℕ → Ask → ℕ
position_after step ask = if is_exit ask then step else step + 1

-- the script asks this step, and goes on behind it
pub record Asks (old : ScriptState) (answer : Answer) (asked : Request) (new : ScriptState) : Type 0 where
  pub whole : new.whole ≡ old.whole
  pub step : slice_get old.whole (next_step old answer) ≡ Some asked
  pub position : new.position ≡ position_after (next_step old answer) asked.ask
