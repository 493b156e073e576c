-- Each list is made in turn.
use Rattle.std.proofs.{Common.arith, lemmas.Result.IfOk-from_err}
use Rattle.race_clock.proofs.clocks.Clocks.new.Goals as goal

pub returns-in_err-first_slots : goal.returns-in_err-first_slots
returns-in_err-first_slots g c = IfOk-from_err _ _ c.from_residual.ensures.0

pub returns-in_err-first_channels : goal.returns-in_err-first_channels
returns-in_err-first_channels g c = IfOk-from_err _ _ c.from_residual-in_err-first_channels.ensures.0

pub returns-in_err-first_locks : goal.returns-in_err-first_locks
returns-in_err-first_locks g c = IfOk-from_err _ _ c.from_residual-in_err-first_locks.ensures.0

pub returns-in_err-first_ends : goal.returns-in_err-first_ends
returns-in_err-first_ends g c = IfOk-from_err _ _ c.from_residual-in_err-first_ends.ensures.0

pub overflow_cast-count : goal.overflow_cast-count
overflow_cast-count g c = omega arith

pub overflow_cast-count-2 : goal.overflow_cast-count-2
overflow_cast-count-2 g c = omega arith

pub returns : goal.returns
returns g c = record {
  slots = cc c.in_ok-first_slots.ensures;
  all_channels = c.in_ok-first_channels.ensures.len;
  each_channel = c.in_ok-first_channels.ensures.each;
  locks = cc c.in_ok-first_locks.ensures;
  ends = cc c.in_ok-first_ends.ensures;
}
