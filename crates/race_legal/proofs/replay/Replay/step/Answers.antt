-- Each arm on its own: all of them are too many for one search.
use Rattle.std.proofs.{Common.rules, Math.Bool.{and-true, and-false, or-false}}
use Rattle.std.proofs.Math.Bool.{or-true}
use Rattle.race_legal.proofs.replay.Replay.step.Goals.{in-Go, in-Exit, in-Read, in-Write, in-Send+in_ok-send-in-Send}
use Rattle.race_legal.proofs.replay.Replay.step.Goals.{in-Recv, in-Meet, in-RecvClosed, in-Close, in-Default, in-Lock}
use Rattle.race_legal.proofs.replay.Replay.step.Goals.{in-Unlock, in-RLock, in-RUnlock, in-TryLock, in-TryRLock}
use Rattle.race_legal.proofs.replay.Replay.step.Goals.{in-TryFail, in-OnceBegin+in_ok-enter-in-OnceBegin, in-OnceEnd}
use Rattle.race_legal.proofs.replay.Replay.step.Goals.{in-OnceDone, in-Fault}
use Rattle.race_legal.proofs.replay.Replay.step.Goals as goal

pub returns : goal.returns
returns g c = elim c.match-event.branch [
  | in-Go w ↦ rw (w.self-inside-is, w.start.ensures, ← c.self.view_is, w.in-Go.is) (simp (and-false, or-false))
  | in-Exit w ↦ rw (w.self-inside-is, w.exit.ensures, ← c.self.view_is, w.in-Exit.is) (simp (and-true, or-false))
  | in-Read w ↦ rw (w.self-inside-is, ← c.self.view_is, w.in-Read.is) (simp (and-false, or-false))
  | in-Write w ↦ search rules
  | in-Send+in_ok-send-in-Send w ↦
      rw (w.self-inside-is, w.send.ensures, w.in_ok-send-in-Send.was, ← c.self.view_is, w.in-Send.is) (simp (and-false, or-false))
  | in-Recv w ↦ rw (w.self-inside-is, w.receive.ensures, ← c.self.view_is, w.in-Recv.is) (simp (and-false, or-false))
  | in-Meet w ↦ rw (w.self-inside-is, ← c.self.view_is, w.in-Meet.is) (simp (and-false, or-false))
  | in-RecvClosed w ↦ rw (w.self-inside-is, ← c.self.view_is, w.in-RecvClosed.is) (simp (and-false, or-false))
  | in-Close w ↦ rw (w.self-inside-is, w.close.ensures, ← c.self.view_is, w.in-Close.is) (simp (and-false, or-false))
  | in-Default w ↦ rw (w.self-inside-is, ← c.self.view_is, w.in-Default.is) (simp (and-false, or-false))
  | in-Lock w ↦ rw (w.self-inside-is, w.lock.ensures, ← c.self.view_is, w.in-Lock.is) (simp (and-false, or-false))
  | in-Unlock w ↦ rw (w.self-inside-is, w.unlock.ensures, ← c.self.view_is, w.in-Unlock.is) (simp (and-false, or-false))
  | in-RLock w ↦ rw (w.self-inside-is, w.lock_for_reading.ensures, ← c.self.view_is, w.in-RLock.is) (simp (and-false, or-false))
  | in-RUnlock w ↦ rw (w.self-inside-is, w.unlock_from_reading.ensures, ← c.self.view_is, w.in-RUnlock.is) (simp (and-false, or-false))
  | in-TryLock w ↦ rw (w.self-inside-is, w.lock-in-TryLock.ensures, ← c.self.view_is, w.in-TryLock.is) (simp (and-false, or-false))
  | in-TryRLock w ↦ rw (w.self-inside-is, w.lock_for_reading-in-TryRLock.ensures, ← c.self.view_is, w.in-TryRLock.is) (simp (and-false, or-false))
  | in-TryFail w ↦ rw (w.self-inside-is, ← c.self.view_is, w.in-TryFail.is) (simp (and-false, or-false))
  | in-OnceBegin+in_ok-enter-in-OnceBegin w ↦
      rw (w.self-inside-is, w.enter.ensures, w.in_ok-enter-in-OnceBegin.was, w.begin.ensures, ← c.self.view_is, w.in-OnceBegin.is)
      (simp (and-false, or-false))
  | in-OnceEnd w ↦ rw (w.self-inside-is, w.leave.ensures, w.end.ensures, ← c.self.view_is, w.in-OnceEnd.is) (simp (and-false, or-false))
  | in-OnceDone w ↦ rw (w.self-inside-is, ← c.self.view_is, w.in-OnceDone.is) (simp (and-false, or-false))
  | in-Fault w ↦ rw (w.self-inside-is, ← c.self.view_is, w.in-Fault.is) (simp (and-false, or-true))
]
