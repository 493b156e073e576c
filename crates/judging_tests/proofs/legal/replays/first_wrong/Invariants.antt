use Rattle.std.proofs.Common.{◌≡◌, ◌<◌, ◌≤◌}
use Rattle.race_records.specs.{declared.kind.Kind.Kind, Declarations.counts_of}
use Rattle.race_legal.specs.ReplayState.{counts_in}
use Rattle.judging_tests.proofs.legal.replays.first_wrong.Given as goal

abbrev pub invariant-loop-at : goal.invariant-loop-at
invariant-loop-at l = record {
  counts : counts_in l.replay ≡ counts_of l.trace.decls.declarations;
  goroutines : 1 < counts_of l.trace.decls.declarations Kind.Goroutine;
  vars : 0 < counts_of l.trace.decls.declarations Kind.Var;
  chans : 2 < counts_of l.trace.decls.declarations Kind.Chan;
  locks : 1 < counts_of l.trace.decls.declarations Kind.Lock;
  onces : 1 < counts_of l.trace.decls.declarations Kind.Once;
  len : l.replay.len ≤ l.at;
}
