-- The events before the index are in the trace.
use Rattle.std.proofs.Common.{◌≡◌, take}
use Rattle.race_predict.specs.Attempts.{events_by}
use Rattle.race_predict.proofs.certify.trace_of.Given as goal

abbrev pub invariant-loop-k : goal.invariant-loop-k
invariant-loop-k g l = record {
  decls : l.trace.decls ≡ l.recorded.decls;
  events : l.trace.events ≡ events_by l.recorded.events (take l.k l.order);
}
