use Rattle.std.proofs.Common.{◌≡◌, length}
use Rattle.race_edges.specs.{Synchronized.source_at, TableState.taken}
use Rattle.race_verdict.specs.Traces.{capacities}
use Rattle.race_edges.proofs.table.Table.take_sources.Given as goal

abbrev pub invariant-loop-from : goal.invariant-loop-from
invariant-loop-from g l = record {
  rows : taken (λ k. source_at (capacities l.trace) l.trace.events k l.at) l.initial.self.heard l.self.rows l.who l.from
      ≡ taken (λ k. source_at (capacities l.trace) l.trace.events k l.at) l.initial.self.heard l.initial.self.rows l.who l.at;
  heard : l.self.heard ≡ l.initial.self.heard;
  len : length l.self.rows ≡ length l.initial.self.rows;
}
