use Rattle.std.proofs.Common.{◌≡◌, ℕ, ◌-◌, zero, true, false, subst, refl, sym, ◌∙◌, arith}
use Rattle.race_records.specs.declared.event.Event.{Event}
use Rattle.race_edges.specs.{Synchronized.source_at, TableState.{row_of, with_row, taken}}
use Rattle.race_edges.proofs.{JudgeSteps.said_from, RowLemmas.taken_down}
use Rattle.race_edges.proofs.table.Table.take_sources.Goals.{else-not-sees-via-then-not-sees+else-is_source}
use Rattle.race_edges.proofs.table.Table.take_sources.Goals.{else-not-sees-via-else-not-sees}
use Rattle.race_verdict.specs.Traces.{capacities}
use Rattle.race_edges.proofs.table.Table.take_sources.Goals as goal

pub returns-clause-taken : goal.returns-clause-taken
returns-clause-taken g c =
    let trace = c.args.trace.now in
    let old = c.args.self.now in
    let is_source : ℕ → _ = λ k. source_at (capacities trace) trace.events k c.args.at in
    let end : c.loop-from.from ≡ zero = omega (arith, c.loop-from-test.false) in
    said_from trace.events c.args.at c.event.result.now
    (λ (e : Event). c.loop-from.self.rows ≡ taken is_source old.heard old.rows e.who c.args.at) c.event.ensures.event
    (subst (λ n. taken is_source old.heard c.loop-from.self.rows c.event.result.now.who n
    ≡ taken is_source old.heard old.rows c.event.result.now.who c.args.at) end c.loop-from.invariant.rows)

pub loop-from-preserved-then-is_source : goal.loop-from-preserved-then-is_source
loop-from-preserved-then-is_source g c =
    let trace = c.args.trace.now in
    let old = c.args.self.now in
    record {
      rows = taken_down (λ k. source_at (capacities trace) trace.events k c.args.at)
          old.heard c.loop-from.self.rows c.take.new.self.rows c.event.result.now.who (c.loop-from.from - 1) c.loop-from.from
          (omega (arith, c.loop-from-test.true))
          false true (sym c.if-not-sees.true ∙ c.sees.ensures) (sym c.if-is_source.true ∙ c.is_source.ensures)
          (c.take.ensures.taken ∙ (λ i. with_row c.loop-from.self.rows c.event.result.now.who (row_of (c.loop-from.invariant.heard i) (c.loop-from.from - 1))))
          ∙ c.loop-from.invariant.rows;
      heard = c.take.ensures.heard ∙ c.loop-from.invariant.heard;
      len = c.take.ensures.len ∙ c.loop-from.invariant.len;
    }

pub loop-from-preserved : goal.loop-from-preserved
loop-from-preserved g c =
    let trace = c.args.trace.now in
    let old = c.args.self.now in
    let is_source : ℕ → _ = λ k. source_at (capacities trace) trace.events k c.args.at in
    record {
      rows = elim c.else-not-sees.branch [
        | else-not-sees-via-then-not-sees+else-is_source w ↦
            taken_down is_source old.heard c.loop-from.self.rows c.loop-from.self.rows c.event.result.now.who (c.loop-from.from - 1) c.loop-from.from
            (omega (arith, c.loop-from-test.true))
            false false (sym w.if-not-sees.true ∙ c.sees.ensures) (sym w.if-is_source.false ∙ w.is_source.ensures) refl
            ∙ c.loop-from.invariant.rows
        | else-not-sees-via-else-not-sees w ↦
            taken_down is_source old.heard c.loop-from.self.rows c.loop-from.self.rows c.event.result.now.who (c.loop-from.from - 1) c.loop-from.from
            (omega (arith, c.loop-from-test.true))
            true (is_source (c.loop-from.from - 1)) (sym w.if-not-sees.false ∙ c.sees.ensures) refl refl
            ∙ c.loop-from.invariant.rows
      ];
      heard = c.loop-from.invariant.heard;
      len = c.loop-from.invariant.len;
    }
