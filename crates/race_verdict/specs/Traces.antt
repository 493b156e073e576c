-- The memory model's words on a trace: over its events, with the capacities that it declares.
use Rattle.std.specs.Prelude.{ℕ}
use Rattle.race_records.specs.{Declarations.capacity_of, Events.TraceState}
use Rattle.race_model.specs.{Legal.{IsLegal, IsIllegalAt}, Race.{IsRace, IsDataRaceFree}, Reorder.EachReadFindsTheSame}
use Rattle.race_model.specs.Verdict.{Verdict, IsVerdict}

-- the capacity of each channel of the trace
abbrev pub capacities : TraceState → ℕ → ℕ
capacities trace = capacity_of trace.decls.declarations

-- the verdict on the trace
abbrev pub HasVerdict : TraceState → Verdict → Type 0
HasVerdict trace verdict = IsVerdict (capacities trace) trace.events verdict

-- the trace is legal and has no data race, and every reordering of its accesses lets every read find the same write
pub record IsClean (trace : TraceState) : Type 0 where
  pub legal : IsLegal (capacities trace) trace.events
  pub race_free : IsDataRaceFree (capacities trace) trace.events
  pub same_reads : EachReadFindsTheSame (capacities trace) trace.events

-- the trace is legal and has a data race: two accesses of variable var, by their indexes
pub record IsRacy (trace : TraceState) : Type 0 where
  pub legal : IsLegal (capacities trace) trace.events
  pub var : ℕ
  pub first : ℕ
  pub second : ℕ
  pub race : IsRace (capacities trace) trace.events var first second

-- an event of the trace breaks a rule: the first that does, by its index, and the least rule that it breaks
pub record IsIllegal (trace : TraceState) : Type 0 where
  pub index : ℕ
  pub rule : ℕ
  pub broken : IsIllegalAt (capacities trace) trace.events index rule
