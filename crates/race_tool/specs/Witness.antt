-- Which reply is right where the witness of a variable's race is asked for.
use Rattle.std.specs.Prelude.{ℕ, ◌≡◌, List, Option, Some, None, slice_get}
use Rattle.race_records.specs.{declared.{kind.Named.Named, source.Source.Source, sink.Sink.Sink}, Declarations.find_name}
use Rattle.race_records.specs.Events.{TraceState}
use Rattle.race_model.specs.{Legal.IsLegal, Race.{IsRace, IsReportedRace}}
use Rattle.race_text.specs.{Fault.{text_fault, trace_causes}, Text.IsTextOf}
use Rattle.race_verdict.specs.{declared.races.Race.Race, Traces.capacities}
use Rattle.race_shards.specs.{Witness.IsWitness}
use Rattle.race_report.specs.Witness.{witness_text}
use Rattle.race_tool.specs.{declared.{witness.Witness.Witness, reply.Reply.Reply}, Finding.IsTextWhere}
use Rattle.race_tool.specs.{Outcome.{Answers, Never}, Reply.{IsBrokenBy, reply_text, reply_status}}
use Rattle.race_tool.specs.declared.status.TheConstants as status

-- x is the variable of this name
abbrev pub IsVar : TraceState → List ℕ → ℕ → Type 0
IsVar trace name x = find_name trace.decls.declarations name ≡ Some (Named.Var x)

-- the trace is legal, and the name is that of no variable with a race
abbrev pub HasNoRace : List ℕ → TraceState → Type 0
HasNoRace name trace =
    IsLegal (capacities trace) trace.events × ((x i j : ℕ) → IsVar trace name x → ¬ IsRace (capacities trace) trace.events x i j)

-- the order is a witness of the race that is reported on the variable of this name
pub record IsWitnessOn (trace : TraceState) (name order : List ℕ) : Type 0 where
  pub race : Race
  pub named : IsVar trace name race.var
  pub reported : IsReportedRace (capacities trace) trace.events race.var race.first race.second
  pub witness : IsWitness (capacities trace) trace.events race order

-- the reply is right for the name and the bytes
abbrev pub IsShowing : {A : Type 0} → List ℕ → List ℕ → Reply (Witness A) → Type 0
IsShowing name bytes (Reply.Faulty fault) = text_fault bytes ≡ Some fault
IsShowing name bytes (Reply.Broken illegal) = IsTextWhere (IsBrokenBy illegal) bytes
IsShowing name bytes Reply.NoRace = IsTextWhere (HasNoRace name) bytes
IsShowing name bytes (Reply.Found w) = IsTextOf w.trace bytes × IsWitnessOn w.trace name w.order.items
IsShowing name bytes (Reply.TooLong events) = ⊥

-- what is printed of a witness
abbrev pub showing_text : {A : Type 0} → Witness A → List ℕ
showing_text w = witness_text w.trace w.order.items

-- and with which status
abbrev pub showing_status : {A : Type 0} → Witness A → ℕ
showing_status w = status.CLEAN

-- the witness of the race on the variable of this name was shown
abbrev pub Shows : (A : Type 0) → {R W : Type 0} → List ℕ → (R → Option (List ℕ)) → (W → Option (List ℕ)) → Source R → Source R → Sink W → Sink W → ℕ → Type 0
Shows A name remaining contents source source_now sink sink_now answer =
    Answers trace_causes (IsShowing {A = A} name) (reply_text showing_text) (reply_status showing_status) Never
    remaining contents source source_now sink sink_now answer

-- one of the races is on the variable of this name, or none is
abbrev pub IsPickedOf : TraceState → List Race → List ℕ → Option Race → Type 0
IsPickedOf trace races name None = (k : ℕ) (r : Race) → slice_get races k ≡ Some r → ¬ IsVar trace name r.var
IsPickedOf trace races name (Some race) = ((k : ℕ) × (slice_get races k ≡ Some race)) × IsVar trace name race.var
