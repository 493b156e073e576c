-- Which reply is right where drawings of a trace are asked for.
use Rattle.std.specs.{Prelude.{ℕ, ◌≡◌, ◌⊎◌, Bool, List, [], ◌∷◌, map, Option, Some, None}, Borrow.Bor}
use Rattle.race_records.specs.{declared.{source.Source.Source, sink.Sink.Sink}, Events.TraceState}
use Rattle.race_model.specs.{Legal.IsLegal, Race.IsReportedRace}
use Rattle.race_text.specs.{Fault.{text_fault, trace_causes}}
use Rattle.race_verdict.specs.{declared.races.Race.Race, Races.race_of, Traces.{capacities, HasVerdict}}
use Rattle.race_draw.specs.Text.{AreDrawn, IsDrawnClean}
use Rattle.race_tool.specs.{declared.{draw.Drawn.Drawn, reply.Reply.Reply}, Finding.IsTextWhere, Outcome.{Answers, Never}}
use Rattle.race_tool.specs.{Reply.{IsBrokenBy, reply_text, reply_status}, Witness.{IsVar, HasNoRace}}
use Rattle.race_model.specs.Verdict as model
use Rattle.race_tool.specs.declared.status.TheConstants as status

-- the bytes of the name, where there is one
abbrev pub name_in : Option (Bor (List ℕ)) → Option (List ℕ)
name_in None = None
name_in (Some name) = Some name.now

-- these are all races that are reported of the trace
abbrev pub AreRacesOf : TraceState → List Race → Type 0
AreRacesOf trace races = HasVerdict trace (model.Races (map race_of races))

-- these races are asked for: all that are reported, or the one on the variable of this name
abbrev pub AreAsked : TraceState → Option (List ℕ) → List Race → Type 0
AreAsked trace None races = AreRacesOf trace races
AreAsked trace (Some name) races =
    (race : Race) × (races ≡ race ∷ []) × IsVar trace name race.var
    × IsReportedRace (capacities trace) trace.events race.var race.first race.second

-- the text is that of the drawings of the races that are asked for, as an SVG document or not
pub record IsTextOfRaces (trace : TraceState) (name : Option (List ℕ)) (svg : Bool) (text : List ℕ) : Type 0 where
  pub legal : IsLegal (capacities trace) trace.events
  pub races : List Race
  pub asked : AreAsked trace name races
  pub drawings : AreDrawn trace svg races text

-- there is a name, which is that of no variable with a race
abbrev pub HasNoRaceOn : Option (List ℕ) → TraceState → Type 0
HasNoRaceOn None trace = ⊥
HasNoRaceOn (Some name) trace = HasNoRace name trace

-- there is no name, and the trace is clean
abbrev pub IsCleanWithout : Option (List ℕ) → TraceState → Type 0
IsCleanWithout None trace = HasVerdict trace model.Clean
IsCleanWithout (Some name) trace = ⊥

-- the text is that of a clean trace, and there is no name
abbrev pub IsTextOfClean : TraceState → Option (List ℕ) → Bool → List ℕ → Type 0
IsTextOfClean trace name svg text = IsCleanWithout name trace × IsDrawnClean trace svg text

-- this is drawn of the trace, as an SVG document or not
abbrev pub IsDrawnOf : {A : Type 0} → Option (List ℕ) → Bool → TraceState → Drawn A → Type 0
IsDrawnOf name svg trace drawn = IsTextOfRaces trace name svg drawn.text.items ⊎ IsTextOfClean trace name svg drawn.text.items

-- the reply is right for the name and the bytes
abbrev pub IsDrawing : {A : Type 0} → Option (List ℕ) → Bool → List ℕ → Reply (Drawn A) → Type 0
IsDrawing name svg bytes (Reply.Faulty fault) = text_fault bytes ≡ Some fault
IsDrawing name svg bytes (Reply.Broken illegal) = IsTextWhere (IsBrokenBy illegal) bytes
IsDrawing name svg bytes Reply.NoRace = IsTextWhere (HasNoRaceOn name) bytes
IsDrawing name svg bytes (Reply.Found drawn) = IsTextWhere (λ trace. IsDrawnOf name svg trace drawn) bytes
IsDrawing name svg bytes (Reply.TooLong events) = ⊥

-- what is printed of what was drawn
abbrev pub drawing_text : {A : Type 0} → Drawn A → List ℕ
drawing_text drawn = drawn.text.items

-- and with which status
abbrev pub drawing_status : {A : Type 0} → Drawn A → ℕ
drawing_status drawn = status.CLEAN

-- the races that are asked for were drawn
abbrev pub Draws : (A : Type 0) → {R W : Type 0} → Option (List ℕ) → Bool → (R → Option (List ℕ)) → (W → Option (List ℕ))
    → Source R → Source R → Sink W → Sink W → ℕ → Type 0
Draws A name svg remaining contents source source_now sink sink_now answer =
    Answers trace_causes (IsDrawing {A = A} name svg) (reply_text drawing_text) (reply_status drawing_status) Never
    remaining contents source source_now sink sink_now answer
