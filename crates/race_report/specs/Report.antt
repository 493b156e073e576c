-- The printed report of a verdict, the lines of edges, and the line of a text fault. Events are printed with numbers from 1.
use Rattle.std.specs.Prelude.{ℕ, ◌+◌, List, [], ◌∷◌, ◌++◌, length, codes, decimal, slice_get, Some, None}
use Rattle.std.specs.List.{concat, flat_map}
use Rattle.race_records.specs.{declared.event.Op.{Op, TheVariants.{Read, Write}}, Events.TraceState}
use Rattle.race_model.specs.{Events.{count, is_access}, Verdict.{Race, Verdict, Illegal, Clean, Races}}
use Rattle.race_text.specs.{declared.cause.TextFault.TextFault, Text.{goroutine_name, var_name, place_text}}
use Rattle.race_edges.specs.declared.edge_list.Edge.{Edge}
use Rattle.race_report.specs.{Causes.cause_text, Rules.rule_text}

-- the end of a line
abbrev pub newline : List ℕ
newline = 10 ∷ []

-- a count between these words
unfoldable pub counted_line : List ℕ → ℕ → List ℕ → List ℕ
counted_line before n behind = concat (before ∷ decimal n ∷ behind ∷ newline ∷ [])

-- the line at fault, and its least cause
unfoldable pub fault_line : TextFault → List ℕ
fault_line fault = concat (codes "line " ∷ decimal fault.line ∷ codes ": " ∷ cause_text fault.cause ∷ newline ∷ [])

-- so many events are clean, of which so many are accesses
abbrev pub clean_text : ℕ → ℕ → List ℕ
clean_text events accesses =
    concat (codes "clean: " ∷ decimal events ∷ codes " events, " ∷ decimal accesses ∷ codes " accesses" ∷ newline ∷ [])

unfoldable pub clean_line : TraceState → List ℕ
clean_line trace = clean_text (length trace.events) (count is_access trace.events)

unfoldable pub illegal_line : ℕ → ℕ → List ℕ
illegal_line index rule = concat (codes "illegal: event " ∷ decimal (index + 1) ∷ codes ": " ∷ rule_text rule ∷ newline ∷ [])

-- what an access does, in a word
abbrev pub access_word : Op → List ℕ
access_word (Read x v) = codes "read"
access_word (Write x v) = codes "write"
access_word _ = []

-- an access: what it does, its goroutine, its place and its number
abbrev pub access_told : List ℕ → List ℕ → List ℕ → ℕ → List (List ℕ)
access_told what who place index =
    what ∷ codes " by " ∷ who ∷ codes " at " ∷ place ∷ codes " (event " ∷ decimal (index + 1) ∷ codes ")" ∷ []

-- the access at the index
unfoldable pub access_text : TraceState → ℕ → List (List ℕ)
access_text trace index =
    elim (slice_get trace.events index) [
      | None ↦ []
      | Some e ↦ access_told (access_word e.op) (goroutine_name trace.decls.declarations e.who) (place_text trace.decls.places e.place) index
    ]

-- two accesses that race on a variable
abbrev pub race_told : List ℕ → List (List ℕ) → List (List ℕ) → List ℕ
race_told var first second = concat (codes "race on " ∷ var ∷ codes ": " ∷ (first ++ codes ", " ∷ (second ++ newline ∷ [])))

unfoldable pub race_line : TraceState → Race → List ℕ
race_line trace race = race_told (var_name trace.decls.declarations race.var) (access_text trace race.first) (access_text trace race.second)

abbrev pub races_line : ℕ → List ℕ
races_line n = counted_line (codes "races: ") n []

-- a line for each race, and their count
abbrev pub races_text : TraceState → List Race → List ℕ
races_text trace races = flat_map (race_line trace) races ++ races_line (length races)

-- the report of a verdict on a trace
abbrev pub report : TraceState → Verdict → List ℕ
report trace (Illegal index rule) = illegal_line index rule
report trace Clean = clean_line trace
report trace (Races races) = races_text trace races

-- the event and the goroutine of an edge's begin, and those of its end
unfoldable pub edge_line : TraceState → Edge → List ℕ
edge_line trace edge =
    concat (codes "edge " ∷ decimal (edge.from + 1) ∷ codes " " ∷ goroutine_name trace.decls.declarations edge.from_who
    ∷ codes " " ∷ decimal (edge.to + 1) ∷ codes " " ∷ goroutine_name trace.decls.declarations edge.to_who ∷ newline ∷ [])

abbrev pub edges_line : ℕ → List ℕ
edges_line n = counted_line (codes "edges: ") n []

-- a line for each edge, and their count
abbrev pub edges_text : TraceState → List Edge → List ℕ
edges_text trace edges = flat_map (edge_line trace) edges ++ edges_line (length edges)
