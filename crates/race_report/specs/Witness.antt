-- The lines of a witness: its accesses in their order, and how many there are. Events are printed with numbers from 1.
use Rattle.std.specs.Prelude.{ℕ, ◌+◌, List, [], ◌∷◌, ◌++◌, length, codes, decimal, slice_get, Some, None}
use Rattle.std.specs.List.{concat, flat_map}
use Rattle.race_records.specs.{declared.event.Op.{Op, TheVariants.{Read, Write}}, Declarations.Declaration}
use Rattle.race_records.specs.Events.{TraceState}
use Rattle.race_text.specs.Text.{goroutine_name, var_name}
use Rattle.race_report.specs.Report.{access_word, counted_line, newline}

-- the name of the variable that is accessed
abbrev pub accessed_name : List Declaration → Op → List ℕ
accessed_name ds (Read x v) = var_name ds x
accessed_name ds (Write x v) = var_name ds x
accessed_name ds _ = []

-- an access with its number, its goroutine and its variable
unfoldable pub access_line : TraceState → ℕ → List ℕ
access_line trace index =
    elim (slice_get trace.events index) [
      | None ↦ []
      | Some e ↦
          concat (decimal (index + 1) ∷ codes " " ∷ access_word e.op ∷ codes " " ∷ goroutine_name trace.decls.declarations e.who
          ∷ codes " " ∷ accessed_name trace.decls.declarations e.op ∷ newline ∷ [])
    ]

abbrev pub witness_line : ℕ → List ℕ
witness_line n = counted_line (codes "witness: ") n (codes " accesses")

-- a line for each access, and their count
abbrev pub witness_text : TraceState → List ℕ → List ℕ
witness_text trace order = flat_map (access_line trace) order ++ witness_line (length order)
