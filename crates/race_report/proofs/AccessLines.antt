-- The line of an access, from the words that are put into it.
use Rattle.std.proofs.Common.{◌≡◌, ℕ, ◌+◌, ◌<◌, List, [], ◌∷◌, ◌++◌, length, codes, decimal, slice_get, Option, Some}
use Rattle.std.{proofs.Common.{None, IfSome, sym}, specs.List.concat}
use Rattle.race_records.{specs.{declared.event.Event.Event, Events.TraceState}, proofs.ListLemmas.slice_get-within}
use Rattle.race_text.specs.Text.{goroutine_name}
use Rattle.race_report.specs.{Report.{access_word, newline}, Witness.{accessed_name, access_line}}

-- the words are those of the access at the index
abbrev pub AreLineWordsOf : TraceState → ℕ → List ℕ → List ℕ → List ℕ → Type 0
AreLineWordsOf trace index what who var =
    IfSome (slice_get trace.events index) (λ (e : Event). (what ≡ access_word e.op)
    × (who ≡ goroutine_name trace.decls.declarations e.who) × (var ≡ accessed_name trace.decls.declarations e.op))

pub access_line_is : (trace : TraceState) (index : ℕ) (what who var number : List ℕ) → index < length trace.events → AreLineWordsOf trace index what who var
    → number ≡ decimal (index + 1)
    → access_line trace index ≡ number ++ (codes " " ++ (what ++ (codes " " ++ (who ++ (codes " " ++ (var ++ (newline ++ [])))))))
unfolding access_line
access_line_is trace index what who var number within words numbered = by (slice_get trace.events index) (slice_get-within trace.events index within) words
  where
    by : (o : Option Event) → (x : Event) × (o ≡ Some x)
        → IfSome o (λ (e : Event). (what ≡ access_word e.op)
        × (who ≡ goroutine_name trace.decls.declarations e.who) × (var ≡ accessed_name trace.decls.declarations e.op))
        → elim o as (λ _. List ℕ) [
          | None ↦ []
          | Some e ↦ concat (decimal (index + 1) ∷ codes " " ∷ access_word e.op ∷ codes " " ∷ goroutine_name trace.decls.declarations e.who
              ∷ codes " " ∷ accessed_name trace.decls.declarations e.op ∷ newline ∷ [])
        ]
        ≡ number ++ (codes " " ++ (what ++ (codes " " ++ (who ++ (codes " " ++ (var ++ (newline ++ [])))))))
    by None (x, e) w = cc
    by (Some e) x w = λ i. sym numbered i ++ (codes " " ++ (sym w.0 i ++ (codes " " ++ (sym w.1 i ++ (codes " " ++ (sym w.2 i ++ (newline ++ [])))))))
