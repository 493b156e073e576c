-- The line that is named is there, and has what is shown.
use Rattle.std.proofs.Common.{◌≡◌, ℕ, zero, suc, ◌+◌, ◌-◌, ◌<◌, ◌≤◌, List, [], ◌∷◌, ◌++◌, map, length, slice_get, Option, Some, None}
use Rattle.std.proofs.{Common.{ap, ◌∙◌, arith, length-append}, lemmas.{Option.{none-some, same_Some, slice_get-map, slice_get_within}, List.length-map}}
use Rattle.std.specs.Option.{option_map}
use Rattle.race_records.{specs.{declared.event.Event.Event, Events.TraceState}, proofs.ListLemmas.slice_get-within}
use Rattle.race_model.proofs.Indexes.{slice_get-append}
use Rattle.race_text.specs.{declared.cause.{TextCause.TextCause, TextFault.TextFault}, Words.parts_of}
use Rattle.race_text.specs.Text.{HasText, declaration_line, event_line, lines, text}
use Rattle.race_text.{specs.Lines.{Causes, or_later, fault_after, first_fault}, proofs.{TextLaws.lines_again, ParseLemmas.fault_from}}
use Rattle.race_explain.specs.{Shown.line_of, Marked.line_at}

-- an element of the second list
at_after : {X : Type 0} (xs ys : List X) (i k : ℕ) → k ≡ length xs + i → slice_get (xs ++ ys) k ≡ slice_get ys i
at_after [] ys i k same =
    let number : k ≡ i = omega (arith, same) in
    ap (slice_get ys) number
at_after (x ∷ xs) ys i zero same = absurd (omega (arith, same))
at_after (x ∷ xs) ys i (suc k) same = at_after xs ys i k (omega (arith, same))

module _ (t : TraceState) (has : HasText t) where
  declared : List (List ℕ)
  declared = map declaration_line t.decls.declarations

  happened : List (List ℕ)
  happened = map (event_line t.decls) t.events

  pub event_has_line : (i : ℕ) (e : Event) → slice_get t.events i ≡ Some e → line_at (text t) (line_of t i) ≡ Some (event_line t.decls e)
  unfolding lines declared happened
  event_has_line i e is =
      let n = length t.decls.declarations + i in
      let within : n < length (declared ++ happened) =
      omega (
        arith,
        slice_get_within t.events i e is,
        length-append declared happened,
        length-map t.decls.declarations declaration_line,
        length-map t.events (event_line t.decls),
      ) in
      ap (slice_get (parts_of (text t))) (number i)
      ∙ ap (λ (ps : List (List ℕ)). slice_get ps (suc n)) (lines_again t has)
      ∙ slice_get-append (declared ++ happened) ([] ∷ []) n within
      ∙ at_after declared happened i n (omega (arith, length-map t.decls.declarations declaration_line))
      ∙ slice_get-map (event_line t.decls) t.events i
      ∙ ap (option_map (event_line t.decls)) is
    where
      number : (i : ℕ) → line_of t i - 1 ≡ suc (length t.decls.declarations + i)
      number i = omega arith

-- the first fault is at a part of the text
module _ (causes : Causes) where
  fault_within : (parts before : List (List ℕ)) (f : TextFault) → fault_after causes before parts ≡ Some f → f.line ≤ length before + length parts
  unfolding fault_after
  fault_within [] before f h = absurd (none-some f h)
  fault_within (last ∷ []) before f h = by (causes.end before last) h
    where
      by : (o : Option TextCause) → or_later (length before + 1) o None ≡ Some f → f.line ≤ length before + length (last ∷ [])
      by None h = absurd (none-some f h)
      by (Some c) h =
          let same : length before + 1 ≡ f.line = ap (λ (x : TextFault). x.line) (same_Some (record { line = length before + 1; cause = c }) f h) in
          omega (arith, same)
  fault_within (line ∷ next ∷ others) before f h = by (causes.line before line) (fault_within (next ∷ others) (before ++ line ∷ []) f) h
    where
      by : (o : Option TextCause)
          → (fault_after causes (before ++ line ∷ []) (next ∷ others) ≡ Some f → f.line ≤ length (before ++ line ∷ []) + length (next ∷ others))
          → or_later (length before + 1) o (fault_after causes (before ++ line ∷ []) (next ∷ others)) ≡ Some f
          → f.line ≤ length before + length (line ∷ next ∷ others)
      by None later h = let within = later h in omega (arith, within, length-append before (line ∷ []))
      by (Some c) later h =
          let same : length before + 1 ≡ f.line = ap (λ (x : TextFault). x.line) (same_Some (record { line = length before + 1; cause = c }) f h) in
          omega (arith, same)

  pub fault_has_line : (bytes : List ℕ) (f : TextFault) → first_fault causes bytes ≡ Some f → (line : List ℕ) × (line_at bytes f.line ≡ Some line)
  unfolding first_fault
  fault_has_line bytes f h =
      let from = fault_from causes (parts_of bytes) [] f h in
      let to = fault_within (parts_of bytes) [] f h in
      slice_get-within (parts_of bytes) (f.line - 1) (omega (arith, from, to))
