-- A text that is read part by part: what is left of it, and its first fault.
use Rattle.std.proofs.Common.{◌≡◌, ◌≢◌, ◌⊎◌, inl, inr, ℕ, ◌+◌, ◌<◌, ◌≤◌, ◌==◌, ◌&&◌, nat_lt, Bool, true, false}
use Rattle.std.proofs.Common.{if◌then◌else◌, List, [], ◌∷◌, ◌++◌, length, Option, Some, None, refl, sym, ap, subst, ◌∙◌}
use Rattle.std.proofs.{Common.{arith, append-nil, append_assoc}, lemmas.{Bool.Decides.nat_tests, List.length-append}}
use Rattle.std.proofs.lemmas.List.Splits.{join_with_byte-slice_split, length-slice_split}
use Rattle.std.{proofs.lemmas.Option.{none-some, same_Some}, specs.List.join_with_byte}
use Rattle.race_records.specs.{declared.version.Version.Version, Declarations.DeclsState, Events.TraceState}
use Rattle.race_text.specs.{declared.cause.{TextCause.TextCause, TextFault.TextFault}, Words.parts_of, Text.lines}
use Rattle.race_text.specs.{Lines.{Causes, or_later, fault_after}, Fault.{version_said, header_cause, cause, end_cause}}
use Rattle.race_text.{specs.Reader.lines_read, proofs.WordLemmas.both}

abbrev pub told : ℕ → TextCause → TextFault
told line c = record { line = line; cause = c }

-- a fault is none of the lines before
pub or_later_from : (n : ℕ) (o : Option TextCause) (later : Option TextFault) (f : TextFault) → or_later n o later ≡ Some f
    → ((g : TextFault) → later ≡ Some g → n ≤ g.line) → n ≤ f.line
or_later_from n None later f h rest = rest f h
or_later_from n (Some c) later f h rest = let same : n ≡ f.line = ap (λ (x : TextFault). x.line) (same_Some (told n c) f h) in omega (arith, same)

memory_or_not : (c : TextCause) → (c ≡ TextCause.OutOfMemory) ⊎ (c ≢ TextCause.OutOfMemory)
memory_or_not TextCause.OutOfMemory = inl refl
memory_or_not _ = inr (λ e. cc)

-- of a text without a fault nothing is told but want of memory
pub only_memory : (fault : Option TextFault) (told : TextFault) → (told.cause ≢ TextCause.OutOfMemory → fault ≡ Some told) → fault ≡ None
    → told.cause ≡ TextCause.OutOfMemory
only_memory fault told is_fault none = elim (memory_or_not told.cause) [
  | inl memory ↦ memory
  | inr other ↦ absurd (none-some told (sym none ∙ is_fault other))
]

-- where a fault is none, neither the first cause is one, nor a later fault
or_later_none : (n : ℕ) (o : Option TextCause) (later : Option TextFault) → or_later n o later ≡ None → (o ≡ None) × (later ≡ None)
or_later_none n None later h = (refl, h)
or_later_none n (Some c) later h = absurd (none-some (told n c) (sym h))

module _ (causes : Causes) where
  -- a part behind which another stands
  pub fault_step : (before : List (List ℕ)) (line : List ℕ) (parts : List (List ℕ)) → 0 < length parts
      → fault_after causes before (line ∷ parts)
      ≡ or_later (length before + 1) (causes.line before line) (fault_after causes (before ++ line ∷ []) parts)
  unfolding fault_after
  fault_step before line [] h = absurd (omega arith)
  fault_step before line (next ∷ others) h = refl

  -- the last part
  pub fault_end : (before : List (List ℕ)) (last : List ℕ)
      → fault_after causes before (last ∷ []) ≡ or_later (length before + 1) (causes.end before last) None
  unfolding fault_after
  fault_end before last = refl

  pub fault_from : (parts before : List (List ℕ)) (f : TextFault) → fault_after causes before parts ≡ Some f → length before + 1 ≤ f.line
  unfolding fault_after
  fault_from [] before f h = absurd (none-some f h)
  fault_from (last ∷ []) before f h = or_later_from (length before + 1) (causes.end before last) None f h (λ g e. absurd (none-some g e))
  fault_from (line ∷ next ∷ others) before f h =
      or_later_from (length before + 1) (causes.line before line) (fault_after causes (before ++ line ∷ []) (next ∷ others)) f h
      (λ g e. let later = fault_from (next ∷ others) (before ++ line ∷ []) g e in omega (arith, later, length-append before (line ∷ [])))

  -- where there is no fault, the line in front has no cause, and what stands behind it has no fault
  pub none_step : (before : List (List ℕ)) (line : List ℕ) (parts : List (List ℕ)) → 0 < length parts → fault_after causes before (line ∷ parts) ≡ None
      → (causes.line before line ≡ None) × (fault_after causes (before ++ line ∷ []) parts ≡ None)
  none_step before line parts some none =
      or_later_none (length before + 1) (causes.line before line) (fault_after causes (before ++ line ∷ []) parts)
      (sym (fault_step before line parts some) ∙ none)

  pub none_end : (before : List (List ℕ)) (last : List ℕ) → fault_after causes before (last ∷ []) ≡ None → causes.end before last ≡ None
  none_end before last none = (or_later_none (length before + 1) (causes.end before last) None (sym (fault_end before last) ∙ none)).0

  -- no cause holds at any of the lines, each behind those before it
  abbrev pub AreFine : List (List ℕ) → List (List ℕ) → Type 0
  AreFine before [] = Unit
  AreFine before (l ∷ ls) = (causes.line before l ≡ None) × AreFine (before ++ l ∷ []) ls

  pub fine_both : (before xs ys : List (List ℕ)) → AreFine before xs → AreFine (before ++ xs) ys → AreFine before (xs ++ ys)
  fine_both before [] ys h k = subst (λ b. AreFine b ys) (append-nil before) k
  fine_both before (x ∷ xs) ys h k = (h.0, fine_both (before ++ x ∷ []) xs ys h.1 (subst (λ b. AreFine b ys) (sym (append_assoc before (x ∷ []) xs)) k))

  -- fine lines, each ended by a newline, have no fault, where the text may end behind them
  pub fine_lines : (before ls : List (List ℕ)) → causes.end (before ++ ls) [] ≡ None → AreFine before ls → fault_after causes before (ls ++ [] ∷ []) ≡ None
  fine_lines before [] last fine =
      fault_end before [] ∙ ap (λ o. or_later (length before + 1) o None) (ap (λ b. causes.end b []) (sym (append-nil before)) ∙ last)
  fine_lines before (l ∷ ls) last fine =
      fault_step before l (ls ++ [] ∷ []) (omega (arith, length-append ls ([] ∷ [])))
      ∙ (λ j. or_later (length before + 1) (fine.0 j)
      (fine_lines (before ++ l ∷ []) ls (ap (λ b. causes.end b []) (append_assoc before (l ∷ []) ls) ∙ last) fine.1 j))

-- a part that no newline ends is at fault where it is a line
unended : (before : List (List ℕ)) (last : List ℕ) → cause before last false ≡ None → ⊥
unfolding cause
unended [] last h = by (version_said last) h
  where
    by : (v : Option Version) → header_cause v false ≡ None → ⊥
    by (Some version) h = none-some TextCause.NoNewline (sym h)
    by None h = none-some TextCause.BadHeader (sym h)
unended (first ∷ before) last h = none-some TextCause.NoNewline (sym h)

pub end_empty : (before : List (List ℕ)) (last : List ℕ) → end_cause before last ≡ None → (length last ≡ 0) × (0 < length before)
end_empty before last h = by ((length last == 0) && nat_lt 0 (length before)) refl h
  where
    by : (b : Bool) → ((length last == 0) && nat_lt 0 (length before)) ≡ b → (if b then None else cause before last false) ≡ None
        → (length last ≡ 0) × (0 < length before)
    by true e h = let p = both (length last == 0) (nat_lt 0 (length before)) e in
        let a = p.0 in let b = p.1 in (grind (arith, nat_tests, a), grind (arith, nat_tests, b))
    by false e h = absurd (unended before last h)

pub no_bytes : (last : List ℕ) → length last ≡ 0 → last ≡ []
no_bytes [] h = refl
no_bytes (b ∷ bs) h = absurd (omega (arith, h))

some_line : (t : TraceState) → nat_lt 0 (length (lines t)) ≡ true
unfolding lines
some_line t = grind (arith, nat_tests)

-- the cause of the last part, by what was read
pub end_behind : (t : TraceState) (last : List ℕ) (b : Bool) → (length last == 0) ≡ b
    → end_cause (lines t) last ≡ (if b then None else Some TextCause.NoNewline)
unfolding lines cause
end_behind t last true e = (λ i. if e i && nat_lt 0 (length (lines t)) then None else Some TextCause.NoNewline)
    ∙ ap (λ b. if b then None else Some TextCause.NoNewline) (some_line t)
end_behind t last false e = λ i. if e i && nat_lt 0 (length (lines t)) then None else Some TextCause.NoNewline

end_first : (last : List ℕ) → end_cause [] last ≡ cause [] last false
end_first last = by (length last == 0)
  where
    by : (b : Bool) → (if b && nat_lt 0 0 then None else cause [] last false) ≡ cause [] last false
    by true = refl
    by false = refl

pub end_header : (last : List ℕ) (version : Version) → version_said last ≡ Some version → end_cause [] last ≡ Some TextCause.NoNewline
unfolding cause
end_header last version h = end_first last ∙ ap (λ v. header_cause v false) h

pub end_other : (last : List ℕ) → version_said last ≡ None → end_cause [] last ≡ Some TextCause.BadHeader
unfolding cause
end_other last h = end_first last ∙ ap (λ v. header_cause v false) h

-- an end without a cause stands behind the header
pub header_before_end : (has_header : Bool) (decls : DeclsState) (trace : Option TraceState) (last : List ℕ)
    → end_cause (lines_read has_header decls trace) last ≡ None → has_header ≡ true
header_before_end true decls trace last h = refl
header_before_end false decls trace last h = let e = end_empty [] last h in let some = e.1 in absurd (omega (arith, some))

-- a part that a newline ends
pub cut_joined : (left part others : List ℕ) → parts_of left ≡ part ∷ parts_of others → left ≡ part ++ 10 ∷ others
cut_joined left part others e = sym (join_with_byte-slice_split 10 left)
    ∙ ap (join_with_byte 10) e ∙ by (parts_of others) some (join_with_byte-slice_split 10 others)
  where
    some : 0 < length (parts_of others)
    some = let l = length-slice_split (λ b. b == 10) others in omega (arith, l)

    by : (ps : List (List ℕ)) → 0 < length ps → join_with_byte 10 ps ≡ others → join_with_byte 10 (part ∷ ps) ≡ part ++ 10 ∷ others
    by [] h e = absurd (omega arith)
    by (p ∷ ps) h e = ap (λ l. part ++ 10 ∷ l) e
