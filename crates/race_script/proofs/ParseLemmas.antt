-- A program's text whose last part has no cause: nothing is left, and all bodies have ended.
use Rattle.std.proofs.Common.{◌≡◌, ℕ, ◌<◌, ◌==◌, ◌&&◌, nat_lt, Bool, true, false, if◌then◌else◌, List, [], ◌∷◌, length}
use Rattle.std.proofs.{Common.{Option, Some, None, refl, sym, arith}, lemmas.{Bool.Decides.nat_tests, Option.none-some}}
use Rattle.race_records.specs.declared.version.Version.{Version}
use Rattle.race_text.{specs.{declared.cause.TextCause.TextCause, Fault.header_cause}, proofs.WordLemmas.both}
use Rattle.race_script.specs.{Fault.{cause, end_cause, is_whole}, Program.Draft, Reader.lines_by}
use Rattle.race_script.specs.Reading.{version_said, seen}

-- a part that no newline ends is at fault where it is a line
unended : (before : List (List ℕ)) (last : List ℕ) → cause before last false ≡ None → ⊥
unfolding cause
unended [] last h = by (version_said last) h
  where
    by : (o : Option Version) → header_cause o false ≡ None → ⊥
    by (Some version) h = none-some TextCause.NoNewline (sym h)
    by None h = none-some TextCause.BadHeader (sym h)
unended (first ∷ before) last h = none-some TextCause.NoNewline (sym h)

-- where nothing is wrong at the end, no byte is left, and all bodies have ended
pub end_empty : (before : List (List ℕ)) (last : List ℕ) → end_cause before last ≡ None
    → (length last ≡ 0) × (0 < length before) × (is_whole (seen before) ≡ true)
unfolding end_cause
end_empty before last h = by ((length last == 0) && nat_lt 0 (length before)) refl h
  where
    ends : (w : Bool) → (if w then None else Some TextCause.BadBlock) ≡ None → w ≡ true
    ends true h = refl
    ends false h = absurd (none-some TextCause.BadBlock (sym h))

    by : (b : Bool) → ((length last == 0) && nat_lt 0 (length before)) ≡ b
        → (if b then (if is_whole (seen before) then None else Some TextCause.BadBlock) else cause before last false) ≡ None
        → (length last ≡ 0) × (0 < length before) × (is_whole (seen before) ≡ true)
    by true e h =
        let p = both (length last == 0) (nat_lt 0 (length before)) e in
        let a = p.0 in
        let b = p.1 in
        (grind (arith, nat_tests, a), grind (arith, nat_tests, b), ends (is_whole (seen before)) h)
    by false e h = absurd (unended before last h)

-- an end without a cause stands behind the header
pub header_before_end : (has_header : Bool) (d : Draft) (last : List ℕ) → end_cause (lines_by has_header d) last ≡ None → has_header ≡ true
header_before_end true d last h = refl
header_before_end false d last h = let e = end_empty [] last h in let some = e.1 in absurd (omega (arith, some))
