-- Every list of bytes has a finding: its fault, or its trace with the verdict.
use Rattle.std.proofs.Common.{◌≡◌, ◌≤◌, ℕ, IsTrue, sym, ◌∙◌, Bool, true, false, nat_lt, List, length, Option, Some}
use Rattle.std.proofs.{Common.{None, refl, arith}, lemmas.Bool.Decides.nat_tests}
use Rattle.race_records.specs.Events.{TraceState}
use Rattle.race_text.specs.{declared.cause.TextFault.TextFault, Fault.text_fault, Text.IsTextOf}
use Rattle.race_text.proofs.Scanning.{faultless_is_text}
use Rattle.race_edges.{specs.declared.fault.TheConstants.MAX_PLAIN_EVENTS, proofs.EachHasAVerdict.judged}
use Rattle.race_tool.specs.Finding.{Finding, Faulty, TooLong, Judged, IsFinding}

pub a_finding : (plain : Bool) (bytes : List ℕ) → (f : Finding) × IsFinding plain bytes f
a_finding plain bytes = by (text_fault bytes) refl
  where
    judging : (t : TraceState) → IsTextOf t bytes → (IsTrue plain → length t.events ≤ MAX_PLAIN_EVENTS) → (f : Finding) × IsFinding plain bytes f
    judging t is short = let verdict = judged t is.has_text.is_trace in (Judged t verdict.0, (is, short, verdict.1))

    on : (t : TraceState) → IsTextOf t bytes → (p b : Bool) → plain ≡ p
        → nat_lt MAX_PLAIN_EVENTS (length t.events) ≡ b → (f : Finding) × IsFinding plain bytes f
    on t is true true plainly over = (TooLong (length t.events), (plainly, (t, is, refl, grind (arith, nat_tests))))
    on t is true false plainly short = judging t is (λ wanted. grind (arith, nat_tests))
    on t is false b plainly any = judging t is (λ wanted. let both : false ≡ true = sym plainly ∙ wanted in cc)

    by : (o : Option TextFault) → text_fault bytes ≡ o → (f : Finding) × IsFinding plain bytes f
    by (Some fault) h = (Faulty fault, h)
    by None h = let found = faultless_is_text bytes h in on found.0 found.1 plain (nat_lt MAX_PLAIN_EVENTS (length found.0.events)) refl refl
