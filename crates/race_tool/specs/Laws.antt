-- The laws of the report. Each is the contract of a function in src/laws.rt that does nothing.
use Rattle.std.specs.Prelude.{ℕ, ◌≡◌, ◌≢◌, Bool, true, false, List}
use Rattle.race_tool.specs.declared.status.TheConstants as status
use Rattle.race_tool.specs.Finding.{Finding, IsFinding, report_of, status_of}

-- there is a right finding for the bytes
abbrev pub HasFinding : Bool → List ℕ → Type 0
HasFinding plain bytes = (f : Finding) × IsFinding plain bytes f

-- the bytes have at most one report and one status, whichever finding is right for them
abbrev pub HasOneReport : Bool → List ℕ → Type 0
HasOneReport plain bytes =
    (f g : Finding) → IsFinding plain bytes f → IsFinding plain bytes g
    → (report_of f ≡ report_of g) × (status_of f ≡ status_of g)

-- unless they are too long for the plain judge, they have the same report with it and without it
abbrev pub HasOneReportByBothJudges : List ℕ → Type 0
HasOneReportByBothJudges bytes =
    (f g : Finding) → IsFinding true bytes f → IsFinding false bytes g → status_of f ≢ status.USAGE
    → (report_of f ≡ report_of g) × (status_of f ≡ status_of g)
