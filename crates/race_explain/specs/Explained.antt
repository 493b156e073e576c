-- What an explanation is: a report, the events that it is about, and words on each, of which nothing is said here.
use Rattle.std.specs.Prelude.{ℕ, ◌≡◌, List, [], ◌∷◌, ◌++◌, MatchOption, ⊤}
use Rattle.race_records.specs.Events.{TraceState}
use Rattle.race_text.specs.declared.cause.TextFault.{TextFault}
use Rattle.race_verdict.specs.{declared.{races.Race.Race, verdict.Verdict.Verdict}, Verdicts.verdict_of}
use Rattle.race_report.specs.Report.{fault_line, report}
use Rattle.race_explain.specs.{Shown.{event_shown, race_shown}, Marked.{line_at, IsMarked}}

-- the text is this, and words after it
abbrev pub HasWordsAfter : List ℕ → List ℕ → Type 0
HasWordsAfter shown text = (words : List ℕ) × (text ≡ shown ++ words)

-- the event that breaks a rule is shown
abbrev pub IsIllegalShown : TraceState → ℕ → List ℕ → Type 0
IsIllegalShown trace at text = HasWordsAfter (event_shown trace at) text

-- both accesses of the race are shown
abbrev pub IsRaceShown : TraceState → Race → List ℕ → Type 0
IsRaceShown trace race text = HasWordsAfter (race_shown trace race) text

-- so are those of each race, in order
abbrev pub AreRacesShown : TraceState → List Race → List ℕ → Type 0
AreRacesShown trace [] text = text ≡ []
AreRacesShown trace (race ∷ races) text =
    (first : List ℕ) × (others : List ℕ) × IsRaceShown trace race first × AreRacesShown trace races others × (text ≡ first ++ others)

-- nothing is said of the text
abbrev pub IsAnything : List ℕ → Type 0
IsAnything text = ⊤

-- what was put after the bytes is so
abbrev pub IsPutAfter : (List ℕ → Type 0) → List ℕ → List ℕ → Type 0
IsPutAfter Holds before after = (text : List ℕ) × Holds text × (after ≡ before ++ text)

-- what is said after the report of a verdict
abbrev pub IsSaidOf : {A : Type 0} → TraceState → Verdict A → List ℕ → Type 0
IsSaidOf trace (Verdict.Illegal illegal) text = IsIllegalShown trace illegal.at text
IsSaidOf trace Verdict.Clean text = IsAnything text
IsSaidOf trace (Verdict.Races races) text = AreRacesShown trace races text

-- the text is the report of the verdict, and after it what is said of it
abbrev pub IsExplained : {A : Type 0} → TraceState → Verdict A → List ℕ → Type 0
IsExplained trace verdict text = IsPutAfter (IsSaidOf trace verdict) (report trace (verdict_of verdict)) text

-- the line of the fault is shown with a mark for its cause; where the bytes have no such line, nothing is
abbrev pub IsLineShown : List ℕ → TextFault → List ℕ → Type 0
IsLineShown bytes fault text = MatchOption (line_at bytes fault.line) (text ≡ []) (λ line. IsMarked fault.cause line text)

-- the text is the report of the fault, and words after it
abbrev pub IsFaultExplained : TextFault → List ℕ → Type 0
IsFaultExplained fault text = HasWordsAfter (fault_line fault) text

-- first of them is the line of the bytes that has the fault
abbrev pub IsFaultShown : List ℕ → TextFault → List ℕ → Type 0
IsFaultShown bytes fault text = IsPutAfter (IsLineShown bytes fault) (fault_line fault) text
