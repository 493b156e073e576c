-- What is said of a list of events: that it is legal, or which event is the first to break a rule.
use Rattle.std.specs.Prelude.{ℕ, List, Option, Some, None}
use Rattle.race_records.specs.declared.event.Event.{Event}
use Rattle.race_model.specs.Legal.{IsLegal, IsIllegalAt}
use Rattle.race_legal.specs.{declared.legality.Illegal.Illegal, Rules.number_of}

-- the list is legal, or the first event that breaks a rule is told, with the least rule that it breaks
abbrev pub IsJudged : (ℕ → ℕ) → List Event → Option Illegal → Type 0
IsJudged caps events None = IsLegal caps events
IsJudged caps events (Some illegal) = IsIllegalAt caps events illegal.at (number_of illegal.rule)
