-- The rules of legality and their numbers.
use Rattle.std.specs.Prelude.{ℕ}
use Rattle.race_legal.specs.declared.rule.Rule.{Rule}

-- the number of a rule; the least broken one is told
abbrev pub number_of : Rule → ℕ
number_of Rule.AfterEnd = 1
number_of Rule.NotRunning = 2
number_of Rule.AlreadyStarted = 3
number_of Rule.MeetsItself = 4
number_of Rule.WrongForm = 5
number_of Rule.SendOnClosed = 6
number_of Rule.BufferFull = 7
number_of Rule.BufferEmpty = 8
number_of Rule.WrongValue = 9
number_of Rule.NotClosed = 10
number_of Rule.NotDrained = 11
number_of Rule.CloseOfClosed = 12
number_of Rule.Held = 13
number_of Rule.ReadHeld = 14
number_of Rule.NotHeld = 15
number_of Rule.NotReadHeld = 16
number_of Rule.OnceAgain = 17
number_of Rule.OnceNotInner = 18
number_of Rule.OnceNotDone = 19
number_of Rule.OnceOpen = 20
number_of Rule.StaleRead = 21
number_of Rule.CaseReady = 22
number_of Rule.NoFault = 23
