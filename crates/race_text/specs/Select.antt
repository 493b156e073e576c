-- The words of the cases of a select, and of why a run failed: how they are spelled, before any name is looked up.
use Rattle.std.specs.Prelude.{ℕ, ◌==◌, if◌then◌else◌, List, [], ◌∷◌, length, map, take, drop, codes, Option, Some, None}
use Rattle.std.specs.{List.slice_split, Str.bytes_eq}
use Rattle.race_records.specs.declared.{cases.Dir.Dir, event.Cause.{Cause, TheVariants.{SendClosed, CloseClosed}}}
use Rattle.race_records.specs.declared.{event.Cause.TheVariants.{UnlockFree, RUnlockFree}, kind.Kind.Kind}
use Rattle.race_records.specs.{declared.{kind.Named.Named, operands.OperandKind.OperandKind}, Declarations.number_of}
use Rattle.race_text.specs.declared.select.{Attempt.Attempt, TheConstants.ATTEMPTS}

-- the word of no case
abbrev pub no_cases : List ℕ
no_cases = codes "-"

-- the word of a channel that is nil
abbrev pub nil : List ℕ
nil = codes "nil"

-- the word of a close of a nil channel
abbrev pub close_nil : List ℕ
close_nil = codes "close:nil"

-- the pieces of a word: it is cut at every comma
abbrev pub pieces_of : List ℕ → List (List ℕ)
pieces_of word = slice_split (λ byte. byte == 44) word

-- what stands behind the front, where the word begins so
abbrev pub behind : List ℕ → List ℕ → Option (List ℕ)
behind front word = if bytes_eq (take (length front) word) front then Some (drop (length front) word) else None

-- what a case would do, and the word of its channel
abbrev pub SpelledCase : Type 0
SpelledCase = Dir × List ℕ

-- by what stands behind each front
abbrev pub case_by : Option (List ℕ) → Option (List ℕ) → Option SpelledCase
case_by (Some sent) received = Some (Dir.Send, sent)
case_by None (Some received) = Some (Dir.Recv, received)
case_by None None = None

-- a case as it is spelled
abbrev pub case_spelled : List ℕ → Option SpelledCase
case_spelled word = case_by (behind (codes "send:") word) (behind (codes "recv:") word)

-- what the run failed at, and the name of the object
abbrev pub SpelledFailure : Type 0
SpelledFailure = Attempt × List ℕ

-- the failure whose front the word begins with, and else a later one
abbrev pub failure_by : Attempt → Option (List ℕ) → Option SpelledFailure → Option SpelledFailure
failure_by attempt (Some name) later = Some (attempt, name)
failure_by attempt None later = later

-- by the fronts of a table
abbrev pub failure_among : List (List ℕ × Attempt) → List ℕ → Option SpelledFailure
failure_among [] word = None
failure_among (entry ∷ entries) word = failure_by entry.1 (behind entry.0 word) (failure_among entries word)

-- a failure as it is spelled, by the table of attempts in src/select.rt
abbrev pub failure_spelled : List ℕ → Option SpelledFailure
failure_spelled word = failure_among (map (λ entry. (entry.0.now, entry.1)) ATTEMPTS) word

-- what this can fail at
abbrev pub kind_tried : Attempt → OperandKind
kind_tried Attempt.Send = OperandKind.Object Kind.Chan
kind_tried Attempt.Close = OperandKind.Object Kind.Chan
kind_tried Attempt.Unlock = OperandKind.Object Kind.Lock
kind_tried Attempt.RUnlock = OperandKind.RwMutex

-- the cause of a run that failed when it tried this with the object
abbrev pub cause_by : Attempt → Named → Cause
cause_by Attempt.Send named = SendClosed (number_of named)
cause_by Attempt.Close named = CloseClosed (number_of named)
cause_by Attempt.Unlock named = UnlockFree (number_of named)
cause_by Attempt.RUnlock named = RUnlockFree (number_of named)
