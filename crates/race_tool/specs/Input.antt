-- How an input was read: block by block, to its end or to its first faulty line, by the causes of its kind of text.
use Rattle.std.specs.Prelude.{◌≡◌, ◌≢◌, ℕ, ◌<◌, ◌≤◌, Bool, true, false, IsTrue, List, ◌++◌, length, Option, Some, None}
use Rattle.std.specs.{Prelude.{Result, Ok, Err, IfOk, OnOk, MatchBool, MatchResult}, Io.KnownBytes.{Consumes, IsAtEnd}}
use Rattle.race_records.specs.{declared.source.Source.Source, Devices.{unread, source_reads, source_failures, more_by}}
use Rattle.race_records.specs.{Devices.one_more, Events.TraceState}
use Rattle.race_text.specs.{declared.{cause.TextFault.TextFault, fed.Fed.Fed}, Text.IsTextOf}
use Rattle.race_text.specs.{Lines.{Causes, first_fault}, Fault.trace_causes, Fed.{IsBetween, ended_fault}}
use Rattle.race_tool.specs.declared.input.{ReadFault.ReadFault, TheConstants.{BLOCK, MAX_TURNS}}

-- a block has room for some bytes, and not for too many
abbrev pub IsRoom : ℕ → Type 0
IsRoom room = (0 < room) × (room ≤ BLOCK)

-- the first faulty line ends in the last bytes that were read, as many as a block has at most
pub record StopsAtFault (causes : Causes) (bytes : List ℕ) : Type 0 where
  pub front : List ℕ
  pub block : List ℕ
  pub bytes_are : bytes ≡ front ++ block
  pub short : length block ≤ BLOCK
  pub fine : ended_fault causes front ≡ None
  pub fault : TextFault
  pub faulty : ended_fault causes bytes ≡ Some fault

-- these bytes were read: to the end of the input, and no line that a newline ends is at fault, or up to the block in
-- which the first faulty line ends
pub record Reads (causes : Causes) (before after : Option (List ℕ)) (bytes : List ℕ) (to_end : Bool) : Type 0 where
  pub consumed : Consumes before after bytes
  pub stops : MatchBool to_end (IsAtEnd after × (ended_fault causes bytes ≡ None)) (StopsAtFault causes bytes)

-- an input of which these bytes were read: to its end, or else anything may follow them
abbrev pub IsInput : List ℕ → Bool → List ℕ → Type 0
IsInput bytes true whole = whole ≡ bytes
IsInput bytes false whole = (rest : List ℕ) × (whole ≡ bytes ++ rest)

-- a reader has told no fault, and its grammar stands for some lines
pub record IsBetweenFine {G A : Type 0} (Stands : G → List (List ℕ) → Type 0) (k : Fed G A) : Type 0 where
  pub fine : k.fault ≡ None
  pub between : IsBetween (Stands k.lines.reader) k.lines.part.items

module _ {V : Type 0} (IsText : V → List ℕ → Type 0) (causes : Causes) where
  -- the bytes are the text of that, or else this is their first fault
  abbrev pub IsReadBy : List ℕ → Result V TextFault → Type 0
  IsReadBy bytes (Ok value) = IsText value bytes
  IsReadBy bytes (Err fault) = first_fault causes bytes ≡ Some fault

  -- the input was read as a text, which needs its end, or with its first fault
  pub record ReadsBy (before after : Option (List ℕ)) (text : Result V TextFault) : Type 0 where
    pub bytes : List ℕ
    pub to_end : Bool
    pub read : Reads causes before after bytes to_end
    pub is_so : (whole : List ℕ) → IsInput bytes to_end whole → IsReadBy whole text
    pub all : OnOk text (IsTrue to_end)

-- and what was read is kept
abbrev pub ReadsByKept : {K V : Type 0} → (K → List ℕ → Type 0) → K → (V → List ℕ → Type 0) → Causes → Option (List ℕ) → Option (List ℕ)
    → Result V TextFault → Type 0
ReadsByKept HasKept kept IsText causes before after text = (was : ReadsBy IsText causes before after text) × HasKept kept was.bytes

-- the bytes are the text of this trace, or else this is their first fault
abbrev pub IsReadAs : List ℕ → Result TraceState TextFault → Type 0
IsReadAs bytes text = IsReadBy IsTextOf trace_causes bytes text

-- the bytes were read, and they were all that was left
pub record ReadsAll (before after : Option (List ℕ)) (bytes : List ℕ) : Type 0 where
  pub consumed : Consumes before after bytes
  pub at_end : IsAtEnd after

-- some bytes were read, and no line that a newline ends is at fault in them
pub record ReadsFine (causes : Causes) (before after : Option (List ℕ)) : Type 0 where
  pub bytes : List ℕ
  pub consumed : Consumes before after bytes
  pub fine : ended_fault causes bytes ≡ None

-- the reader was read as often as an input may be, together the reads gave as many bytes at least, and no line that a newline ends is
-- at fault in them
pub record ReadsMany {R : Type 0} (causes : Causes) (remaining : R → Option (List ℕ)) (source source_now : Source R) : Type 0 where
  pub reads : source_reads source_now ≡ more_by MAX_TURNS (source_reads source)
  pub bytes : List ℕ
  pub consumed : Consumes (unread remaining source) (unread remaining source_now) bytes
  pub many : MAX_TURNS ≤ length bytes
  pub fine : ended_fault causes bytes ≡ None

-- What reading an input gives: the text or its first fault, which device failed, and what was read before it failed or was given up.
pub record ReadsInput {R V : Type 0} (IsText : V → List ℕ → Type 0) (causes : Causes) (remaining : R → Option (List ℕ))
    (source source_now : Source R) (result : Result (Result V TextFault) ReadFault) : Type 0 where
  pub ok : IfOk result (λ text. ReadsBy IsText causes (unread remaining source) (unread remaining source_now) text)
  pub calm : result ≢ Err ReadFault.Failed → source_failures source_now ≡ source_failures source
  pub failed : result ≡ Err ReadFault.Failed → source_failures source_now ≡ one_more (source_failures source)
  pub fine : result ≡ Err ReadFault.Failed → ReadsFine causes (unread remaining source) (unread remaining source_now)
  pub endless : result ≡ Err ReadFault.Endless → ReadsMany causes remaining source source_now

-- and what was read is kept
pub record ReadsAndKeeps {K R V : Type 0} (HasKept : K → List ℕ → Type 0) (kept : K) (IsText : V → List ℕ → Type 0) (causes : Causes)
    (remaining : R → Option (List ℕ)) (source source_now : Source R) (result : Result (Result V TextFault) ReadFault) : Type 0 where
  pub reads : ReadsInput IsText causes remaining source source_now result
  pub keeps : IfOk result (ReadsByKept HasKept kept IsText causes (unread remaining source) (unread remaining source_now))

-- so many blocks were read and fed to a reader, which stands for them, and no line that a newline ends is at fault
pub record HasRead (causes : Causes) (start now : Option (List ℕ)) (StandsFor : List ℕ → Type 0) (turns : ℕ) : Type 0 where
  pub bytes : List ℕ
  pub consumed : Consumes start now bytes
  pub stands : StandsFor bytes
  pub many : turns ≤ length bytes
  pub fine : ended_fault causes bytes ≡ None

-- and what was read is all that there is
pub record HasReadAll (causes : Causes) (start now : Option (List ℕ)) (StandsFor : List ℕ → Type 0) : Type 0 where
  pub turns : ℕ
  pub read : HasRead causes start now StandsFor turns
  pub at_end : IsAtEnd now

-- what is known of one more block, as its lines were told: fine, with whether there were bytes, or with the first fault
abbrev pub IsToldOf : Causes → (List ℕ → Type 0) → Option (List ℕ) → List ℕ → Result Bool TextFault → Type 0
IsToldOf causes StandsFor after taken answer =
    MatchResult answer
    (λ more. ((fed : List ℕ) → StandsFor fed → ended_fault causes (fed ++ taken) ≡ None) × MatchBool more (0 < length taken) (IsAtEnd after))
    (λ told. (fed : List ℕ) → StandsFor fed → ended_fault causes (fed ++ taken) ≡ Some told)

-- one read was fed to a reader of lines, which stood for some bytes, and stands for them with these behind
pub record FeedsMore (causes : Causes) (before after : Option (List ℕ)) (StoodFor StandsFor : List ℕ → Type 0) (answer : Result Bool TextFault) : Type 0 where
  pub taken : List ℕ
  pub short : length taken ≤ BLOCK
  pub consumed : Consumes before after taken
  pub goes_on : (fed : List ℕ) → StoodFor fed → StandsFor (fed ++ taken)
  pub told : IsToldOf causes StoodFor after taken answer

-- and its bytes are kept behind those that were
pub record FeedsAndKeeps {K : Type 0} (HasKept : K → List ℕ → Type 0) (kept kept_now : K) (causes : Causes) (before after : Option (List ℕ))
    (StoodFor StandsFor : List ℕ → Type 0) (answer : Result Bool TextFault) : Type 0 where
  pub feeds : FeedsMore causes before after StoodFor StandsFor answer
  pub keeps : (front : List ℕ) → HasKept kept front → HasKept kept_now (front ++ feeds.taken)
