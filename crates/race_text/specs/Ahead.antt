-- Lines that were read before the ones in front of them were taken. (Our own)
use Rattle.std.specs.Prelude.{◌≡◌, ℕ, ◌≤◌, List, All, drop, length, slice_get, Some, None, Vec}
use Rattle.race_records.specs.Declarations.{Declaration}
use Rattle.race_text.specs.declared.{ahead.LineAhead.LineAhead, common.Said.Said, stream.EventStream.EventStream}
use Rattle.race_text.specs.{Reading.occurrence, Common.{SaysEvent, op_of}, Stream.{Known, decls_of}}

-- between its start and its end the line says this event, and its place has this number in the table
pub record IsAhead (ds : List Declaration) (places : List (List ℕ)) (bytes : List ℕ) (line : LineAhead) : Type 0 where
  pub place : List ℕ
  pub number : slice_get places line.place ≡ Some place
  pub says : SaysEvent ds (drop line.start bytes) (occurrence line.who (op_of line.deed) (place, None)) (drop line.end bytes)
  pub within : line.end ≤ length bytes

-- what is kept of a line that says this
abbrev pub ahead_of : Said → ℕ → ℕ → ℕ → LineAhead
ahead_of said place start end = record { who = said.who; deed = said.deed; place = place; start = start; end = end }

-- each line is so by what the stream has read
abbrev pub AreAhead : {A : Type 0} → EventStream A → List ℕ → List LineAhead → Type 0
AreAhead s bytes lines = All (IsAhead (decls_of s).declarations (decls_of s).places bytes) lines

-- or by what is known of a stream
pub record IsKnownAhead (k : Known) (bytes : List ℕ) (line : LineAhead) : Type 0 where
  pub declared : List Declaration
  pub known : k.declared ≡ Some declared
  pub ahead : IsAhead declared k.places bytes line

-- each line of each list is so
abbrev pub AreKnownAhead : {A : Type 0} → Known → List ℕ → List (Vec LineAhead A) → Type 0
AreKnownAhead k bytes lists = All (λ lines. All (IsKnownAhead k bytes) lines.items) lists
