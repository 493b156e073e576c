-- How an engine ends: what was read, what was written, and which device failed.
use Rattle.std.specs.Prelude.{ℕ, ◌≡◌, ◌≢◌, ◌⊎◌, ◌&&◌, nat_le, Bool, List, Option, Result, Err, IfOk, MatchResult, ⊤}
use Rattle.std.specs.Io.KnownBytes.{Appends}
use Rattle.race_records.specs.{declared.{source.Source.Source, sink.{Sink.Sink, WriteFault.WriteFault}}, Devices.{unread, written}}
use Rattle.race_records.specs.{Devices.{source_failures, sink_failures, one_more}, Page.IsCutOff}
use Rattle.race_tool.specs.declared.{check.CheckOptions.CheckOptions, engine.Unanswered.Unanswered}
use Rattle.race_tool.specs.{declared.input.ReadFault.ReadFault, Input.{Reads, ReadsAll, ReadsFine, ReadsMany, IsInput}}
use Rattle.race_shards.specs.declared.fault.TheConstants.{MAX_SHARDS, MAX_BLOCK}
use Rattle.race_text.specs.{Lines.Causes, Output.Writes}
use Rattle.race_tool.specs.declared.status.TheConstants as status

-- each option is in its limits
abbrev pub are_in_limits : CheckOptions → Bool
are_in_limits o = nat_le 1 o.shards && nat_le o.shards MAX_SHARDS && nat_le 1 o.block && nat_le o.block MAX_BLOCK

-- the status where the input wasn't read: its reader failed or it was given up, or memory was refused
abbrev pub status_of_fault : ReadFault → ℕ
status_of_fault ReadFault.Failed = status.DEVICE
status_of_fault ReadFault.Endless = status.DEVICE
status_of_fault ReadFault.OutOfMemory = status.REFUSED

-- the status tells of something that was found: nothing was wanting
pub record IsOfAFinding (answer : ℕ) : Type 0 where
  pub granted : answer ≢ status.REFUSED
  pub served : answer ≢ status.DEVICE
  pub recorded : answer ≢ status.MISMATCH

-- of a trace there is nothing to record
abbrev pub Never : List ℕ → Type 0
Never bytes = ⊥

-- An engine has findings on a list of bytes, of which it knows which are right, and a text and a status for each.

-- right for the input of which these bytes were read, whatever follows them in it
abbrev pub IsRightFor : {F : Type 0} → (List ℕ → F → Type 0) → List ℕ → Bool → F → Type 0
IsRightFor IsRight bytes to_end finding = (whole : List ℕ) → IsInput bytes to_end whole → IsRight whole finding

-- the reply to what was read is right for each list of bytes whose text it is, or of these nothing was recorded
pub record Replies {V F : Type 0} (IsText : V → List ℕ → Type 0) (IsRight : List ℕ → F → Type 0) (IsUnrecorded : List ℕ → Type 0)
    (whole : V) (reply : Result F Unanswered) : Type 0 where
  pub ok : IfOk reply (λ r. (bytes : List ℕ) → IsText whole bytes → IsRight bytes r)
  pub mismatch : reply ≡ Err Unanswered.Unrecorded → (bytes : List ℕ) → IsText whole bytes → IsUnrecorded bytes

-- the text was written and the status is its, or a write failed
pub record Sends {W : Type 0} (contents : W → Option (List ℕ)) (sink sink_now : Sink W) (text : List ℕ) (own answer : ℕ) : Type 0 where
  pub result : Result ⊤ WriteFault
  pub writes : Writes contents result sink sink_now text
  pub status_is : MatchResult result (λ _. (answer ≡ own) × IsOfAFinding own) (λ _. answer ≡ status.DEVICE)

-- the text of a right finding was written, and the status is the finding's
pub record WritesText {F : Type 0} (IsRight : F → Type 0) (text : F → List ℕ)
    (status_for : F → ℕ) (output output_now : Option (List ℕ)) (answer : ℕ) : Type 0 where
  pub finding : F
  pub right : IsRight finding
  pub printed : Appends output output_now (text finding)
  pub status_is : answer ≡ status_for finding

-- the input was read to its end, or to the end of the block that ends its first faulty line, and the text of a finding
-- was written that is right for it
pub record ReadsAndWrites {F : Type 0} (causes : Causes) (IsRight : List ℕ → F → Type 0) (text : F → List ℕ)
    (status_for : F → ℕ) (input input_left output output_now : Option (List ℕ)) (answer : ℕ) : Type 0 where
  pub bytes : List ℕ
  pub to_end : Bool
  pub read : Reads causes input input_left bytes to_end
  pub reported : WritesText (IsRightFor IsRight bytes to_end) text status_for output output_now answer

-- the input was read to its end, and this holds of its bytes
pub record ReadsWhere (Holds : List ℕ → Type 0) (input input_left : Option (List ℕ)) : Type 0 where
  pub bytes : List ℕ
  pub read : ReadsAll input input_left bytes
  pub holds : Holds bytes

-- a write failed, and only a front of the text was written
pub record WritesFrontOf {F W : Type 0} (IsRight : F → Type 0) (text : F → List ℕ) (contents : W → Option (List ℕ)) (sink sink_now : Sink W) : Type 0 where
  pub finding : F
  pub right : IsRight finding
  pub sent : ℕ
  pub cut_off : IsCutOff (written contents sink) (written contents sink_now) sent (text finding)
  pub failed : sink_failures sink_now ≡ one_more (sink_failures sink)

-- the input was read, no read failed, and a write did
pub record FailsToWriteText {F R W : Type 0} (causes : Causes) (IsRight : List ℕ → F → Type 0) (text : F → List ℕ)
    (remaining : R → Option (List ℕ)) (contents : W → Option (List ℕ)) (source source_now : Source R) (sink sink_now : Sink W) : Type 0 where
  pub bytes : List ℕ
  pub to_end : Bool
  pub read : Reads causes (unread remaining source) (unread remaining source_now) bytes to_end
  pub calm : source_failures source_now ≡ source_failures source
  pub front : WritesFrontOf (IsRightFor IsRight bytes to_end) text contents sink sink_now

-- a read failed, before which no faulty line had ended, and nothing was written
pub record FailsToRead {R W : Type 0} (causes : Causes) (remaining : R → Option (List ℕ)) (source source_now : Source R) (sink sink_now : Sink W) : Type 0 where
  pub fine : ReadsFine causes (unread remaining source) (unread remaining source_now)
  pub failed : source_failures source_now ≡ one_more (source_failures source)
  pub unwritten : sink_now ≡ sink

-- no read failed, reading was given up after many reads, and nothing was written. Whether bytes were left isn't said
pub record GivesUpReading {R W : Type 0} (causes : Causes) (remaining : R → Option (List ℕ))
    (source source_now : Source R) (sink sink_now : Sink W) : Type 0 where
  pub many : ReadsMany causes remaining source source_now
  pub calm : source_failures source_now ≡ source_failures source
  pub unwritten : sink_now ≡ sink

-- What an engine promises of its answer, by the causes of a faulty line, the findings that are right for a list of bytes, the text and the
-- status of each, and the bytes of which nothing can be recorded.
pub record Answers {F R W : Type 0} (causes : Causes) (IsRight : List ℕ → F → Type 0) (text : F → List ℕ) (status_for : F → ℕ)
    (IsUnrecorded : List ℕ → Type 0) (remaining : R → Option (List ℕ)) (contents : W → Option (List ℕ))
    (source source_now : Source R) (sink sink_now : Sink W) (answer : ℕ) : Type 0 where
  -- unless memory or a thread, a device or a recording was wanting, the input was read, the text of what is right for it was written, and
  -- the status is its
  pub told : answer ≢ status.REFUSED → answer ≢ status.DEVICE → answer ≢ status.MISMATCH
      → ReadsAndWrites causes IsRight text status_for (unread remaining source) (unread remaining source_now)
      (written contents sink) (written contents sink_now) answer
  -- memory or a thread was refused: nothing is written
  pub refused : answer ≡ status.REFUSED → sink_now ≡ sink
  -- the input was read to its end, nothing can be recorded of it, and nothing is written
  pub mismatch : answer ≡ status.MISMATCH → (sink_now ≡ sink) × ReadsWhere IsUnrecorded (unread remaining source) (unread remaining source_now)
  -- a device failed, which its count shows, or reading was given up
  pub device : answer ≡ status.DEVICE
      → FailsToRead causes remaining source source_now sink sink_now
      ⊎ GivesUpReading causes remaining source source_now sink sink_now
      ⊎ FailsToWriteText causes IsRight text remaining contents source source_now sink sink_now
  -- with every other status no device failed
  pub calm : answer ≢ status.DEVICE
      → (source_failures source_now ≡ source_failures source) × (sink_failures sink_now ≡ sink_failures sink)
