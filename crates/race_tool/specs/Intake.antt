-- How far a trace was read that is judged meanwhile.
use Rattle.std.specs.Prelude.{◌≡◌, ◌≢◌, IfOk, ℕ, ◌<◌, ◌≤◌, Bool, true, IsTrue, List, [], vec_len, Option, Result, Err}
use Rattle.std.specs.Prelude.{MatchBool, MatchResult}
use Rattle.race_records.specs.{declared.source.Source.Source, Devices.{unread, source_reads, source_failures, more_by}}
use Rattle.race_records.specs.Devices.{one_more}
use Rattle.race_text.specs.declared.{cause.TextFault.TextFault, fed.Fed.Fed, stream.EventStream.EventStream}
use Rattle.race_text.specs.{Fault.trace_causes, Fed.IsFed, Stream.{Known, StandsFor, has_events}}
use Rattle.race_tool.specs.declared.{handed.Handed.Handed, input.{ReadFault.ReadFault, TheConstants.{MAX_TURNS}}}
use Rattle.race_tool.specs.declared.intake.{Intake.Intake, JudgedStream.JudgedStream}
use Rattle.race_tool.specs.Input.{HasRead, HasReadAll, IsBetweenFine, IsRoom, ReadsBy, ReadsFine, ReadsMany}
use Rattle.race_tool.specs.Streams.{IsHanded, IsReadText}

-- the next block can be read and fed to a reader that stands for some lines
pub record IsReadable {A : Type 0} (Stands : EventStream A → List (List ℕ) → Type 0) (now : Intake A) : Type 0 where
  pub room : IsRoom (vec_len now.block)
  pub some : 0 < now.wanted
  pub ready : IsBetweenFine Stands now.reader
  pub limit : now.turns ≤ MAX_TURNS

-- it went on from so many reads: where more may follow there were more reads, and there are events
pub record IsReadOn {A : Type 0} (Stands : EventStream A → List (List ℕ) → Type 0) (turns : ℕ) (now : Intake A) (more : Bool) : Type 0 where
  pub readable : IsReadable Stands now
  pub later : more ≡ true → turns < now.turns
  pub begun : more ≡ true → IsTrue (has_events now.reader.lines.reader)

module _ {R A : Type 0} (remaining : R → Option (List ℕ)) (Stands : EventStream A → List (List ℕ) → Type 0) (start source : Source R)
    (reader : Fed (EventStream A) A) where
  -- since the source was this one it was read so often, and what it gave was fed
  pub record HasTaken (turns : ℕ) : Type 0 where
    pub read : HasRead trace_causes (unread remaining start) (unread remaining source) (IsFed trace_causes Stands reader) turns
    pub first : turns ≡ 0 → source_reads source ≡ source_reads start
    pub reads : 0 < turns → source_reads source ≡ more_by turns (source_reads start)

  -- and more may follow, or it was the end, or a line was at fault
  abbrev pub GoesOnTo : ℕ → Result Bool TextFault → Type 0
  GoesOnTo turns answer =
      MatchResult answer
      (λ more. MatchBool more (HasTaken turns) (HasReadAll trace_causes (unread remaining start) (unread remaining source) (IsFed trace_causes Stands reader)))
      (λ fault. ReadsBy (λ (text : JudgedStream A) bytes. IsReadText text bytes) trace_causes (unread remaining start) (unread remaining source) (Err fault))

-- What reading on gives, by what the reader stands for: how it went on, which device failed, and what was read before it failed or was
-- given up.
pub record ReadsOn {R A : Type 0} (remaining : R → Option (List ℕ)) (Stands : EventStream A → List (List ℕ) → Type 0)
    (source source_now : Source R) (intake intake_now : Intake A) (result : Result (Result Bool TextFault) ReadFault) : Type 0 where
  pub ok : IfOk result
      (λ answer. (start : Source R) → HasTaken remaining Stands start source intake.reader intake.turns
      → GoesOnTo remaining Stands start source_now intake_now.reader intake_now.turns answer)
  pub on : IfOk result (λ answer. IfOk answer (λ more. IsReadOn Stands intake.turns intake_now more))
  pub calm : result ≢ Err ReadFault.Failed → source_failures source_now ≡ source_failures source
  pub failed : result ≡ Err ReadFault.Failed → source_failures source_now ≡ one_more (source_failures source)
  pub fine : result ≡ Err ReadFault.Failed → (start : Source R) → HasTaken remaining Stands start source intake.reader intake.turns
      → ReadsFine trace_causes (unread remaining start) (unread remaining source_now)
  pub endless : result ≡ Err ReadFault.Endless → (start : Source R) → HasTaken remaining Stands start source intake.reader intake.turns
      → ReadsMany trace_causes remaining start source_now

-- the same for all that may be known of the stream
pub record ReadsOnAll {R A : Type 0} (remaining : R → Option (List ℕ)) (source source_now : Source R) (intake intake_now : Intake A)
    (result : Result (Result Bool TextFault) ReadFault) : Type 0 where
  pub each : (k : Known) → IsReadable (StandsFor k) intake → ReadsOn remaining (StandsFor k) source source_now intake intake_now result

-- all was read, and what was handed on is judged, but for the events that are the reader's still
pub record CanFinish {A : Type 0} (k : Known) (intake : Intake A) (handed : Handed A) : Type 0 where
  pub fed : List ℕ
  pub stands : IsFed trace_causes (StandsFor k) intake.reader fed
  pub ready : IsBetweenFine (StandsFor k) intake.reader
  pub judged : IsHanded k handed.judge handed.events.items
  pub none : handed.events.items ≡ []
