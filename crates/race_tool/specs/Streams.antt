-- A trace that is judged while it is read: its events are handed on to a judge, and forgotten.
use Rattle.std.specs.Prelude.{◌≡◌, ℕ, IsTrue, true, List, [], ◌++◌, Option, Some, None, IsSomeAnd}
use Rattle.race_records.specs.{declared.event.Event.Event, Declarations.Declaration, Events.TraceState}
use Rattle.race_verdict.specs.{declared.report.Report.Report, Notes.{verdict_noted, IsNotedOf}}
use Rattle.race_verdict.specs.Traces.{HasVerdict}
use Rattle.race_shards.specs.{Judging.JudgeState, Limits.is_block}
use Rattle.race_text.specs.{declared.stream.EventStream.EventStream, Fault.text_fault, Text.IsTextOf}
use Rattle.race_text.specs.Stream.{Known, StandsFor, StandsWith, decls_of, events_of, has_events, trace_with}
use Rattle.race_report.specs.Noted.{report_noted}
use Rattle.race_tool.specs.declared.{handed.Handed.Handed, intake.JudgedStream.JudgedStream}
use Rattle.race_tool.specs.declared.{reply.Reply.Reply, stream_found.Noted.Noted}
use Rattle.race_shards.specs.Judging as judging
use Rattle.race_text.specs.Grammar as grammar
use Rattle.race_tool.specs.declared.status.TheConstants as status

-- the judge stands for these events, by what was declared; before the first one there is no judge
abbrev pub IsJudgeOf : Option (List Declaration) → Option JudgeState → List Event → Type 0
IsJudgeOf declared None past = past ≡ []
IsJudgeOf declared (Some judge) past = IsSomeAnd declared (λ declarations. judging.StandsFor declarations judge past)

-- the judge stands for the first of the events that were handed on, and takes the last ones, which are these, next
pub record IsHanded (k : Known) (judge : Option JudgeState) (events : List Event) : Type 0 where
  pub front : List Event
  pub past_is : k.past ≡ front ++ events
  pub judged : IsJudgeOf k.declared judge front

-- the judge can take these events next; without a judge there are none
abbrev pub CanTakeNext : Option JudgeState → List Event → Type 0
CanTakeNext None events = events ≡ []
CanTakeNext (Some judge) events = judging.CanTake judge events

-- it takes them in blocks that it can take
pub record CanJudgeAll {A : Type 0} (h : Handed A) : Type 0 where
  pub can : CanTakeNext h.judge h.events.items
  pub block : is_block h.judging.block ≡ true

-- the judge took the events, and stands for all that was handed on
pub record JudgesAll {A : Type 0} (old new : Handed A) : Type 0 where
  pub none : new.events.items ≡ []
  pub judging : new.judging ≡ old.judging
  pub goes_on : (k : Known) → IsHanded k old.judge old.events.items → IsHanded k new.judge new.events.items

-- a stream took these lines, and what it handed on was handed on to this
pub record StandsBehind {A : Type 0} (h : Handed A) (k : Known) (s : EventStream A) (lines : List (List ℕ)) : Type 0 where
  pub stream : StandsFor k s lines
  pub handed : IsHanded k h.judge h.events.items

-- the events that a stream has may be handed on, where none is left of those before
pub record CanHandOn {A : Type 0} (h : Handed A) (s : EventStream A) : Type 0 where
  pub some : (k : Known) × grammar.StandsForSome (StandsBehind h k s)
  pub none : h.events.items ≡ []
  pub begun : IsTrue (has_events s)
  pub block : is_block h.judging.block ≡ true

-- what is known of a stream when its events are handed on too
abbrev pub known_behind : {A : Type 0} → Known → EventStream A → Known
known_behind k s = record { past = k.past ++ events_of s; declared = Some (decls_of s).declarations; places = [] }

-- the bytes are the text of the trace that was read, with the events that were handed on, and the judge stands for all its events
pub record IsReadText {A : Type 0} (j : JudgedStream A) (bytes : List ℕ) : Type 0 where
  pub past : List Event
  pub lines : List (List ℕ)
  pub stream : StandsWith j.stream past lines
  pub judged : judging.StandsFor (decls_of j.stream).declarations j.judge (past ++ events_of j.stream)
  pub text : IsTextOf (trace_with past j.stream) bytes

-- the verdict on the trace, and what is noted with it is of its events
pub record IsReport {A : Type 0} (trace : TraceState) (verdict : Report A) : Type 0 where
  pub right : HasVerdict trace (verdict_noted verdict)
  pub notes : IsNotedOf trace.events verdict

-- the bytes are the text of a trace with the declarations that were read, and with this verdict
pub record IsJudgedText {A : Type 0} (stream : EventStream A) (verdict : Report A) (bytes : List ℕ) : Type 0 where
  pub trace : TraceState
  pub text : IsTextOf trace bytes
  pub decls : trace.decls ≡ decls_of stream
  pub noted : IsReport trace verdict

-- the reply is right for the bytes
abbrev pub IsFoundOf : {A : Type 0} → List ℕ → Reply (Noted A) → Type 0
IsFoundOf bytes (Reply.Faulty fault) = text_fault bytes ≡ Some fault
IsFoundOf bytes (Reply.Found noted) = IsJudgedText noted.stream noted.verdict bytes
IsFoundOf bytes _ = ⊥

-- what is printed of what was found
abbrev pub found_text : {A : Type 0} → Noted A → List ℕ
found_text noted = report_noted (decls_of noted.stream) noted.verdict

-- and its status
abbrev pub status_noted : {A : Type 0} → Report A → ℕ
status_noted (Report.Illegal illegal) = status.ILLEGAL
status_noted (Report.Clean events accesses) = status.CLEAN
status_noted (Report.Races races) = status.RACES

abbrev pub found_status : {A : Type 0} → Noted A → ℕ
found_status noted = status_noted noted.verdict
