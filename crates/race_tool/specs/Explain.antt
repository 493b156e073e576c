-- Which reply is right where the report of a trace is to be explained.
use Rattle.std.specs.Prelude.{◌≡◌, ℕ, List, Option, Result, IfErr, false}
use Rattle.race_records.specs.declared.{source.Source.Source, sink.Sink.Sink}
use Rattle.race_text.specs.{declared.cause.TextFault.TextFault, Fault.trace_causes}
use Rattle.race_verdict.specs.Verdicts.{verdict_of}
use Rattle.race_explain.specs.{Explained.{IsExplained, IsFaultShown}, Marked.line_at}
use Rattle.race_tool.specs.{declared.{explain.Explained.Explained, reply.Reply.Reply}, Finding.{Finding, Faulty, Judged, IsFinding, status_of}}
use Rattle.race_tool.specs.{Outcome.{Answers, Never}, Reply.{reply_text, reply_status}}

-- what a check finds
abbrev pub finding_of : {A : Type 0} → Explained A → Finding
finding_of (Explained.Faulty text fault) = Faulty fault
finding_of (Explained.Judged text trace verdict) = Judged trace (verdict_of verdict)

-- the text has its report, and then the line of these bytes that is at fault, marked, or the events that it is about, with words on each
abbrev pub IsExplanation : {A : Type 0} → List ℕ → Explained A → Type 0
IsExplanation bytes (Explained.Faulty text fault) = IsFaultShown bytes fault text.items
IsExplanation bytes (Explained.Judged text trace verdict) = IsExplained trace verdict text.items

-- the line of a fault is the same in both
abbrev pub IsShownAlike : {A : Type 0} → List ℕ → List ℕ → Result A TextFault → Type 0
IsShownAlike bytes whole text = IfErr text (λ fault. line_at whole fault.line ≡ line_at bytes fault.line)

-- the reply is right for the bytes: what is explained is what a check finds of them
abbrev pub IsExplaining : {A : Type 0} → List ℕ → Reply (Explained A) → Type 0
IsExplaining bytes (Reply.Found explained) = IsFinding false bytes (finding_of explained) × IsExplanation bytes explained
IsExplaining bytes _ = ⊥

-- what is printed
abbrev pub explained_text : {A : Type 0} → Explained A → List ℕ
explained_text (Explained.Faulty text fault) = text.items
explained_text (Explained.Judged text trace verdict) = text.items

-- and with which status: that of a check
abbrev pub explained_status : {A : Type 0} → Explained A → ℕ
explained_status explained = status_of (finding_of explained)

-- it was found
abbrev pub found : {A : Type 0} → Explained A → Reply (Explained A)
found explained = Reply.Found explained

-- the report of a trace was explained
abbrev pub Explains : (A : Type 0) → {R W : Type 0} → (R → Option (List ℕ)) → (W → Option (List ℕ)) → Source R → Source R → Sink W → Sink W → ℕ → Type 0
Explains A remaining contents source source_now sink sink_now answer =
    Answers trace_causes (IsExplaining {A = A}) (reply_text explained_text) (reply_status explained_status) Never
    remaining contents source source_now sink sink_now answer
