-- How far a trace is read, line by line.
use Rattle.std.specs.Prelude.{◌≡◌, ℕ, ◌<◌, Bool, true, false, List, [], length, Option, Some, None, Result, Ok, Err}
use Rattle.race_records.specs.{declared.version.Version.Version, Declarations.DeclsState, Events.TraceState}
use Rattle.race_text.specs.{declared.{cause.TextCause.TextCause, reader.Reader.Reader}, Owed.owed, Text.lines}
use Rattle.race_text.specs.{Fault.cause, Grammar.AreThese, Declaring.is_declaration_line}
use Rattle.race_text.specs.Taking.{IsRead, TakesLine, begun}

-- nothing is declared, in a text of this version
abbrev pub nothing_in : Version → DeclsState
nothing_in version = record { version = version; declarations = []; places = [] }

-- the trace that is read so far: declarations alone, until the first event
abbrev pub trace_read : DeclsState → Option TraceState → TraceState
trace_read decls None = begun decls
trace_read decls (Some trace) = trace

-- the lines that were taken, the header among them
abbrev pub lines_read : Bool → DeclsState → Option TraceState → List (List ℕ)
lines_read false decls trace = []
lines_read true decls trace = lines (trace_read decls trace)

-- what holds between two lines. The version is that of the first line, once that is read
abbrev pub IsReading : Bool → DeclsState → Option TraceState → Type 0
IsReading false decls trace = (decls ≡ nothing_in Version.One) × (trace ≡ None)
IsReading true decls None = IsRead (begun decls)
IsReading true decls (Some trace) = IsRead trace × (0 < length trace.events)

-- a declaration is taken, or the line is none
abbrev pub TakesIfDeclared : DeclsState → List ℕ → Bool → DeclsState → Type 0
TakesIfDeclared old line true new = TakesLine (lines (begun old)) line (begun new)
TakesIfDeclared old line false new = (new ≡ old) × (is_declaration_line line ≡ false)

-- the same of an answer, which may be what is owed by its least cause
abbrev pub TakesDeclaration : DeclsState → List ℕ → Result Bool TextCause → DeclsState → Type 0
TakesDeclaration old line (Ok added) new = TakesIfDeclared old line added new
TakesDeclaration old line (Err told) new = told ≡ owed (cause (lines (begun old)) line true)

-- the lines that were taken, while what was read is sound
abbrev pub StandsFor : {A : Type 0} → Reader A → List (List ℕ) → Type 0
StandsFor r = AreThese (IsReading r.has_header r.decls r.trace) (lines_read r.has_header r.decls r.trace)
