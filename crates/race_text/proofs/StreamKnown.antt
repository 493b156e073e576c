-- What is known of a stream of events stays as it goes on.
use Rattle.std.proofs.Common.{◌≡◌, ℕ, List, [], ◌∷◌, ◌++◌, Option, Some, None, Result, Ok, Err, IfSome, OnOk, MatchResult, ◌∙◌}
use Rattle.std.specs.Borrow.{Bor}
use Rattle.race_records.specs.{declared.event.Event.Event, Declarations.Declaration}
use Rattle.race_text.specs.declared.{cause.TextCause.TextCause, stream.EventStream.EventStream}
use Rattle.race_text.specs.{Common.line_in, Fault.trace_causes}
use Rattle.race_text.specs.Grammar.{ForEachLines, IsWhole, Takes, TakesIfTold, Tells, TellsOfFront}
use Rattle.race_text.specs.Stream.{StandsWith, DeclaresNothing, HasDeclared, IsTextAtEnd, IsTextOfStream, Known, StandsFor}
use Rattle.race_text.specs.Grammar as grammar
use Rattle.race_text.specs.Stream as stream

module _ {A : Type 0} (old : EventStream A) where
  pub some_stream : (k : Known) × grammar.StandsForSome (StandsFor k old) → stream.StandsForSome old
  some_stream (k, some) = record { past = k.past; lines = some.lines; stands = some.stands.stream }

  module _ (new : EventStream A) (declares : DeclaresNothing old new) where
    declared_still : (places : List (List ℕ)) (declared : Option (List Declaration)) → IfSome declared (HasDeclared places old)
        → IfSome declared (HasDeclared places new)
    declared_still places None has = tt
    declared_still places (Some ds) has = record {
      event = declares.stays has.event;
      same = declares.same has.event ∙ has.same;
      kept = λ n place at. declares.places has.event n place (has.kept n place at);
    }

    goes_on : (k : Known) (lines more : List (List ℕ)) → StandsFor k old lines → StandsWith new k.past more → StandsFor k new more
    goes_on k lines more S stands = record { stream = stands; declared = declared_still k.places k.declared S.declared }

    takes : (k : Known) (line : List ℕ) → Takes trace_causes (StandsWith old k.past) line (StandsWith new k.past)
        → Takes trace_causes (StandsFor k old) line (StandsFor k new)
    takes k line took lines S =
        let behind = took lines S.stream in
        record { no_cause = behind.no_cause; stands = goes_on k lines (lines ++ line ∷ []) S behind.stands }

  -- a line is taken, or what is owed is told
  pub line_answered : (new : EventStream A) (line : List ℕ) (r : Result (Unit {0}) TextCause)
      → MatchResult r (λ _. (past : List Event) → Takes trace_causes (StandsWith old past) line (StandsWith new past))
      (λ told. (past : List Event) → Tells trace_causes (StandsWith old past) line told)
      → OnOk r (DeclaresNothing old new)
      → MatchResult r (λ _. (k : Known) → Takes trace_causes (StandsFor k old) line (StandsFor k new))
      (λ told. (k : Known) → Tells trace_causes (StandsFor k old) line told)
  line_answered new line (Ok x) taken declares = λ k. takes new declares k line (taken k.past)
  line_answered new line (Err told) tells declares = λ k lines S. tells k.past lines S.stream

  -- the same of a common line
  pub common_answered : (new : EventStream A) (bytes : List ℕ) (r : Result (Option (Bor (List ℕ))) TextCause)
      → MatchResult r (λ rest. (past : List Event) → TakesIfTold trace_causes (StandsWith old past) bytes rest (StandsWith new past))
      (λ told. (past : List Event) → TellsOfFront trace_causes (StandsWith old past) bytes told)
      → OnOk r (DeclaresNothing old new)
      → MatchResult r (λ rest. (k : Known) → TakesIfTold trace_causes (StandsFor k old) bytes rest (StandsFor k new))
      (λ told. (k : Known) → TellsOfFront trace_causes (StandsFor k old) bytes told)
  common_answered new bytes (Ok (Some rest)) taken declares = λ k. ((taken k.past).0, takes new declares k (line_in bytes) (taken k.past).1)
  common_answered new bytes (Ok None) taken declares = λ k lines S. goes_on new declares k lines lines S (taken k.past lines S.stream)
  common_answered new bytes (Err told) tells declares = λ k.
      let front = tells k.past in
      record { rest = front.rest; ends = front.ends; least = λ lines S. front.least lines S.stream }

  -- all that was read, where no cause holds at the end
  pub whole_is : (last : List ℕ) → ((past : List Event) → ForEachLines (StandsWith old past) (λ lines. trace_causes.end lines last ≡ None))
      → IsTextAtEnd old last → (k : Known)
      → ForEachLines (StandsFor k old) (IsWhole trace_causes (λ (s : EventStream A) bytes. IsTextOfStream k s bytes) last old)
  whole_is last none text k lines S =
      let no_cause = none k.past lines S.stream in
      record { no_cause = no_cause; text = record { lines = lines; stands = S; text = text k.past lines S.stream no_cause } }
