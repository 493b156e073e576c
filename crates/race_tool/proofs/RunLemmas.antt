-- What a run is, by what is known of its parts.
use Rattle.std.proofs.Common.{ℕ, ◌≡◌, ◌⊎◌, inl, inr, ◌≤◌, List, length, All, IsTrue}
use Rattle.std.proofs.Common.{Option, Some, None, Result, Ok, Err, IfOk, IfErr, refl, sym, subst, ◌∙◌, arith}
use Rattle.std.specs.Prelude.{IfSome}
use Rattle.race_records.specs.declared.{event.Event.Event, trace.TheConstants.MAX_EVENTS}
use Rattle.race_records.specs.{Declarations.DeclsState, Events.{TraceState, IsTrace, fits}}
use Rattle.race_records.specs.Events.{op_is_limited}
use Rattle.race_text.{specs.Text.{HasText, text}, proofs.WritingLemmas.printed_is}
use Rattle.race_hub.specs.{declared.ending.End.End, Hub.HubState, Recording.RecordingState}
use Rattle.race_explore.specs.Walk.{Opens}
use Rattle.race_script.specs.{Certificate.IsCertified, Program.ProgramState, Run.{ScriptState, Asks}}
use Rattle.race_record.specs.{Recorded.IsRecordingOf, Serial.{IsSerial, IsTurnedAway}}
use Rattle.race_tool.specs.{Outcome.IsOfAFinding, Run.{status_of_end, trace_of, HasRun, IsRunOf}}
use Rattle.race_tool.specs.Run.{IsUncertified, IsRefusedRun}
use Rattle.race_tool.proofs.StatusLemmas.{small, middle}
use Rattle.race_tool.specs.declared.status.TheConstants as status

module _ (program : ProgramState) (limit : ℕ) (picks : Option (List ℕ)) (hub : HubState ScriptState) (opens : Opens program limit hub) where
  -- nothing was recorded
  pub turned_away : IfSome picks (λ list. IsTurnedAway Asks list hub) → IsRefusedRun limit picks program
  turned_away away = record { hub = hub; opens = opens; refused = by picks away }
    where
      by : (o : Option (List ℕ)) → IfSome o (λ list. IsTurnedAway Asks list hub) → IfSome o (λ list. IsTurnedAway Asks list hub ⊎ IsUncertified list program hub)
      by (Some list) is = inl is
      by None is = tt

  -- what was recorded was held against the program
  module _ (r : RecordingState) (serial : IfSome picks (λ list. IsSerial Asks list hub r)) where
    pub certified_run : {E : Type 0} (answer : Result RecordingState E) → IsRecordingOf hub r → IfOk answer (λ s. s ≡ r)
        → IfOk answer (λ s. IsCertified program s) → IfOk answer (λ s. HasText (trace_of s)) → IfOk answer (λ s. HasRun limit picks s program)
    certified_run (Ok s) recording is certified has_text = record {
      run = subst (λ (x : RecordingState). IsRunOf limit picks program x) (sym is) record {
        hub = hub;
        opens = opens;
        recording = recording;
        serial = serial;
        certified = subst (λ (x : RecordingState). IsCertified program x) is certified;
      };
      has_text = has_text;
    }
    certified_run (Err e) recording is certified has_text = tt

    pub uncertified_run : {E : Type 0} (answer : Result RecordingState E) (e : E) → IfErr answer (λ _. IsCertified program r → ⊥) → answer ≡ Err e
        → IsRefusedRun limit picks program
    uncertified_run (Ok s) e none is = absurd (cc is)
    uncertified_run (Err f) e none is = record { hub = hub; opens = opens; refused = by picks serial }
      where
        by : (o : Option (List ℕ)) → IfSome o (λ list. IsSerial Asks list hub r) → IfSome o (λ list. IsTurnedAway Asks list hub ⊎ IsUncertified list program hub)
        by (Some list) is = inr (r, is, none)
        by None is = tt

-- what holds of every trace goes by its declarations and events
pub trace_stays : (t u : TraceState) → t.decls ≡ u.decls → t.events ≡ u.events → IsTrace t → IsTrace u
trace_stays t u decls_are events_are is = record {
  fit = subst (λ (es : List Event). All (λ e. IsTrue (fits u.decls e)) es) events_are
      (subst (λ (d : DeclsState). All (λ e. IsTrue (fits d e)) t.events) decls_are is.fit);
  values = subst (λ (es : List Event). All (λ e. IsTrue (op_is_limited e.op)) es) events_are is.values;
  limited = subst (λ (es : List Event). length es ≤ MAX_EVENTS) events_are is.limited;
}

-- it has the text of each trace that has the same declarations and events
pub same_text : (r : RecordingState) (trace : TraceState) → trace.decls ≡ r.decls → trace.events ≡ r.events → text trace ≡ text (trace_of r)
same_text r trace decls_are events_are =
    sym (printed_is trace trace.decls trace.events refl refl) ∙ printed_is (trace_of r) trace.decls trace.events decls_are events_are

-- a status of a run
pub end_own : (end : End) → IsOfAFinding (status_of_end end)
end_own End.Main = small status.CLEAN (omega arith)
end_own End.Fault = middle status.FAILED (omega arith) (omega arith)
end_own End.Deadlock = middle status.DEADLOCK (omega arith) (omega arith)
end_own End.Limit = middle status.LIMIT (omega arith) (omega arith)
end_own (End.Bad g) = middle status.BAD_REQUEST (omega arith) (omega arith)
