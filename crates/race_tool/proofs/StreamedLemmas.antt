-- A trace that is judged while it is read: its lines, its judge, and what is found of it.
use Rattle.std.proofs.Common.{◌≡◌, ℕ, ◌+◌, ◌<◌, ◌≤◌, IsTrue, All, List, [], ◌++◌, length, Option, Some, None, IfSome}
use Rattle.std.proofs.Common.{refl, sym, ap, ◌∙◌, subst, arith, append-nil, length-append, slice_index_or}
use Rattle.std.{specs.Option.{option_map, is_some}, proofs.lemmas.Option.none-some}
use Rattle.race_records.specs.declared.{event.Event.Event, kind.Kind.Kind, trace.TheConstants.MAX_EVENTS}
use Rattle.race_records.specs.{Declarations.{Declaration, DeclsState, capacity_of}, Events.{TraceState, IsTrace}}
use Rattle.race_model.specs.Verdict.{IsVerdict}
use Rattle.race_legal.{specs.ReplayState.IsInRange, proofs.RangeLemmas.range_from_fits}
use Rattle.race_verdict.specs.{declared.report.Report.Report, Notes.{verdict_noted, IsNotedOf}}
use Rattle.race_shards.specs.Judging.{JudgeState, CanTake, GoesOn, Tells, Notes}
use Rattle.race_text.specs.{declared.stream.EventStream.EventStream, Grammar.ForEachLines, Reader.trace_read, Taking.behind}
use Rattle.race_text.specs.Stream.{Known, StandsWith, DeclaresNothing, HasDeclared, trace_with, decls_of, events_of, has_events}
use Rattle.race_text.proofs.StreamLemmas.{nothing_past, read_behind}
use Rattle.race_tool.specs.declared.handed.Handed.{Handed}
use Rattle.race_tool.specs.Streams.{IsJudgeOf, IsHanded, IsReport, StandsBehind, known_behind}
use Rattle.race_shards.specs.Judging as judging
use Rattle.race_text.specs.Grammar as grammar

-- what was handed on changes no declaration
pub decls_with : {A : Type 0} (s : EventStream A) (past : List Event) → (trace_with past s).decls ≡ decls_of s
decls_with s past = by s.reader.trace
  where
    by : (o : Option TraceState) → (trace_read s.reader.decls (option_map (behind past) o)).decls ≡ (trace_read s.reader.decls (option_map (behind []) o)).decls
    by None = refl
    by (Some t) = refl

-- no event stands there where none was begun
pub some_begun : {A : Type 0} (s : EventStream A) → 0 < length (events_of s) → IsTrue (has_events s)
some_begun s some = by s.reader.trace some
  where
    by : (o : Option TraceState) → 0 < length (trace_read s.reader.decls (option_map (behind []) o)).events → IsTrue (is_some o)
    by None some = absurd (omega (arith, some))
    by (Some t) some = refl

module _ {A : Type 0} (s : EventStream A) (past : List Event) (lines : List (List ℕ)) (S : StandsWith s past lines) where
  -- its events stand behind those that were handed on
  pub events_with : (trace_with past s).events ≡ past ++ events_of s
  events_with = by s.reader.trace (nothing_past s past lines S)
    where
      by : (o : Option TraceState) → (o ≡ None → past ≡ [])
          → (trace_read s.reader.decls (option_map (behind past) o)).events ≡ past ++ (trace_read s.reader.decls (option_map (behind []) o)).events
      by None nil = sym (append-nil past ∙ nil refl)
      by (Some t) nil = refl

  -- and there are not too many
  pub few_events : length past + length (events_of s) ≤ MAX_EVENTS
  few_events =
      let all : length (trace_with past s).events ≤ MAX_EVENTS = by s.reader.trace refl in
      let same = ap length events_with in
      omega (arith, all, same, length-append past (events_of s))
    where
      by : (o : Option TraceState) → s.reader.trace ≡ o → length (trace_read s.reader.decls (option_map (behind past) s.reader.trace)).events ≤ MAX_EVENTS
      by None is = subst (λ o. length (trace_read s.reader.decls (option_map (behind past) o)).events ≤ MAX_EVENTS) (sym is) (omega arith)
      by (Some t) is =
          subst (λ o. length (trace_read s.reader.decls (option_map (behind past) o)).events ≤ MAX_EVENTS) (sym is)
          (read_behind s past lines S t is).has_text.is_trace.limited

  -- so the judge of the events that were handed on can take them
  pub can_take : (k : JudgeState) → judging.StandsFor (decls_of s).declarations k past → IsTrace (trace_with [] s) → CanTake k (events_of s)
  can_take k J holds well = (
    subst (λ (counts : Kind → ℕ). All (IsInRange counts) (events_of s)) (sym J.counts)
        (λ i d less. range_from_fits (decls_of s) (slice_index_or (events_of s) i d) (holds.fit i d less)),
    (let len : length past ≡ k.len = J.len in let few = few_events in omega (arith, len, few)),
  )

  -- the verdict of the judge behind them is right
  pub verdict_is : {B : Type 0} (k : JudgeState) (verdict : Report B) → judging.StandsFor (decls_of s).declarations k (past ++ events_of s)
      → Tells k (verdict_noted verdict) → Notes k verdict → IsReport (trace_with past s) verdict
  verdict_is k verdict J tells notes = record {
    right = subst (λ ds. IsVerdict (capacity_of ds) (trace_with past s).events (verdict_noted verdict)) (ap (λ (ds : DeclsState). ds.declarations) (sym (decls_with s past)))
        (subst (λ (es : List Event). IsVerdict (capacity_of (decls_of s).declarations) es (verdict_noted verdict)) (sym events_with)
        (tells (decls_of s).declarations (past ++ events_of s) J));
    notes = subst (λ (es : List Event). IsNotedOf es verdict) (sym events_with) (notes (decls_of s).declarations (past ++ events_of s) J);
  }

-- where nothing is left the judge stands for all that was handed on
pub none_left : (known : Known) (judge : Option JudgeState) (events : List Event) → events ≡ [] → IsHanded known judge events → IsJudgeOf known.declared judge known.past
none_left known judge events none h =
    subst (λ (es : List Event). IsJudgeOf known.declared judge es) (sym (h.past_is ∙ ap (λ (es : List Event). h.front ++ es) none ∙ append-nil h.front)) h.judged

-- and where it took the last ones it stands for all of them
pub all_judged : (old new : JudgeState) (events : List Event) → GoesOn old events new → (known : Known) → IsHanded known (Some old) events → IsHanded known (Some new) []
all_judged old new events goes known h = record { front = known.past; past_is = sym (append-nil known.past); judged = by known.declared h.judged }
  where
    by : (declared : Option (List Declaration)) → IsJudgeOf declared (Some old) h.front → IsJudgeOf declared (Some new) known.past
    by None J = J
    by (Some ds) J = subst (λ (es : List Event). judging.StandsFor ds new es) (sym h.past_is) (goes ds h.front J)

-- what was declared when the judge was made is declared still
judge_now : {A : Type 0} (s : EventStream A) (places : List (List ℕ)) (declared : Option (List Declaration)) → IfSome declared (HasDeclared places s) → (judge : Option JudgeState) (past : List Event)
    → IsJudgeOf declared judge past → IsJudgeOf (Some (decls_of s).declarations) judge past
judge_now s places declared has None past judged = judged
judge_now s places None has (Some k) past judged = absurd judged
judge_now s places (Some ds) has (Some k) past judged = subst (λ (ds : List Declaration). judging.StandsFor ds k past) (sym has.same) judged

-- a stream whose events are handed on, by the judge of those before them, which was begun if there was none
module _ {A : Type 0} (h : Handed A) (s : EventStream A) (k : JudgeState) (none : h.events.items ≡ [])
    (begun : (past : List Event) → IsJudgeOf (Some (decls_of s).declarations) h.judge past → judging.StandsFor (decls_of s).declarations k past) where
  pub judged_before : (known : Known) (lines : List (List ℕ)) → StandsBehind h known s lines → judging.StandsFor (decls_of s).declarations k known.past
  judged_before known lines S =
      begun known.past (judge_now s known.places known.declared S.stream.declared h.judge known.past (none_left known h.judge h.events.items none S.handed))

  pub can_take_next : (known : Known) × grammar.StandsForSome (StandsBehind h known s) → IsTrace (trace_with [] s) → CanTake k (events_of s)
  can_take_next (known, some) well = can_take s known.past some.lines some.stands.stream.stream k (judged_before known some.lines some.stands) well

  pub handed_over : (new : EventStream A) (after : Handed A) → after.judge ≡ Some k → after.events.items ≡ events_of s → IsTrue (has_events s)
      → DeclaresNothing s new → ((past : List Event) → ForEachLines (StandsWith s past) (StandsWith new (past ++ events_of s)))
      → (known : Known) → ForEachLines (StandsBehind h known s) (StandsBehind after (known_behind known s) new)
  handed_over new after judge moved some declares stands known lines S = record {
    stream = record { stream = stands known.past lines S.stream.stream; declared = record { event = declares.stays some; same = declares.same some; kept = λ n place at. absurd (none-some place at) } };
    handed = record {
      front = known.past;
      past_is = ap (λ (es : List Event). known.past ++ es) (sym moved);
      judged = subst (λ (o : Option JudgeState). IsJudgeOf (Some (decls_of s).declarations) o known.past) (sym judge) (judged_before known lines S);
    };
  }
