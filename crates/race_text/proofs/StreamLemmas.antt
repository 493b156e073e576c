-- What a stream of events has read, whatever was handed on.
use Rattle.std.proofs.Common.{◌≡◌, ℕ, ◌+◌, ◌<◌, ◌==◌, Bool, true, false, List, [], ◌∷◌, ◌++◌, length, Option, Some}
use Rattle.std.proofs.Common.{None, map, Result, Ok, Err, OnOk, MatchResult, ◌≤◌, refl, sym, ap, subst, ◌∙◌, arith}
use Rattle.std.proofs.{Common.append-nil, lemmas.{List.{length-append, nil_from_length}, Option.none-some}}
use Rattle.std.specs.{List.flat_map, Option.option_map}
use Rattle.race_records.specs.{declared.event.Event.Event, Declarations.DeclsState, Events.TraceState}
use Rattle.race_text.specs.declared.{cause.TextCause.TextCause, stream.EventStream.EventStream}
use Rattle.race_text.specs.{Fault.{trace_causes, end_cause, seen}, Grammar.{TakesBehind, Takes, Tells}, Lines.GoesOn}
use Rattle.race_text.specs.{Owed.owed, Text.{lines, text, ended, header, declaration_line, event_line}, Taking.IsRead}
use Rattle.race_text.specs.Taking.{IsReadBehind, behind, begun, TakesLine, TakesOrTells}
use Rattle.race_text.specs.{Reader.{IsReading, lines_read, trace_read}, Stream.{StandsWith, StandsForSome, events_of}}
use Rattle.race_text.{specs.Stream.IsTextAtEnd, proofs.{LineCount.{lines_len, few_declared}, ParseLemmas.end_behind}}
use Rattle.race_text.proofs.{ParseLemmas.{end_empty, header_before_end, no_bytes}, ReaderLemmas.read_of}

-- where nothing was handed on, the trace is as it stands
pub plain : (past : List Event) (trace : Option TraceState) → past ≡ [] → option_map (behind past) trace ≡ trace
plain past trace nil = ap (λ p. option_map (behind p) trace) nil ∙ by trace
  where
    by : (trace : Option TraceState) → option_map (behind []) trace ≡ trace
    by None = refl
    by (Some t) = refl

-- the header stands before each event
pub has_header : (header : Bool) (decls : DeclsState) (t : TraceState) → IsReading header decls (Some t) → header ≡ true
has_header true decls t reading = refl
has_header false decls t reading = absurd (none-some t (sym reading.1))

pub some_read : (header : Bool) (decls : DeclsState) (t : TraceState) → IsReading header decls (Some t) → IsRead t × (0 < length t.events)
some_read true decls t reading = reading
some_read false decls t reading = absurd (none-some t (sym reading.1))

module _ {A : Type 0} (s : EventStream A) (past : List Event) (taken : List (List ℕ)) (S : StandsWith s past taken) where
  -- before the first event nothing was handed on
  pub nothing_past : s.reader.trace ≡ None → past ≡ []
  nothing_past none = nil_from_length past (S.handed_on ∙ S.none_before none)

  pub lines_before : s.reader.trace ≡ None → taken ≡ lines_read s.reader.has_header s.reader.decls s.reader.trace
  lines_before none = S.lines_are ∙ ap (lines_read s.reader.has_header s.reader.decls) (plain past s.reader.trace (nothing_past none))

  pub reading_before : s.reader.trace ≡ None → IsReading s.reader.has_header s.reader.decls s.reader.trace
  reading_before none = subst (IsReading s.reader.has_header s.reader.decls) (plain past s.reader.trace (nothing_past none)) S.reading

  -- a line before which no event stands
  pub taken_before : (n : EventStream A) (line : List ℕ) → s.reader.trace ≡ None → n.before ≡ s.before
      → GoesOn trace_causes (lines_read s.reader.has_header s.reader.decls s.reader.trace) line
      (lines_read n.reader.has_header n.reader.decls n.reader.trace)
      → IsReading n.reader.has_header n.reader.decls n.reader.trace
      → TakesBehind trace_causes line (StandsWith n past) taken
  taken_before n line none same goes reading =
      let same_as = plain past n.reader.trace (nothing_past none) in
      record {
        no_cause = ap (λ ls. trace_causes.line ls line) (lines_before none) ∙ goes.no_cause;
        stands = record {
          handed_on = S.handed_on ∙ sym same;
          none_before = λ _. same ∙ S.none_before none;
          reading = subst (IsReading n.reader.has_header n.reader.decls) (sym same_as) reading;
          lines_are = (λ i. lines_before none i ++ line ∷ []) ∙ sym goes.lines ∙ ap (lines_read n.reader.has_header n.reader.decls) (sym same_as);
        };
      }

  module _ (t : TraceState) (is : s.reader.trace ≡ Some t) where
    with_some : IsReading s.reader.has_header s.reader.decls (Some (behind past t))
    with_some = subst (λ o. IsReading s.reader.has_header s.reader.decls (option_map (behind past) o)) is S.reading

    pub header_read : s.reader.has_header ≡ true
    header_read = has_header s.reader.has_header s.reader.decls (behind past t) with_some

    pub read_behind : IsRead (behind past t)
    read_behind = (some_read s.reader.has_header s.reader.decls (behind past t) with_some).0

    pub some_events : 0 < length (behind past t).events
    some_events = (some_read s.reader.has_header s.reader.decls (behind past t) with_some).1

    pub lines_behind : taken ≡ lines (behind past t)
    lines_behind = S.lines_are ∙ (λ i. lines_read (header_read i) s.reader.decls (option_map (behind past) (is i)))

    -- what it stands for when the trace with what was handed on is another
    pub stands_behind : (n : EventStream A) (u : TraceState) (more : List (List ℕ)) → n.reader.trace ≡ Some u → n.before ≡ s.before
        → n.reader.has_header ≡ s.reader.has_header → IsRead (behind past u) → 0 < length (behind past u).events → more ≡ lines (behind past u)
        → StandsWith n past more
    stands_behind n u more now same header read some are = record {
      handed_on = S.handed_on ∙ sym same;
      none_before = λ none. absurd (none-some u (sym none ∙ now));
      reading = subst (λ (p : Bool × Option TraceState). IsReading p.0 n.reader.decls (option_map (behind past) p.1))
          (λ i. (sym (header ∙ header_read) i, sym now i)) (read, some);
      lines_are = are ∙ (λ i. lines_read (sym (header ∙ header_read) i) n.reader.decls (option_map (behind past) (sym now i)));
    }

    -- a line before which an event stands
    pub taken_behind : (n : EventStream A) (u : TraceState) (line : List ℕ) → n.reader.trace ≡ Some u → n.before ≡ s.before
        → n.reader.has_header ≡ s.reader.has_header → TakesLine (lines (behind past t)) line (behind past u) → 0 < length u.events
        → TakesBehind trace_causes line (StandsWith n past) taken
    taken_behind n u line now same header takes some = record {
      no_cause = ap (λ ls. trace_causes.line ls line) lines_behind ∙ takes.no_cause;
      stands = stands_behind n u (taken ++ line ∷ []) now same header takes.is_read (omega (arith, some, length-append past u.events))
          ((λ i. lines_behind i ++ line ∷ []) ∙ sym takes.lines);
    }

-- some lines were read, and some events stand there
pub read_some : {A : Type 0} (s : EventStream A) (t : TraceState) → s.reader.trace ≡ Some t → StandsForSome s → IsReadBehind s.before t
read_some s t is some = record { past = some.past; count = some.stands.handed_on; is_read = read_behind s some.past some.lines some.stands t is }

-- the cause at the end goes by whether the header was read
pub end_same : (header : Bool) (decls : DeclsState) (past : List Event) (trace : Option TraceState) (last : List ℕ)
    → end_cause (lines_read header decls trace) last ≡ end_cause (lines_read header decls (option_map (behind past) trace)) last
end_same false decls past trace last = refl
end_same true decls past trace last = by (length last == 0) refl
  where
    by : (b : Bool) → (length last == 0) ≡ b
        → end_cause (lines (trace_read decls trace)) last ≡ end_cause (lines (trace_read decls (option_map (behind past) trace))) last
    by b e = end_behind (trace_read decls trace) last b e ∙ sym (end_behind (trace_read decls (option_map (behind past) trace)) last b e)

-- the text is the trace's where no cause holds at its end
pub text_at_end : {A : Type 0} (s : EventStream A) (last : List ℕ) → IsTextAtEnd s last
unfolding text
text_at_end s last past taken S none =
    let with_past = option_map (behind past) s.reader.trace in
    let no_cause : end_cause (lines_read s.reader.has_header s.reader.decls with_past) last ≡ None = ap (λ ls. end_cause ls last) (sym S.lines_are) ∙ none in
    let header = header_before_end s.reader.has_header s.reader.decls with_past last no_cause in
    let reading = subst (λ b. IsReading b s.reader.decls with_past) header S.reading in
    let empty : last ≡ [] = no_bytes last (end_empty taken last none).0 in
    let these : taken ≡ lines (trace_read s.reader.decls with_past) = S.lines_are ∙ ap (λ b. lines_read b s.reader.decls with_past) header in
    record {
      has_text = (read_of s.reader.decls with_past reading).has_text;
      printed = (λ i. flat_map ended (these i) ++ empty i) ∙ append-nil (flat_map ended (lines (trace_read s.reader.decls with_past)));
    }

-- the room that is left says nothing of the trace
lines_again : (decls : DeclsState) (events : List Event) (m n : ℕ)
    → lines (record { decls = decls; events = events; spare = m }) ≡ lines (record { decls = decls; events = events; spare = n })
unfolding lines
lines_again decls events m n = refl

pub as_listed : (t u : TraceState) → u.decls ≡ t.decls → u.events ≡ t.events → lines u ≡ lines t
unfolding lines
as_listed t u decls events = λ i. header (decls i).version ∷ map declaration_line (decls i).declarations ++ map (event_line (decls i)) (events i)

pub read_again : (t u : TraceState) → u.decls ≡ t.decls → u.events ≡ t.events → IsRead t → IsRead u
read_again t u decls events read =
    subst (λ (v : TraceState). IsRead v) (λ i. record { decls = sym decls i; events = sym events i; spare = u.spare })
    (record {
      has_text = record {
        well_formed = read.has_text.well_formed;
        is_trace = record {
          fit = read.has_text.is_trace.fit;
          values = read.has_text.is_trace.values;
          limited = read.has_text.is_trace.limited;
        };
      };
      seen_is = ap seen (lines_again t.decls t.events u.spare t.spare) ∙ read.seen_is;
      few_places = read.few_places;
    })

-- its events are handed on
pub handed_on : {A : Type 0} (s n : EventStream A) (t u : TraceState) (past : List Event) (taken : List (List ℕ)) → StandsWith s past taken
    → s.reader.trace ≡ Some t → n.reader.trace ≡ Some u → n.reader.has_header ≡ s.reader.has_header → n.before ≡ s.before + length t.events
    → u.decls ≡ t.decls → u.events ≡ [] → StandsWith n (past ++ events_of s) taken
handed_on s n t u past taken S is now header more decls none =
    let all : events_of s ≡ t.events = (λ i. (trace_read s.reader.decls (option_map (behind []) (is i))).events) in
    let events : (behind (past ++ events_of s) u).events ≡ (behind past t).events =
    (λ i. (past ++ all i) ++ none i) ∙ append-nil (past ++ t.events) in
    let read = read_again (behind past t) (behind (past ++ events_of s) u) decls events (read_behind s past taken S t is) in
    let header_is = header ∙ header_read s past taken S t is in
    let some = some_events s past taken S t is in
    record {
      handed_on = length-append past (events_of s) ∙ (λ i. S.handed_on i + length (all i)) ∙ sym more;
      none_before = λ gone. absurd (none-some u (sym gone ∙ now));
      reading = subst (λ (p : Bool × Option TraceState). IsReading p.0 n.reader.decls (option_map (behind (past ++ events_of s)) p.1))
          (λ i. (sym header_is i, sym now i)) (read, subst (λ (es : List Event). 0 < length es) (sym events) some);
      lines_are = lines_behind s past taken S t is ∙ sym (as_listed (behind past t) (behind (past ++ events_of s) u) decls events)
          ∙ (λ i. lines_read (sym header_is i) n.reader.decls (option_map (behind (past ++ events_of s)) (sym now i)));
    }

-- which line comes next
pub next_line : {A : Type 0} (s : EventStream A) (past : List Event) (taken : List (List ℕ)) → StandsWith s past taken
    → length taken ≡ length (lines_read s.reader.has_header s.reader.decls s.reader.trace) + s.before
next_line s past taken S = by s.reader.trace refl
  where
    by : (trace : Option TraceState) → s.reader.trace ≡ trace
        → length taken ≡ length (lines_read s.reader.has_header s.reader.decls s.reader.trace) + s.before
    by None is = let zero = S.none_before is in let same = ap length (lines_before s past taken S is) in omega (arith, zero, same)
    by (Some t) is =
        let own_lines : lines_read s.reader.has_header s.reader.decls s.reader.trace ≡ lines t =
        (λ i. lines_read (header_read s past taken S t is i) s.reader.decls (is i)) in
        let whole = ap length (lines_behind s past taken S t is) ∙ lines_len (behind past t) in
        let own = ap length own_lines ∙ lines_len t in
        let all = S.handed_on in
        omega (arith, whole, own, all, length-append past t.events)

few_declared_lines : (header : Bool) (decls : DeclsState) → IsReading header decls None → length (lines_read header decls None) ≤ 4294967296
few_declared_lines true decls reading =
    let few = few_declared decls reading.has_text.well_formed in
    omega (arith, few, lines_len (begun decls))
few_declared_lines false decls reading = omega arith

-- there are few lines, however many events were handed on
pub few_lines : {A : Type 0} (s : EventStream A) → StandsForSome s
    → length (lines_read s.reader.has_header s.reader.decls s.reader.trace) + s.before ≤ 8589934592
few_lines s some = by s.reader.trace refl
  where
    by : (trace : Option TraceState) → s.reader.trace ≡ trace
        → length (lines_read s.reader.has_header s.reader.decls s.reader.trace) + s.before ≤ 8589934592
    by None is =
        let zero = some.stands.none_before is in
        let few = few_declared_lines s.reader.has_header s.reader.decls
        (subst (λ o. IsReading s.reader.has_header s.reader.decls (option_map (behind some.past) o)) is some.stands.reading) in
        let same = ap (λ o. length (lines_read s.reader.has_header s.reader.decls o)) is in
        omega (arith, zero, few, same)
    by (Some t) is =
        let whole = next_line s some.past some.lines some.stands in
        let read = (read_behind s some.past some.lines some.stands t is).has_text in
        let limited = read.is_trace.limited in
        let few = few_declared t.decls read.well_formed in
        let all = ap length (lines_behind s some.past some.lines some.stands t is) ∙ lines_len (behind some.past t) in
        omega (arith, whole, limited, few, all)

-- a line before which an event stands is taken, or what is owed is told
pub answered_behind : {A : Type 0} (s n : EventStream A) (t u : TraceState) (line : List ℕ) (r : Result (Unit {0}) TextCause)
    → s.reader.trace ≡ Some t → n.reader.trace ≡ Some u → n.before ≡ s.before → n.reader.has_header ≡ s.reader.has_header
    → ((past : List Event) → length past ≡ s.before → IsRead (behind past t) → TakesOrTells (lines (behind past t)) line r (behind past u))
    → OnOk r (0 < length u.events)
    → MatchResult r (λ _. (past : List Event) → Takes trace_causes (StandsWith s past) line (StandsWith n past))
    (λ told. (past : List Event) → Tells trace_causes (StandsWith s past) line told)
answered_behind s n t u line (Ok x) is now same header takes grown = λ past taken S.
    taken_behind s past taken S t is n u line now same header (takes past S.handed_on (read_behind s past taken S t is)) grown
answered_behind s n t u line (Err told) is now same header takes grown = λ past taken S.
    takes past S.handed_on (read_behind s past taken S t is) ∙ (λ i. owed (trace_causes.line (sym (lines_behind s past taken S t is) i) line))
