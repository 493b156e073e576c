-- The turns of a trace that is judged while it is read: the first one, the next, and the end.
use Rattle.std.proofs.Common.{◌≡◌, ℕ, ◌<◌, Bool, true, false, List, [], ◌++◌, Option, Some, None, Result, Ok, Err, IfOk, IfErr}
use Rattle.std.proofs.{Common.{IsErrAnd, OnOk, refl, sym, ap, ◌∙◌, subst, arith}, lemmas.Bool.Decides.nat_tests}
use Rattle.race_records.specs.{declared.source.Source.Source, Devices.{unread, source_failures, one_more}}
use Rattle.race_shards.specs.{Judging.JudgeState, Limits.is_block}
use Rattle.race_text.specs.declared.{cause.TextFault.TextFault, fed.Fed.Fed, stream.EventStream.EventStream}
use Rattle.race_text.specs.{Fault.trace_causes, Fed.{ForEachFedTo, IsFed}, Grammar.ForEachLines, Lines.first_fault}
use Rattle.race_text.specs.Stream.{Known, StandsFor, IsTextOfStream, decls_of, events_of}
use Rattle.race_tool.specs.declared.{handed.{Handed.Handed, Judging.Judging}, input.ReadFault.ReadFault}
use Rattle.race_tool.specs.declared.intake.{Intake.Intake, JudgedStream.JudgedStream}
use Rattle.race_tool.specs.Input.{IsBetweenFine, ReadsBy, ReadsInput}
use Rattle.race_tool.specs.Intake.{HasTaken, GoesOnTo, IsReadable, IsReadOn, ReadsOnAll, CanFinish}
use Rattle.race_tool.specs.Streams.{CanHandOn, CanJudgeAll, CanTakeNext, IsHanded, IsReadText, JudgesAll, StandsBehind, known_behind}
use Rattle.race_tool.proofs.{InputEnds.no_text, IntakeLemmas.taken_none}
use Rattle.race_tool.proofs.InputLemmas.{end_read, err_other, err_same, out_of_memory_alone, read_as}
use Rattle.race_shards.specs.Judging as judging
use Rattle.race_text.specs.Grammar as grammar

-- a block has an event
pub is_some_block : (block : ℕ) → is_block block ≡ true → 0 < block
is_some_block block is = grind (arith, nat_tests)

-- what was read since the start was fed after what was handed on, and no read failed
pub record IsAt {R A : Type 0} (remaining : R → Option (List ℕ)) (start source : Source R) (i : Intake A) (h : Handed A) : Type 0 where
  pub known : Known
  pub handed : IsHanded known h.judge h.events.items
  pub taken : HasTaken remaining (StandsFor known) start source i.reader i.turns
  pub calm : source_failures source ≡ source_failures start
  pub readable : IsReadable (StandsFor known) i
  pub can : CanJudgeAll h

-- nothing was read, and nothing handed on
pub at_start : {R A : Type 0} (remaining : R → Option (List ℕ)) (source : Source R) (i : Intake A) (h : Handed A) (k : Known) → h.judge ≡ None → h.events.items ≡ []
    → is_block h.judging.block ≡ true → k.past ≡ [] → IsFed trace_causes (StandsFor k) i.reader [] → i.turns ≡ 0 → IsReadable (StandsFor k) i
    → IsAt remaining source source i h
at_start remaining source i h k no_judge no_events block nothing fed none readable = record {
  known = k;
  handed = subst (λ judge. IsHanded k judge h.events.items) (sym no_judge)
      (subst (λ events. IsHanded k None events) (sym no_events) (record { front = []; past_is = nothing; judged = refl }));
  taken = subst (λ n. HasTaken remaining (StandsFor k) source source i.reader n) (sym none) (taken_none remaining (StandsFor k) source i.reader fed);
  calm = refl;
  readable = readable;
  can = record { can = subst (λ judge. CanTakeNext judge h.events.items) (sym no_judge) no_events; block = block };
}

-- the reader with another stream
abbrev pub with_stream : {A : Type 0} → Fed (EventStream A) A → EventStream A → Fed (EventStream A) A
with_stream r s = record { lines = record { reader = s; part = r.lines.part }; fault = r.fault }

-- which stands for each line for which the one before stood
module _ {A : Type 0} (Old New : EventStream A → List (List ℕ) → Type 0) (r : Fed (EventStream A) A) (s : EventStream A)
    (on : ForEachLines (Old r.lines.reader) (New s)) where
  fed_as : (fed : List ℕ) → IsFed trace_causes Old r fed → IsFed trace_causes New (with_stream r s) fed
  fed_as fed S = record {
    taken = λ fine more.
        let some = S.taken fine more in
        record { lines = some.lines; stands = on some.lines some.stands; taken = some.taken };
    told = S.told;
  }

  fine_as : IsBetweenFine Old r → IsBetweenFine New (with_stream r s)
  fine_as ready =
      let between = ready.between in
      record {
        fine = ready.fine;
        between = record {
          some = record { lines = between.some.lines; stands = on between.some.lines between.some.stands };
          unended = between.unended;
        };
      }

-- reading on failed
pub failed_turn : {R A : Type 0} {remaining : R → Option (List ℕ)} {start source now : Source R} {i next : Intake A} {old : Handed A} {e : ReadFault}
    {result : Result (Result (JudgedStream A) TextFault) ReadFault} → IsAt remaining start source i old → IsErrAnd result (λ f. f ≡ e)
    → ReadsOnAll remaining source now i next (Err e) → ReadsInput IsReadText trace_causes remaining start now result
failed_turn {R} {A} {remaining} {start} {source} {now} {i} {next} {old} {e} {result} at gives reads =
    let read = reads.each at.known at.readable in
    record {
      ok = no_text result e gives _;
      calm = λ other. read.calm (err_other result e ReadFault.Failed gives other) ∙ at.calm;
      failed = λ is. read.failed (err_same result e ReadFault.Failed gives is) ∙ ap one_more at.calm;
      fine = λ is. read.fine (err_same result e ReadFault.Failed gives is) start at.taken;
      endless = λ is. read.endless (err_same result e ReadFault.Endless gives is) start at.taken;
    }

-- a turn, in which the judge took what was handed on
module _ {R A : Type 0} {remaining : R → Option (List ℕ)} {start source now : Source R} {i next : Intake A} {old : Handed A} {answer : Result Bool TextFault}
    (h : Handed A) (at : IsAt remaining start source i old) (reads : ReadsOnAll remaining source now i next (Ok answer))
    (judges : OnOk answer (JudgesAll old h)) where
  went_to : (a : Result Bool TextFault) → answer ≡ a → GoesOnTo remaining (StandsFor at.known) start now next.reader next.turns a
  went_to a is =
      subst (λ (b : Result Bool TextFault). GoesOnTo remaining (StandsFor at.known) start now next.reader next.turns b) is
      ((reads.each at.known at.readable).ok start at.taken)

  calm_still : source_failures now ≡ source_failures start
  calm_still = (reads.each at.known at.readable).calm (λ e. cc) ∙ at.calm

  -- a line was at fault
  pub faulty_turn : (fault : TextFault) → answer ≡ Err fault → ReadsInput {V = JudgedStream A} IsReadText trace_causes remaining start now (Ok (Err fault))
  faulty_turn fault is = record {
    ok = went_to (Err fault) is;
    calm = λ _. calm_still;
    failed = λ is. absurd cc;
    fine = λ is. absurd cc;
    endless = λ is. absurd cc;
  }

  module _ (more : Bool) (is : answer ≡ Ok more) where
    went_on : IsReadOn (StandsFor at.known) i.turns next more
    went_on = subst (λ (b : Result Bool TextFault). IfOk b (λ m. IsReadOn (StandsFor at.known) i.turns next m)) is (reads.each at.known at.readable).on

    judged_all : JudgesAll old h
    judged_all = subst (λ (a : Result Bool TextFault). OnOk a (JudgesAll old h)) is judges

    none_is_left : h.events.items ≡ []
    none_is_left = judged_all.none

    pub block_still : is_block h.judging.block ≡ true
    block_still = ap (λ (j : Judging). is_block j.block) judged_all.judging ∙ at.can.block

  -- all was read
  pub can_finish : answer ≡ Ok false → (k : Known) × CanFinish k next h
  can_finish is =
      let all = went_to (Ok false) is in (
        at.known,
        record {
          fed = all.read.bytes;
          stands = all.read.stands;
          ready = (went_on false is).readable.ready;
          judged = (judged_all false is).goes_on at.known at.handed;
          none = none_is_left false is;
        },
      )

  pub last_turn : answer ≡ Ok false → (result : Result (Result (JudgedStream A) TextFault) ReadFault)
      → IfOk result (λ told. IfOk told (λ whole. (k : Known) → IsHanded k h.judge h.events.items
      → ForEachFedTo trace_causes (StandsFor k) next.reader (IsReadText whole)))
      → IfOk result (λ told. IfErr told (λ fault. (k : Known)
      → ForEachFedTo trace_causes (StandsFor k) next.reader (λ fed. first_fault trace_causes fed ≡ Some fault)))
      → IfErr result (λ fault. fault ≡ ReadFault.OutOfMemory)
      → ReadsInput IsReadText trace_causes remaining start now result
  last_turn is result text fault refused = record {
    ok = by result text fault;
    calm = λ _. calm_still;
    failed = λ failed. absurd (out_of_memory_alone result refused ReadFault.Failed (λ e. cc) failed);
    fine = λ failed. absurd (out_of_memory_alone result refused ReadFault.Failed (λ e. cc) failed);
    endless = λ endless. absurd (out_of_memory_alone result refused ReadFault.Endless (λ e. cc) endless);
  }
    where
      Fed_to : List ℕ → Type 0
      Fed_to = IsFed trace_causes (StandsFor at.known) next.reader

      by : (r : Result (Result (JudgedStream A) TextFault) ReadFault)
          → IfOk r (λ told. IfOk told (λ whole. (k : Known) → IsHanded k h.judge h.events.items
          → ForEachFedTo trace_causes (StandsFor k) next.reader (IsReadText whole)))
          → IfOk r (λ told. IfErr told (λ fault. (k : Known)
          → ForEachFedTo trace_causes (StandsFor k) next.reader (λ fed. first_fault trace_causes fed ≡ Some fault)))
          → IfOk r (λ text. ReadsBy IsReadText trace_causes (unread remaining start) (unread remaining now) text)
      by (Ok (Ok whole)) text fault =
          end_read trace_causes (unread remaining start) (unread remaining now) Fed_to (went_to (Ok false) is) IsReadText (Ok whole)
          (text at.known ((judged_all false is).goes_on at.known at.handed)) tt
      by (Ok (Err told)) text fault =
          end_read trace_causes (unread remaining start) (unread remaining now) Fed_to (went_to (Ok false) is) IsReadText (Err told) tt (fault at.known)
      by (Err e) text fault = tt

  -- more may follow, and the events that were read are handed on
  module _ (is : answer ≡ Ok true) where
    abbrev stream : EventStream A
    stream = next.reader.lines.reader

    behind : (lines : List (List ℕ)) → StandsFor at.known stream lines → StandsBehind h at.known stream lines
    behind lines S = record { stream = S; handed = (judged_all true is).goes_on at.known at.handed }

    some_behind : grammar.StandsForSome (StandsBehind h at.known stream)
    some_behind = let some = (went_on true is).readable.ready.between.some in record { lines = some.lines; stands = behind some.lines some.stands }

    pub can_hand_on : CanHandOn h stream
    can_hand_on = record { some = (at.known, some_behind); none = none_is_left true is; begun = (went_on true is).begun refl; block = block_still true is }

    module _ (after : Handed A) (s : EventStream A) (stands : (k : Known) → ForEachLines (StandsBehind h k stream) (StandsBehind after (known_behind k stream) s)) where
      abbrev known_next : Known
      known_next = known_behind at.known stream

      on : ForEachLines (StandsFor at.known stream) (StandsFor known_next s)
      on lines S = (stands at.known lines (behind lines S)).stream

      pub next_turn : CanJudgeAll after
          → IsAt remaining start now (record { block = next.block; ahead = next.ahead; reader = with_stream next.reader s; turns = next.turns; wanted = next.wanted }) after
      next_turn can =
          let taken = went_to (Ok true) is in
          let readable = (went_on true is).readable in
          record {
            known = known_next;
            handed = (stands at.known some_behind.lines some_behind.stands).handed;
            taken = record {
              read = read_as trace_causes (unread remaining start) (unread remaining now) (IsFed trace_causes (StandsFor at.known) next.reader)
                  (IsFed trace_causes (StandsFor known_next) (with_stream next.reader s)) next.turns
                  (fed_as (StandsFor at.known) (StandsFor known_next) next.reader s on) taken.read;
              first = taken.first;
              reads = taken.reads;
            };
            calm = calm_still;
            readable = record {
              room = readable.room;
              some = readable.some;
              ready = fine_as (StandsFor at.known) (StandsFor known_next) next.reader s on readable.ready;
              limit = readable.limit;
            };
            can = can;
          }

-- what was read as a whole, whichever of the two judges
module _ {A : Type 0} (i : Intake A) (h : Handed A) (read : Result (EventStream A) TextFault)
    (text : IfOk read (λ s. (k : Known) → ForEachFedTo trace_causes (StandsFor k) i.reader (IsTextOfStream k s))) (s : EventStream A) (is : read ≡ Ok s) where
  whole_text : (k : Known) (fed : List ℕ) → IsFed trace_causes (StandsFor k) i.reader fed → IsTextOfStream k s fed
  whole_text = subst (λ (r : Result (EventStream A) TextFault). IfOk r (λ s. (k : Known) → ForEachFedTo trace_causes (StandsFor k) i.reader (IsTextOfStream k s))) is text

  pub can_judge_rest : (k : Known) × CanFinish k i h → (k : Known) × grammar.StandsForSome (StandsBehind h k s)
  can_judge_rest (k, can) =
      let t = whole_text k can.fed can.stands in
      (k, record { lines = t.lines; stands = record { stream = t.stands; handed = can.judged } })

  pub judged_whole : (judge : JudgeState)
      → ((k : Known) → ForEachLines (StandsBehind h k s) (λ _. judging.StandsFor (decls_of s).declarations judge (k.past ++ events_of s)))
      → (k : Known) → IsHanded k h.judge h.events.items → ForEachFedTo trace_causes (StandsFor k) i.reader (IsReadText (record { stream = s; judge = judge }))
  judged_whole judge judged k handed fed S =
      let t = whole_text k fed S in
      record {
        past = k.past;
        lines = t.lines;
        stream = t.stands.stream;
        judged = judged k t.lines (record { stream = t.stands; handed = handed });
        text = t.text;
      }
