-- How a trace is read on that is judged meanwhile.
use Rattle.std.proofs.Common.{◌≡◌, ◌≢◌, ℕ, ◌+◌, Bool, true, false, IsTrue, ◌≤◌, ◌<◌, List, [], length, vec_len, Option, None, Result}
use Rattle.std.{proofs.Common.{Ok, Err, IfOk, IfErr, OnOk, OnErr, refl, sym, ap, ◌∙◌, subst, arith}, specs.Io.KnownBytes.Keeps}
use Rattle.race_records.specs.declared.source.Source.{Source}
use Rattle.race_records.specs.Devices.{unread, source_reads, source_failures, more_by, one_more}
use Rattle.race_text.specs.declared.{cause.TextFault.TextFault, fed.Fed.Fed, stream.EventStream.EventStream}
use Rattle.race_text.specs.{Fault.trace_causes, Fed.{IsFed, IsReady}, Stream.has_events}
use Rattle.race_tool.specs.declared.input.{ReadFault.ReadFault, TheConstants.MAX_TURNS}
use Rattle.race_tool.specs.declared.intake.{Intake.Intake, JudgedStream.JudgedStream}
use Rattle.race_tool.specs.Input.{HasReadAll, FeedsMore, IsBetweenFine, IsRoom, ReadsBy}
use Rattle.race_tool.specs.{Intake.{HasTaken, GoesOnTo, IsReadable, IsReadOn, ReadsOn, ReadsOnAll}, Streams.IsReadText}
use Rattle.race_tool.proofs.{InputEnds.feeds_as, InputLemmas.{err, fed_none, fed_more, fed_all, fault_read, fine_before, read_more}}

-- what was told is this
pub as_told : {answer : Result Bool TextFault} {more is : Bool} → answer ≡ Ok more → more ≡ is → answer ≡ Ok is
as_told told is = told ∙ ap (λ (b : Bool). Ok b) is

module _ {R A : Type 0} (remaining : R → Option (List ℕ)) (Stands : EventStream A → List (List ℕ) → Type 0) where
  -- before the first read
  pub taken_none : (source : Source R) (reader : Fed (EventStream A) A) → IsFed trace_causes Stands reader [] → HasTaken remaining Stands source source reader 0
  taken_none source reader stands = record {
    read = fed_none trace_causes (unread remaining source) (IsFed trace_causes Stands reader) stands;
    first = λ none. refl;
    reads = λ some. absurd (omega (arith, some));
  }

  module _ (start before : Source R) (old : Fed (EventStream A) A) (turns : ℕ) (held : HasTaken remaining Stands start before old turns) where
    module _ (after : Source R) (new : Fed (EventStream A) A) where
      abbrev Feeds : Result Bool TextFault → Type 0
      Feeds answer = FeedsMore trace_causes (unread remaining before) (unread remaining after) (IsFed trace_causes Stands old) (IsFed trace_causes Stands new) answer

      -- one more block
      pub taken_more : Feeds (Ok true) → source_reads after ≡ one_more (source_reads before) → HasTaken remaining Stands start after new (turns + 1)
      taken_more more reads = record {
        read = fed_more trace_causes (unread remaining start) (unread remaining before) (unread remaining after)
            (IsFed trace_causes Stands old) (IsFed trace_causes Stands new) turns held.read more;
        first = λ none. absurd (omega (arith, none));
        reads = λ some. read_more turns (source_reads start) (source_reads before) (source_reads after) held.first held.reads reads;
      }

      -- as it was told
      pub taken_next : (answer : Result Bool TextFault) → answer ≡ Ok true → Feeds answer → source_reads after ≡ one_more (source_reads before)
          → HasTaken remaining Stands start after new (turns + 1)
      taken_next answer is feeds reads = taken_more (subst (λ (a : Result Bool TextFault). Feeds a) is feeds) reads

      -- or the end, or a fault
      pub taken_all : Feeds (Ok false) → HasReadAll trace_causes (unread remaining start) (unread remaining after) (IsFed trace_causes Stands new)
      taken_all end =
          fed_all trace_causes (unread remaining start) (unread remaining before) (unread remaining after)
          (IsFed trace_causes Stands old) (IsFed trace_causes Stands new) turns held.read end

      pub faulty : (fault : TextFault) → Feeds (Err fault)
          → ReadsBy (λ (text : JudgedStream A) bytes. IsReadText text bytes) trace_causes (unread remaining start) (unread remaining after) (Err fault)
      faulty fault told =
          fault_read trace_causes (unread remaining start) (unread remaining before) (unread remaining after)
          (IsFed trace_causes Stands old) (IsFed trace_causes Stands new) turns held.read (λ (text : JudgedStream A) bytes. IsReadText text bytes) fault told

-- reading on, between two blocks: what was taken since any time before is taken still, and no read failed
pub record IsOn {R A : Type 0} (remaining : R → Option (List ℕ)) (Stands : EventStream A → List (List ℕ) → Type 0)
    (initial before : Source R) (first old : Intake A) : Type 0 where
  pub goes : (start : Source R) → HasTaken remaining Stands start initial first.reader first.turns
      → HasTaken remaining Stands start before old.reader old.turns
  pub calm : source_failures before ≡ source_failures initial

module _ {R A : Type 0} {remaining : R → Option (List ℕ)} {Stands : EventStream A → List (List ℕ) → Type 0} {initial before : Source R} {first old : Intake A}
    (is_on : IsOn remaining Stands initial before first old) where
  -- it went on
  goes_on : (after : Source R) (new : Intake A) (answer : Result Bool TextFault)
      → ((start : Source R) → HasTaken remaining Stands start before old.reader old.turns → GoesOnTo remaining Stands start after new.reader new.turns answer)
      → IfOk answer (λ more. IsReadOn Stands first.turns new more) → source_failures after ≡ source_failures before
      → ReadsOn remaining Stands initial after first new (Ok answer)
  goes_on after new answer to on same = record {
    ok = λ start held. to start (is_on.goes start held);
    on = on;
    calm = λ _. same ∙ is_on.calm;
    failed = λ is. absurd cc;
    fine = λ is. absurd cc;
    endless = λ is. absurd cc;
  }

  -- a read failed
  pub at_failure : {after : Source R} {new : Intake A} {fault : ReadFault}
      → (err {X = Result Bool TextFault} fault ≢ Err ReadFault.Failed → source_failures after ≡ source_failures before)
      → (err {X = Result Bool TextFault} fault ≡ Err ReadFault.Failed → source_failures after ≡ one_more (source_failures before))
      → (err {X = Result Bool TextFault} fault ≡ Err ReadFault.Failed → Keeps (unread remaining before) (unread remaining after))
      → err {X = Result Bool TextFault} fault ≢ Err ReadFault.Endless → ReadsOn remaining Stands initial after first new (Err fault)
  at_failure {after} {new} {fault} calm_now failed kept ends = record {
    ok = tt;
    on = tt;
    calm = λ other. calm_now other ∙ is_on.calm;
    failed = λ is. failed is ∙ ap one_more is_on.calm;
    fine = λ is start held.
        fine_before trace_causes (unread remaining start) (unread remaining before) (unread remaining after)
        (IsFed trace_causes Stands old.reader) (IsFed trace_causes Stands old.reader) old.turns (is_on.goes start held).read (kept is);
    endless = λ is. absurd (ends is);
  }

  -- there were as many reads as there may be
  pub at_limit : old.turns ≡ MAX_TURNS → ReadsOn remaining Stands initial before first old (Err ReadFault.Endless)
  at_limit all = record {
    ok = tt;
    on = tt;
    calm = λ _. is_on.calm;
    failed = λ is. absurd cc;
    fine = λ is. absurd cc;
    endless = λ is start held.
        let taken = is_on.goes start held in
        record {
          reads = subst (λ n. source_reads before ≡ more_by n (source_reads start)) all (taken.reads (omega (arith, all)));
          bytes = taken.read.bytes;
          consumed = taken.read.consumed;
          many = subst (λ n. n ≤ length taken.read.bytes) all taken.read.many;
          fine = taken.read.fine;
        };
  }

  -- a block is read and fed
  module _ {after : Source R} {new : Intake A} {answer : Result Bool TextFault}
      (feeds : FeedsMore trace_causes (unread remaining before) (unread remaining after) (IsFed trace_causes Stands old.reader)
      (IsFed trace_causes Stands new.reader) answer)
      (calm_now : source_failures after ≡ source_failures before) where
    pub at_fault : (fault : TextFault) → answer ≡ Err fault → ReadsOn remaining Stands initial after first new (Ok (Err fault))
    at_fault fault is =
        goes_on after new (Err fault)
        (λ start held. faulty remaining Stands start before old.reader old.turns held after new.reader fault (feeds_as is feeds)) tt calm_now

    -- there may be more
    pub on_next : answer ≡ Ok true → new.turns ≡ old.turns + 1 → source_reads after ≡ one_more (source_reads before)
        → IsOn remaining Stands initial after first new
    on_next is turns reads = record {
      goes = λ start taken.
          subst (λ n. HasTaken remaining Stands start after new.reader n) (sym turns)
          (taken_next remaining Stands start before old.reader old.turns (is_on.goes start taken) after new.reader answer is feeds reads);
      calm = calm_now ∙ is_on.calm;
    }

    module _ (readable : IsReadable Stands new) where
      pub at_end : answer ≡ Ok false → ReadsOn remaining Stands initial after first new (Ok (Ok false))
      at_end is =
          goes_on after new (Ok false)
          (λ start held. taken_all remaining Stands start before old.reader old.turns held after new.reader (feeds_as is feeds))
          (record { readable = readable; later = λ no. cc; begun = λ no. cc }) calm_now

      -- one more
      pub at_enough : answer ≡ Ok true → new.turns ≡ old.turns + 1 → source_reads after ≡ one_more (source_reads before)
          → first.turns ≤ old.turns → IsTrue (has_events new.reader.lines.reader) → ReadsOn remaining Stands initial after first new (Ok (Ok true))
      at_enough is turns reads later begun =
          goes_on after new (Ok true)
          (λ start held. subst (λ n. HasTaken remaining Stands start after new.reader n) (sym turns)
          (taken_next remaining Stands start before old.reader old.turns held after new.reader answer is feeds reads))
          (record { readable = readable; later = λ yes. omega (arith, turns, later); begun = λ yes. begun }) calm_now

-- what holds is told whatever was read
pub told_all : {P : Type 0} → P → (r : Result (Result Bool TextFault) ReadFault) → IfOk r (λ answer. OnOk answer P)
told_all all (Ok (Ok more)) = all
told_all all (Ok (Err fault)) = tt
told_all all (Err fault) = tt

-- a reader that told no fault is ready for the next block
fine_now : {A : Type 0} (Stands : EventStream A → List (List ℕ) → Type 0) (old new : Fed (EventStream A) A) (answer : Result Bool TextFault) (more : Bool)
    → answer ≡ Ok more → OnOk answer (new.fault ≡ None) → (IsReady Stands old → IsReady Stands new) → IsBetweenFine Stands old → IsBetweenFine Stands new
fine_now Stands old new answer more is fine on was =
    let none = subst (λ (a : Result Bool TextFault). OnOk a (new.fault ≡ None)) is fine in
    record { fine = none; between = on (λ _. was.between) none }

-- so the next block can be read
pub readable_now : {A : Type 0} {Stands : EventStream A → List (List ℕ) → Type 0} {old new : Intake A} {answer : Result Bool TextFault} {more : Bool}
    → answer ≡ Ok more → OnOk answer (new.reader.fault ≡ None) → (IsReady Stands old.reader → IsReady Stands new.reader) → IsReadable Stands old
    → IsRoom (vec_len new.block) → new.wanted ≡ old.wanted → new.turns ≤ MAX_TURNS → IsReadable Stands new
readable_now {A} {Stands} {old} {new} {answer} {more} is fine on was room wanted limit = record {
  room = room;
  some = subst (λ n. 0 < n) (sym wanted) was.some;
  ready = fine_now Stands old.reader new.reader answer more is fine on was.ready;
  limit = limit;
}

-- where the judge is refused before more is read
pub refused_before : {R A : Type 0} (remaining : R → Option (List ℕ)) (source : Source R) (i : Intake A)
    → ReadsOnAll remaining source source i i (Err ReadFault.OutOfMemory)
refused_before remaining source i = record {
  each = λ k was. record {
    ok = tt;
    on = tt;
    calm = λ _. refl;
    failed = λ is. absurd cc;
    fine = λ is. absurd cc;
    endless = λ is. absurd cc;
  };
}

-- What is told of a judge and of what was read beside it.
module _ {R A E : Type 0} (remaining : R → Option (List ℕ)) (Stands : EventStream A → List (List ℕ) → Type 0) (source now : Source R) (before after : Intake A)
    (judged : Result (Unit {0}) E) where
  abbrev Reads : Result (Result Bool TextFault) ReadFault → Type 0
  Reads r = ReadsOn remaining Stands source now before after r

  refused_beside : (more : Bool) → Reads (Ok (Ok more)) → Reads (Err ReadFault.OutOfMemory)
  refused_beside more r = record {
    ok = tt;
    on = tt;
    calm = λ _. r.calm (λ e. cc);
    failed = λ is. absurd cc;
    fine = λ is. absurd cc;
    endless = λ is. absurd cc;
  }

  pub told_beside : (read result : Result (Result Bool TextFault) ReadFault)
      → IfOk read (λ answer. OnOk answer (OnErr judged (result ≡ Err ReadFault.OutOfMemory))) → OnOk judged (result ≡ read)
      → IfOk read (λ answer. IfErr answer (λ fault. result ≡ Ok (Err fault))) → IfErr read (λ fault. result ≡ Err fault)
      → Reads read → Reads result
  told_beside (Ok (Ok more)) result refused same fault stopped r = by judged refused same
    where
      by : (j : Result (Unit {0}) E) → OnErr j (result ≡ Err ReadFault.OutOfMemory) → OnOk j (result ≡ Ok (Ok more)) → Reads result
      by (Ok _) _ is = subst Reads (sym is) r
      by (Err _) is _ = subst Reads (sym is) (refused_beside more r)
  told_beside (Ok (Err e)) result refused same fault stopped r = subst Reads (sym fault) r
  told_beside (Err e) result refused same fault stopped r = subst Reads (sym stopped) r

-- what the judge promised is told where the reading goes on
pub judged_beside : (P : Type 0) {E : Type 0} (judged : Result (Unit {0}) E) → OnOk judged P → (read result : Result (Result Bool TextFault) ReadFault)
    → IfOk read (λ answer. OnOk answer (OnErr judged (result ≡ Err ReadFault.OutOfMemory)))
    → IfOk read (λ answer. IfErr answer (λ fault. result ≡ Ok (Err fault))) → IfErr read (λ fault. result ≡ Err fault)
    → IfOk result (λ answer. OnOk answer P)
judged_beside P {E} judged all (Ok (Ok more)) result refused fault stopped = by judged all refused
  where
    by : (j : Result (Unit {0}) E) → OnOk j P → OnErr j (result ≡ Err ReadFault.OutOfMemory) → IfOk result (λ answer. OnOk answer P)
    by (Ok _) all _ = told_all all result
    by (Err _) _ is = subst (λ (a : Result (Result Bool TextFault) ReadFault). IfOk a (λ answer. OnOk answer P)) (sym is) tt
judged_beside P judged all (Ok (Err e)) result refused fault stopped =
    subst (λ (a : Result (Result Bool TextFault) ReadFault). IfOk a (λ answer. OnOk answer P)) (sym fault) tt
judged_beside P judged all (Err e) result refused fault stopped =
    subst (λ (a : Result (Result Bool TextFault) ReadFault). IfOk a (λ answer. OnOk answer P)) (sym stopped) tt
