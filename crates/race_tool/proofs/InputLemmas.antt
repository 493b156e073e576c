-- One more block of an input.
use Rattle.std.proofs.Common.{◌≡◌, ◌≢◌, ℕ, zero, suc, ◌+◌, ◌<◌, Bool, true, false, IsTrue, List, [], ◌++◌, Option, Some}
use Rattle.std.proofs.Common.{None, Result, Ok, Err, IfOk, IfErr, IsErrAnd, OnOk, refl, sym, ap, subst, ◌∙◌, arith}
use Rattle.std.proofs.{Common.{append-nil, length-append}, KnownBytes.{Consumes-nil, Consumes-trans, Consumes-kept}}
use Rattle.std.specs.Io.KnownBytes.{Keeps}
use Rattle.race_records.specs.Devices.{more_by, one_more}
use Rattle.race_text.specs.{declared.cause.{TextCause.TextCause, TextFault.TextFault}, Lines.{Causes, first_fault}}
use Rattle.race_text.{specs.Fed.{ended_after, ended_fault}, proofs.FedLemmas.ended_fault_stays}
use Rattle.race_tool.specs.{declared.input.ReadFault.ReadFault, Input.{HasRead, HasReadAll, IsInput, IsReadBy, ReadsBy}}
use Rattle.race_tool.specs.Input.{ReadsFine, ReadsByKept, FeedsMore}

-- where nothing was fed no line is at fault
pub nothing_ended : (causes : Causes) → ended_fault causes [] ≡ None
unfolding ended_fault ended_after
nothing_ended causes = refl

-- before the first one
unfoldable pub fed_none : (causes : Causes) (start : Option (List ℕ)) (StandsFor : List ℕ → Type 0) → StandsFor [] → HasRead causes start start StandsFor 0
fed_none causes start StandsFor stands = record {
  bytes = [];
  consumed = Consumes-nil start;
  stands = stands;
  many = omega arith;
  fine = nothing_ended causes;
}

-- all was read, and the reader stands for it
module _ (causes : Causes) (start now : Option (List ℕ)) (Stands : List ℕ → Type 0) (r : HasReadAll causes start now Stands)
    {V : Type 0} (IsText : V → List ℕ → Type 0) where
  -- the reader of lines answers so
  abbrev ReadsAs : Result V TextFault → Type 0
  ReadsAs text =
      IfOk text (λ value. (bytes : List ℕ) → Stands bytes → IsText value bytes)
      × IfErr text (λ told. (bytes : List ℕ) → Stands bytes → first_fault causes bytes ≡ Some told)

  pub end_read : (text : Result V TextFault)
      → IfOk text (λ value. (bytes : List ℕ) → Stands bytes → IsText value bytes)
      → IfErr text (λ told. (bytes : List ℕ) → Stands bytes → first_fault causes bytes ≡ Some told)
      → ReadsBy IsText causes start now text
  end_read text read told = record {
    bytes = r.read.bytes;
    to_end = true;
    read = record { consumed = r.read.consumed; stops = (r.at_end, r.read.fine) };
    is_so = λ whole is. subst (λ (bytes : List ℕ). IsReadBy IsText causes bytes text) (sym is) (so text read told);
    all = all text;
  }
    where
      so : (t : Result V TextFault) → IfOk t (λ value. (bytes : List ℕ) → Stands bytes → IsText value bytes)
          → IfErr t (λ f. (bytes : List ℕ) → Stands bytes → first_fault causes bytes ≡ Some f) → IsReadBy IsText causes r.read.bytes t
      so (Ok value) read told = read r.read.bytes r.read.stands
      so (Err f) read told = told r.read.bytes r.read.stands

      all : (t : Result V TextFault) → OnOk t (IsTrue true)
      all (Ok value) = refl
      all (Err f) = tt

  -- what is answered then, but for want of memory, is what holds of what was read
  pub answered : (P : Result V TextFault → Type 0) → ((text : Result V TextFault) → ReadsAs text → P text)
      → (told : Result V TextFault) {E : Type 0} (answer : Result (Result V TextFault) E)
      → IfOk told (λ value. (bytes : List ℕ) → Stands bytes → IsText value bytes)
      → IfErr told (λ f. (bytes : List ℕ) → Stands bytes → f.cause ≢ TextCause.OutOfMemory → first_fault causes bytes ≡ Some f)
      → IfOk answer (λ text. text ≡ told) → IfOk answer (λ text. IfErr text (λ f. f.cause ≢ TextCause.OutOfMemory))
      → IfOk answer P
  answered P so told (Err e) read fault same other = tt
  answered P so told (Ok text) read fault same other =
      subst P (sym same)
      (so told (read, faulty told fault (subst (λ (t : Result V TextFault). IfErr t (λ f. f.cause ≢ TextCause.OutOfMemory)) same other)))
    where
      faulty : (t : Result V TextFault) → IfErr t (λ f. (bytes : List ℕ) → Stands bytes → f.cause ≢ TextCause.OutOfMemory → first_fault causes bytes ≡ Some f)
          → IfErr t (λ f. f.cause ≢ TextCause.OutOfMemory) → IfErr t (λ f. (bytes : List ℕ) → Stands bytes → first_fault causes bytes ≡ Some f)
      faulty (Ok value) told other = tt
      faulty (Err f) told other = λ bytes S. told bytes S other

  pub all_answered : (told : Result V TextFault) {E : Type 0} (answer : Result (Result V TextFault) E)
      → IfOk told (λ value. (bytes : List ℕ) → Stands bytes → IsText value bytes)
      → IfErr told (λ f. (bytes : List ℕ) → Stands bytes → f.cause ≢ TextCause.OutOfMemory → first_fault causes bytes ≡ Some f)
      → IfOk answer (λ text. text ≡ told) → IfOk answer (λ text. IfErr text (λ f. f.cause ≢ TextCause.OutOfMemory))
      → IfOk answer (λ text. ReadsBy IsText causes start now text)
  all_answered told answer =
      answered (λ text. ReadsBy IsText causes start now text) (λ text (read, fault). end_read text read fault) told answer

  -- and it is kept
  pub all_kept : {K : Type 0} (HasKept : K → List ℕ → Type 0) (kept : K) → HasKept kept r.read.bytes
      → (told : Result V TextFault) {E : Type 0} (answer : Result (Result V TextFault) E)
      → IfOk told (λ value. (bytes : List ℕ) → Stands bytes → IsText value bytes)
      → IfErr told (λ f. (bytes : List ℕ) → Stands bytes → f.cause ≢ TextCause.OutOfMemory → first_fault causes bytes ≡ Some f)
      → IfOk answer (λ text. text ≡ told) → IfOk answer (λ text. IfErr text (λ f. f.cause ≢ TextCause.OutOfMemory))
      → IfOk answer (ReadsByKept HasKept kept IsText causes start now)
  unfolding end_read
  all_kept HasKept kept keeps told answer =
      answered (ReadsByKept HasKept kept IsText causes start now) (λ text (read, fault). (end_read text read fault, keeps)) told answer

-- what was read, by another reader
pub read_as : (causes : Causes) (start now : Option (List ℕ)) (Old New : List ℕ → Type 0) (turns : ℕ)
    → ((bytes : List ℕ) → Old bytes → New bytes) → HasRead causes start now Old turns → HasRead causes start now New turns
read_as causes start now Old New turns on read = record {
  bytes = read.bytes;
  consumed = read.consumed;
  stands = on read.bytes read.stands;
  many = read.many;
  fine = read.fine;
}

module _ (causes : Causes) (start before after : Option (List ℕ)) (Old New : List ℕ → Type 0) (turns : ℕ) (fed : HasRead causes start before Old turns) where
  -- one more block, in which there were bytes
  unfoldable pub fed_more : (r : FeedsMore causes before after Old New (Ok true)) → HasRead causes start after New (turns + 1)
  fed_more r = record {
    bytes = fed.bytes ++ r.taken;
    consumed = Consumes-trans start before after fed.bytes r.taken fed.consumed r.consumed;
    stands = r.goes_on fed.bytes fed.stands;
    many = omega (arith, fed.many, r.told.1, length-append fed.bytes r.taken);
    fine = r.told.0 fed.bytes fed.stands;
  }

  -- or none, at the end
  unfoldable pub fed_all : FeedsMore causes before after Old New (Ok false) → HasReadAll causes start after New
  fed_all r = record {
    turns = turns;
    read = record {
      bytes = fed.bytes ++ r.taken;
      consumed = Consumes-trans start before after fed.bytes r.taken fed.consumed r.consumed;
      stands = r.goes_on fed.bytes fed.stands;
      many = omega (arith, fed.many, length-append fed.bytes r.taken);
      fine = r.told.0 fed.bytes fed.stands;
    };
    at_end = r.told.1;
  }

  -- the read before whose failure no line was at fault
  pub fine_before : Keeps before after → ReadsFine causes start after
  fine_before kept = record { bytes = fed.bytes; consumed = Consumes-kept start before after fed.bytes fed.consumed kept; fine = fed.fine }

  module _ {V : Type 0} (IsText : V → List ℕ → Type 0) where
    -- a faulty line was told
    unfoldable pub fault_read : (told : TextFault) → FeedsMore causes before after Old New (Err told) → ReadsBy IsText causes start after (Err told)
    fault_read told r =
        let faulty : ended_fault causes (fed.bytes ++ r.taken) ≡ Some told = r.told fed.bytes fed.stands in
        record {
          bytes = fed.bytes ++ r.taken;
          to_end = false;
          read = record {
            consumed = Consumes-trans start before after fed.bytes r.taken fed.consumed r.consumed;
            stops = record { front = fed.bytes; block = r.taken; bytes_are = refl; short = r.short; fine = fed.fine; fault = told; faulty = faulty };
          };
          is_so = λ whole (rest, is). ap (first_fault causes) is ∙ ended_fault_stays causes (fed.bytes ++ r.taken) rest told faulty;
          all = tt;
        }

    -- what the reader of lines answers at the end, but for want of memory
    pub end_answered : (told : Result V TextFault) {E : Type 0} (answer : Result (Result V TextFault) E) → FeedsMore causes before after Old New (Ok false)
        → IfOk told (λ value. (bytes : List ℕ) → New bytes → IsText value bytes)
        → IfErr told (λ f. (bytes : List ℕ) → New bytes → f.cause ≢ TextCause.OutOfMemory → first_fault causes bytes ≡ Some f)
        → IfOk answer (λ text. text ≡ told) → IfOk answer (λ text. IfErr text (λ f. f.cause ≢ TextCause.OutOfMemory))
        → IfOk answer (λ text. ReadsBy IsText causes start after text)
    end_answered told answer r = all_answered causes start after New (fed_all r) IsText told answer

-- one read more is counted, whether or not it is the first
pub read_more : (turns start before after : ℕ) → (turns ≡ 0 → before ≡ start) → (0 < turns → before ≡ more_by turns start) → after ≡ one_more before
    → after ≡ more_by (turns + 1) start
read_more zero start before after first reads more = let none : before ≡ start = first refl in omega (arith, none, more)
read_more (suc n) start before after first reads more = let some : before ≡ more_by (suc n) start = reads (omega arith) in omega (arith, some, more)

-- what was read is read so, as it stands
pub itself : (bytes : List ℕ) (to_end : Bool) → IsInput bytes to_end bytes
itself bytes true = refl
itself bytes false = ([], sym (append-nil bytes))

-- where want of memory is the only fault, there is no other
pub out_of_memory_alone : {T : Type 0} (r : Result T ReadFault) → IfErr r (λ fault. fault ≡ ReadFault.OutOfMemory)
    → (other : ReadFault) → ReadFault.OutOfMemory ≢ other → r ≡ Err other → ⊥
out_of_memory_alone (Ok _) memory other differs is = cc
out_of_memory_alone (Err fault) memory other differs is = differs cc

-- an error that goes on as the answer of another type
abbrev pub err : {X E : Type 0} → E → Result X E
err e = Err e

module _ {X Y E : Type 0} (r : Result Y E) (e g : E) (is : IsErrAnd r (λ f. f ≡ e)) where
  pub err_same : r ≡ Err g → err {X = X} e ≡ Err g
  err_same same = by r is same
    where
      or_else : Result Y E → E
      or_else (Ok y) = e
      or_else (Err f) = f

      by : (s : Result Y E) → IsErrAnd s (λ f. f ≡ e) → s ≡ Err g → err {X = X} e ≡ Err g
      by (Ok y) is same = absurd is
      by (Err f) is same = ap (λ (x : E). Err x) (sym is ∙ ap or_else same)

  pub err_other : r ≢ Err g → err {X = X} e ≢ Err g
  err_other other same = by r is other
    where
      or_else : Result X E → E
      or_else (Ok x) = g
      or_else (Err f) = f

      by : (s : Result Y E) → IsErrAnd s (λ f. f ≡ e) → s ≢ Err g → ⊥
      by (Ok y) is other = absurd is
      by (Err f) is other = other (ap (λ (x : E). Err x) (is ∙ ap or_else same))

-- an error is the same whatever else could be answered
pub err_again : {X Y E : Type 0} (e g : E) → err {X = X} e ≡ Err g → err {X = Y} e ≡ Err g
err_again {X} {Y} {E} e g same = ap (λ (f : E). err {X = Y} f) (ap or_else same)
  where
    or_else : Result X E → E
    or_else (Ok x) = e
    or_else (Err f) = f
