-- How reading an input block by block ends, where it stood for what was fed so far and no read had failed.
use Rattle.std.proofs.Common.{◌≡◌, ◌≢◌, ℕ, Bool, false, List, Option, Some, Result, Ok, Err, IfOk, IfErr}
use Rattle.std.{proofs.Common.{IsErrAnd, ap, subst, ◌∙◌}, specs.Io.KnownBytes.Keeps}
use Rattle.race_records.specs.{declared.source.Source.Source, Devices.{unread, source_failures, one_more}}
use Rattle.race_text.specs.{declared.cause.{TextCause.TextCause, TextFault.TextFault}, Lines.{Causes, first_fault}}
use Rattle.race_tool.specs.{declared.input.ReadFault.ReadFault, Input.{HasRead, FeedsMore, FeedsAndKeeps, ReadsInput, ReadsAndKeeps, ReadsBy}}
use Rattle.race_tool.proofs.InputLemmas.{fed_all, fine_before, fault_read, end_answered, all_kept, err, err_same, err_other}
use Rattle.race_tool.proofs.InputLemmas.{out_of_memory_alone}

-- an error is no text
pub no_text : {T E : Type 0} (r : Result T E) (e : E) → IsErrAnd r (λ f. f ≡ e) → (P : T → Type 0) → IfOk r P
no_text (Ok t) e is P = absurd is
no_text (Err f) e is P = tt

-- the same of this answer
pub feeds_as : {causes : Causes} {before now : Option (List ℕ)} {Old New : List ℕ → Type 0} {more answer : Result Bool TextFault} → more ≡ answer
    → FeedsMore causes before now Old New more → FeedsMore causes before now Old New answer
feeds_as {causes} {before} {now} {Old} {New} is feeds = subst (λ (m : Result Bool TextFault). FeedsMore causes before now Old New m) is feeds

-- and of what is kept
pub keeps_as : {K : Type 0} {HasKept : K → List ℕ → Type 0} {kept kept_now : K} {causes : Causes} {before now : Option (List ℕ)}
    {Old New : List ℕ → Type 0} {more answer : Result Bool TextFault} → more ≡ answer
    → FeedsAndKeeps HasKept kept kept_now causes before now Old New more → FeedsAndKeeps HasKept kept kept_now causes before now Old New answer
keeps_as {K} {HasKept} {kept} {kept_now} {causes} {before} {now} {Old} {New} is both =
    subst (λ (m : Result Bool TextFault). FeedsAndKeeps HasKept kept kept_now causes before now Old New m) is both

module _ {R V : Type 0} {IsText : V → List ℕ → Type 0} {causes : Causes} {remaining : R → Option (List ℕ)} {source now : Source R} (before : Source R)
    {Old : List ℕ → Type 0} {turns : ℕ} (fed : HasRead causes (unread remaining source) (unread remaining before) Old turns)
    (calm : source_failures before ≡ source_failures source) where
  -- a read failed
  pub reads_failed : (e : ReadFault) (result : Result (Result V TextFault) ReadFault) → IsErrAnd result (λ f. f ≡ e)
      → (err {X = Result Bool TextFault} e ≢ Err ReadFault.Failed → source_failures now ≡ source_failures before)
      → (err {X = Result Bool TextFault} e ≡ Err ReadFault.Failed → source_failures now ≡ one_more (source_failures before))
      → (err {X = Result Bool TextFault} e ≡ Err ReadFault.Failed → Keeps (unread remaining before) (unread remaining now))
      → err {X = Result Bool TextFault} e ≢ Err ReadFault.Endless
      → ReadsInput IsText causes remaining source now result
  reads_failed e result is calm_now failed kept ends = record {
    ok = no_text result e is _;
    calm = λ other. calm_now (err_other result e ReadFault.Failed is other) ∙ calm;
    failed = λ f. failed (err_same result e ReadFault.Failed is f) ∙ ap one_more calm;
    fine = λ f.
        fine_before causes (unread remaining source) (unread remaining before) (unread remaining now) Old Old turns fed
        (kept (err_same result e ReadFault.Failed is f));
    endless = λ f. absurd (ends (err_same result e ReadFault.Endless is f));
  }

  module _ {K : Type 0} (HasKept : K → List ℕ → Type 0) (kept kept_now : K) (has : HasKept kept fed.bytes) {New : List ℕ → Type 0}
      (calm_now : source_failures now ≡ source_failures before) where
    -- all was read, and this is what is told of it, but for want of memory
    pub reads_ended : FeedsAndKeeps HasKept kept kept_now causes (unread remaining before) (unread remaining now) Old New (Ok false)
        → (told : Result V TextFault) (result : Result (Result V TextFault) ReadFault)
        → IfOk told (λ value. (bytes : List ℕ) → New bytes → IsText value bytes)
        → IfErr told (λ f. (bytes : List ℕ) → New bytes → f.cause ≢ TextCause.OutOfMemory → first_fault causes bytes ≡ Some f)
        → IfOk result (λ text. text ≡ told) → IfOk result (λ text. IfErr text (λ f. f.cause ≢ TextCause.OutOfMemory))
        → IfErr result (λ f. f ≡ ReadFault.OutOfMemory)
        → ReadsAndKeeps HasKept kept_now IsText causes remaining source now result
    unfolding fed_all
    reads_ended both told result text fault same others memory = record {
      reads = record {
        ok = end_answered causes (unread remaining source) (unread remaining before) (unread remaining now) Old New turns fed IsText told result
            both.feeds text fault same others;
        calm = λ _. calm_now ∙ calm;
        failed = λ f. absurd (out_of_memory_alone result memory ReadFault.Failed (λ e. cc) f);
        fine = λ f. absurd (out_of_memory_alone result memory ReadFault.Failed (λ e. cc) f);
        endless = λ f. absurd (out_of_memory_alone result memory ReadFault.Endless (λ e. cc) f);
      };
      keeps = all_kept causes (unread remaining source) (unread remaining now) New
          (fed_all causes (unread remaining source) (unread remaining before) (unread remaining now) Old New turns fed both.feeds)
          IsText HasKept kept_now (both.keeps fed.bytes has) told result text fault same others;
    }

    -- a line was at fault
    pub reads_faulty : (fault : TextFault)
        → FeedsAndKeeps HasKept kept kept_now causes (unread remaining before) (unread remaining now) Old New (Err fault)
        → ReadsAndKeeps HasKept kept_now IsText causes remaining source now (Ok (Err fault))
    unfolding fault_read
    reads_faulty fault both =
        let by : ReadsBy IsText causes (unread remaining source) (unread remaining now) (Err fault) =
        fault_read causes (unread remaining source) (unread remaining before) (unread remaining now) Old New turns fed IsText fault both.feeds in
        record {
          reads = record { ok = by; calm = λ _. calm_now ∙ calm; failed = λ f. absurd cc; fine = λ f. absurd cc; endless = λ f. absurd cc };
          keeps = (by, both.keeps fed.bytes has);
        }
