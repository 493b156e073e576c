-- The line of a fault is the same in the bytes that were read and in the whole input.
use Rattle.std.proofs.Common.{◌≡◌, ℕ, suc, ◌+◌, ◌-◌, Bool, true, false, List, [], ◌∷◌, ◌++◌, length, slice_get, Option}
use Rattle.std.proofs.Common.{Some, None, Err, refl, sym, ap, subst, ◌∙◌, arith}
use Rattle.std.proofs.{Common.length-append, lemmas.Option.{none-some, same_Some}}
use Rattle.race_text.specs.{declared.cause.{TextCause.TextCause, TextFault.TextFault}, Lines.{Causes, or_later, first_fault}, Words.parts_of}
use Rattle.race_text.{specs.Fed.{ended_after, ended_fault}, proofs.FedLemmas.{glue, seam, ended_fault_stays}}
use Rattle.race_tool.specs.Input.{IsInput, Reads, ReadsBy}

module _ (causes : Causes) where
  -- a fault of ended lines stands at one of them, which is the same whatever follows
  at_line : (parts before more : List (List ℕ)) (f : TextFault) → ended_after causes before parts ≡ Some f
      → (k : ℕ) × (f.line ≡ length before + 1 + k) × (slice_get (glue parts more) k ≡ slice_get parts k)
  unfolding ended_after glue
  at_line [] before more f h = absurd (none-some f h)
  at_line (last ∷ []) before more f h = absurd (none-some f h)
  at_line (line ∷ next ∷ others) before more f h = by (causes.line before line) (λ later. at_line (next ∷ others) (before ++ line ∷ []) more f later) h
    where
      by : (c : Option TextCause)
          → (ended_after causes (before ++ line ∷ []) (next ∷ others) ≡ Some f
          → (k : ℕ) × (f.line ≡ length (before ++ line ∷ []) + 1 + k) × (slice_get (glue (next ∷ others) more) k ≡ slice_get (next ∷ others) k))
          → or_later (length before + 1) c (ended_after causes (before ++ line ∷ []) (next ∷ others)) ≡ Some f
          → (k : ℕ) × (f.line ≡ length before + 1 + k) × (slice_get (line ∷ glue (next ∷ others) more) k ≡ slice_get (line ∷ next ∷ others) k)
      by None on later =
          let (k, is, same) = on later in
          (suc k, omega (arith, is, length-append before (line ∷ [])), same)
      by (Some c) on is = (0, let line_is : length before + 1 ≡ f.line = ap (λ (x : TextFault). x.line) (same_Some _ f is) in omega (arith, line_is), refl)

  line_stays : (bytes more : List ℕ) (f : TextFault) → ended_fault causes bytes ≡ Some f
      → slice_get (parts_of (bytes ++ more)) (f.line - 1) ≡ slice_get (parts_of bytes) (f.line - 1)
  unfolding ended_fault
  line_stays bytes more f h =
      let (k, is, same) = at_line (parts_of bytes) [] (parts_of more) f h in
      let at : k ≡ f.line - 1 = omega (arith, is) in
      ap (λ ps. slice_get ps (f.line - 1)) (seam bytes more)
      ∙ subst (λ i. slice_get (glue (parts_of bytes) (parts_of more)) i ≡ slice_get (parts_of bytes) i) at same

  module _ {V : Type 0} (IsText : V → List ℕ → Type 0) (before after : Option (List ℕ)) (f : TextFault)
      (reads : ReadsBy IsText causes before after (Err f)) where
    -- the line of the fault that was told
    pub same_line : (whole : List ℕ) → IsInput reads.bytes reads.to_end whole
        → slice_get (parts_of whole) (f.line - 1) ≡ slice_get (parts_of reads.bytes) (f.line - 1)
    same_line whole is = by reads.to_end reads.read is (reads.is_so whole is)
      where
        by : (to_end : Bool) → Reads causes before after reads.bytes to_end → IsInput reads.bytes to_end whole → first_fault causes whole ≡ Some f
            → slice_get (parts_of whole) (f.line - 1) ≡ slice_get (parts_of reads.bytes) (f.line - 1)
        by true read same first = ap (λ bytes. slice_get (parts_of bytes) (f.line - 1)) same
        by false read (rest, is) first =
            let told = read.stops.fault in
            let stays = ended_fault_stays causes reads.bytes rest told read.stops.faulty in
            let same : told ≡ f = same_Some told f (sym stays ∙ ap (first_fault causes) (sym is) ∙ first) in
            ap (λ bytes. slice_get (parts_of bytes) (f.line - 1)) is
            ∙ line_stays reads.bytes rest f (subst (λ (t : TextFault). ended_fault causes reads.bytes ≡ Some t) same read.stops.faulty)
