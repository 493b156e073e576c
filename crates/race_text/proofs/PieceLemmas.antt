-- Where a text is cut off that is short enough to be counted.
use Rattle.std.proofs.Common.{◌≡◌, ℕ, ◌+◌, ◌^◌, ◌<◌, List, length, take, Option, sym, ap, subst, ◌∙◌, length-append}
use Rattle.std.{proofs.{Common.arith, Math.Seq.take-append_seam}, specs.Io.KnownBytes.Appends}
use Rattle.race_records.specs.Page.{IsCutOff}

-- a text that is short enough to be counted is cut off just behind the bytes that were sent
pub cut_is_exact : (start now : Option (List ℕ)) (sent : ℕ) (text : List ℕ) → length text < 2 ^ 64 → IsCutOff start now sent text
    → Appends start now (take sent text) × (sent < length text)
cut_is_exact start now sent text bounded cut =
    let short = cut.short in
    let counted = cut.counted in
    let len : length text ≡ length cut.out + length cut.rest = ap length cut.split ∙ length-append cut.out cut.rest in
    let is : sent ≡ length cut.out = omega (arith, counted, len, bounded, short) in (
      subst (λ (l : List ℕ). Appends start now l)
          (sym (ap (λ n. take n text) is ∙ ap (take (length cut.out)) cut.split ∙ take-append_seam cut.out cut.rest)) cut.appended,
      omega (arith, is, len, short),
    )
