-- A reader before its header, behind it and at the end.
use Rattle.std.proofs.Common.{◌≡◌, ℕ, ◌==◌, Bool, true, false, if◌then◌else◌, List, length, Option, Some, None, refl, sym}
use Rattle.std.proofs.Common.{ap, subst, ◌∙◌}
use Rattle.race_records.specs.{declared.version.Version.Version, Declarations.DeclsState}
use Rattle.race_text.specs.{declared.cause.TextCause.TextCause, Fault.header_cause, Reader.nothing_in}
use Rattle.race_script.specs.{Fault.{end_cause, is_whole}, Reading.version_said}
use Rattle.race_script.specs.Reader.{ReadState, IsEmpty, IsRead, IsReadBy, draft_read, lines_by, lines_read}
use Rattle.race_script.proofs.ReadLemmas.{IsBegun, end_header, end_behind}

-- with its first line it has begun
pub begins : (s : ReadState) (version : Version) (decls : DeclsState) → IsEmpty s → decls ≡ nothing_in version
    → IsBegun (record { has_header = true; decls = decls; ended = s.ended; unended = s.unended }) version
begins s version decls empty is = record { first = refl; decls = is; ended = empty.ended; unended = empty.unended }

-- its end, by whether it has the header
pub end_at_header : (s : ReadState) (last : List ℕ) (o : Option Version) → s.has_header ≡ false → version_said last ≡ o
    → header_cause o false ≡ end_cause (lines_read s) last
end_at_header s last o none says = sym (ap (λ b. end_cause (lines_by b (draft_read s)) last) none ∙ end_header last o says)

pub end_of_reader : (s : ReadState) (last : List ℕ) (b w : Bool) → s.has_header ≡ true → IsReadBy s.has_header s → (length last == 0) ≡ b
    → is_whole (draft_read s) ≡ w → (if b then (if w then None else Some TextCause.BadBlock) else Some TextCause.NoNewline) ≡ end_cause (lines_read s) last
end_of_reader s last b w has reading empty whole =
    let read : IsRead s = subst (λ b. IsReadBy b s) has reading in
    sym (ap (λ b. end_cause (lines_by b (draft_read s)) last) has ∙ end_behind (draft_read s) last b w read.seen_is empty whole)
