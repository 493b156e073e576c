-- The headers: each says its version, and nothing else says one.
use Rattle.std.proofs.Common.{◌≡◌, ℕ, Bool, true, false, if◌then◌else◌, List, Some, None, length, refl, sym, ap, ◌∙◌}
use Rattle.std.{proofs.lemmas.{Option.{none-some, same_Some}, Slice.Eq.bytes_eq-Decides}, specs.Str.bytes_eq}
use Rattle.race_records.specs.declared.version.Version.{Version}
use Rattle.race_text.specs.{Text.{header, ended}, Fault.version_said}

pub version_again : (version : Version) → version_said (header version) ≡ Some version
version_again Version.One = refl
version_again Version.Two = refl

-- what says a version is its header
pub said_by_header : (line : List ℕ) (version : Version) → version_said line ≡ Some version → line ≡ header version
said_by_header line version h = by (bytes_eq line (header Version.One)) refl (bytes_eq line (header Version.Two)) refl h
  where
    is : (one : Version) → Some one ≡ Some version → bytes_eq line (header one) ≡ true → line ≡ header version
    is one h e = (bytes_eq-Decides line (header one)).0 e ∙ ap header (same_Some one version h)

    by : (a : Bool) → bytes_eq line (header Version.One) ≡ a → (b : Bool) → bytes_eq line (header Version.Two) ≡ b
        → (if a then Some Version.One else (if b then Some Version.Two else None)) ≡ Some version → line ≡ header version
    by true e b k h = is Version.One h e
    by false e true k h = is Version.Two h k
    by false e false k h = absurd (none-some version h)

-- so two headers that are equal are of one version
pub same_version : (a b : Version) → header a ≡ header b → a ≡ b
same_version a b h = same_Some a b (sym (version_again a) ∙ ap version_said h ∙ version_again b)

pub header_len : (version : Version) → length (ended (header version)) ≡ 10
header_len Version.One = refl
header_len Version.Two = refl
