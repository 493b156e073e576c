-- What the numbers of a list of cases stand for, and which lists of cases are equal.
use Rattle.std.proofs.Common.{◌≡◌, ℕ, ◌/◌, ◌%◌, ◌==◌, ◌&&◌, Bool, true, false, if◌then◌else◌, nat_lt, List, [], ◌∷◌}
use Rattle.std.proofs.{Common.{Option, Some, None, Decides, refl, sym, ap, true≢false}, lemmas.Bool.Decides.Decides-eqb}
use Rattle.std.{proofs.lemmas.Slice.Eq.slice_eq-Decides, specs.Cmp.{IsEquivalence, IsPartialEquivalence}}
use Rattle.std.specs.Cmp.{partial_equiv_from_equiv, decided, Lexicographic.pointwise}
use Rattle.race_records.specs.declared.cases.{Case.Case, Dir.Dir}

-- the channel that the number stands for, which is nil where the bit is 1
abbrev pub chan_of : ℕ → ℕ → Option ℕ
chan_of nil number = if nil == 1 then None else Some number

-- what a case of this bit would do: it sends where the bit is 1
abbrev pub dir_of : ℕ → Dir
dir_of bit = if bit == 1 then Dir.Send else Dir.Recv

-- the case of two bits and a number
abbrev pub case_of : ℕ → ℕ → ℕ → Case
case_of bit nil number = record { dir = dir_of bit; chan = chan_of nil number }

-- the cases: bit k of `sends` tells whether case k sends, and of `nils` whether its channel is nil
abbrev pub cases_of : List ℕ → ℕ → ℕ → List Case
cases_of [] sends nils = []
cases_of (number ∷ numbers) sends nils = case_of (sends % 2) (nils % 2) number ∷ cases_of numbers (sends / 2) (nils / 2)

-- what is kept of a channel's number: no channel has 65,535 or more, and of all these 65,535 is kept
abbrev pub kept_number : ℕ → ℕ
kept_number c = if nat_lt c 65_535 then c else 65_535

abbrev pub kept_chan : Option ℕ → Option ℕ
kept_chan None = None
kept_chan (Some c) = Some (kept_number c)

-- what is kept of a case: all of it, where its channel's number is below 65,535
abbrev pub kept : Case → Case
kept case = record { dir = case.dir; chan = kept_chan case.chan }

-- the two would do the same
abbrev pub same_dir : Dir → Dir → Bool
same_dir Dir.Send Dir.Send = true
same_dir Dir.Recv Dir.Recv = true
same_dir _ _ = false

-- the channels are the same, or both are nil
abbrev pub same_chan : Option ℕ → Option ℕ → Bool
same_chan None None = true
same_chan (Some c) (Some d) = c == d
same_chan _ _ = false

abbrev pub same_case : Case → Case → Bool
same_case a b = same_dir a.dir b.dir && same_chan a.chan b.chan

-- the cases are the same, in the same order
abbrev pub same_cases : List Case → List Case → Bool
same_cases cases others = pointwise same_case cases others

same_dir-Decides : (a b : Dir) → Decides (same_dir a b) (a ≡ b)
same_dir-Decides Dir.Send Dir.Send = (λ _. refl, λ _. refl)
same_dir-Decides Dir.Recv Dir.Recv = (λ _. refl, λ _. refl)
same_dir-Decides _ _ = (λ e. absurd (true≢false (sym e)), λ e. cc)

same_chan-Decides : (a b : Option ℕ) → Decides (same_chan a b) (a ≡ b)
same_chan-Decides None None = (λ _. refl, λ _. refl)
same_chan-Decides (Some c) (Some d) = (λ e. ap Some ((Decides-eqb c d).0 e), λ e. (Decides-eqb c d).1 cc)
same_chan-Decides _ _ = (λ e. absurd (true≢false (sym e)), λ e. cc)

same_case-Decides : (a b : Case) → Decides (same_case a b) (a ≡ b)
same_case-Decides a b = by (same_dir a.dir b.dir) (same_chan a.chan b.chan) (same_dir-Decides a.dir b.dir) (same_chan-Decides a.chan b.chan)
  where
    by : (m n : Bool) → Decides m (a.dir ≡ b.dir) → Decides n (a.chan ≡ b.chan) → Decides (m && n) (a ≡ b)
    by true true p q = (λ _ i. record { dir = p.0 refl i; chan = q.0 refl i }, λ _. refl)
    by false n p q = (λ h. absurd (true≢false (sym h)), λ h. absurd (true≢false (sym (p.1 (ap (λ (x : Case). x.dir) h)))))
    by true false p q = (λ h. absurd (true≢false (sym h)), λ h. absurd (true≢false (sym (q.1 (ap (λ (x : Case). x.chan) h)))))

-- equal lists of cases are the same, and those alone
pub same_cases-Decides : (cases others : List Case) → Decides (same_cases cases others) (cases ≡ others)
same_cases-Decides cases others = slice_eq-Decides {E = same_case} same_case-Decides cases others (same_cases cases others) refl

pub same_cases_equivalence : IsEquivalence same_cases
same_cases_equivalence = decided same_cases same_cases-Decides

pub same_cases_laws : IsPartialEquivalence same_cases
same_cases_laws = partial_equiv_from_equiv same_cases_equivalence
