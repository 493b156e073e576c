-- The cases of a select, printed one after another.
use Rattle.std.proofs.Common.{◌≡◌, ℕ, zero, suc, ◌<◌, false, IsTrue, List, [], ◌∷◌, ◌++◌, length, map, get_or, refl, ap}
use Rattle.std.proofs.{Common.{◌∙◌, arith, append-nil}, lemmas.List.Concat.flat_map-cons}
use Rattle.std.specs.List.{flat_map, join_with_byte}
use Rattle.race_records.specs.{declared.cases.Case.Case, Declarations.Declaration}
use Rattle.race_text.specs.{Text.{case_text, cases_text}, Writing.separator}

-- what is printed of each case: it stands behind this byte, and each later one behind a comma
abbrev pub pieces_behind : List Declaration → ℕ → List Case → List (List ℕ)
pieces_behind ds byte [] = []
pieces_behind ds byte (case ∷ cases) = (byte ∷ case_text ds case) ∷ pieces_behind ds 44 cases

abbrev pub all_pieces : List Declaration → List Case → List (List ℕ)
all_pieces ds cases = pieces_behind ds 32 cases

pub pieces_len : (ds : List Declaration) (byte : ℕ) (cases : List Case) → length (pieces_behind ds byte cases) ≡ length cases
pieces_len ds byte [] = refl
pieces_len ds byte (case ∷ cases) = ap suc (pieces_len ds 44 cases)

later_piece : (ds : List Declaration) (cases : List Case) (k : ℕ) (d : Case) (e : List ℕ) → k < length cases
    → get_or (pieces_behind ds 44 cases) k e ≡ 44 ∷ case_text ds (get_or cases k d)
later_piece ds [] k d e within = absurd (omega arith)
later_piece ds (case ∷ cases) zero d e within = refl
later_piece ds (case ∷ cases) (suc k) d e within = later_piece ds cases k d e (omega arith)

-- piece k
pub piece_at : (ds : List Declaration) (cases : List Case) (k : ℕ) (d : Case) (e : List ℕ) → k < length cases
    → get_or (all_pieces ds cases) k e ≡ separator k ∷ case_text ds (get_or cases k d)
piece_at ds [] k d e within = absurd (omega arith)
piece_at ds (case ∷ cases) zero d e within = refl
piece_at ds (case ∷ cases) (suc k) d e within = later_piece ds cases k d e (omega arith)

-- all pieces, where there is a case
pub pieces_whole : (ds : List Declaration) (byte : ℕ) (case : Case) (cases : List Case)
    → flat_map (λ w. w) (pieces_behind ds byte (case ∷ cases)) ≡ byte ∷ join_with_byte 44 (map (case_text ds) (case ∷ cases))
pieces_whole ds byte case [] = flat_map-cons (λ w. w) (byte ∷ case_text ds case) [] ∙ append-nil (byte ∷ case_text ds case)
pieces_whole ds byte case (next ∷ cases) =
    flat_map-cons (λ w. w) (byte ∷ case_text ds case) (pieces_behind ds 44 (next ∷ cases))
    ∙ ap (λ l. (byte ∷ case_text ds case) ++ l) (pieces_whole ds 44 next cases)

-- so all of them are the word of the cases behind a space
pub pieces_printed : (ds : List Declaration) (cases : List Case) → 0 < length cases → flat_map (λ w. w) (all_pieces ds cases) ≡ 32 ∷ cases_text ds cases
pieces_printed ds [] some = absurd (omega arith)
pieces_printed ds (case ∷ cases) some = pieces_whole ds 32 case cases

pub some_case : (cases : List Case) → (cases ≡ [] → IsTrue false) → 0 < length cases
some_case [] some = cc (some refl)
some_case (case ∷ cases) some = omega arith
