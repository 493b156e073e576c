-- Items that are printed one behind the other, with a mark before each.
use Rattle.std.proofs.Common.{ℕ, ◌≡◌, zero, suc, ◌+◌, ◌<◌, List, [], ◌∷◌, ◌++◌, get_or, length, take, drop, Option, Ok, Err, refl, sym, ap, ◌∙◌, subst, arith}
use Rattle.std.proofs.Common.{append-nil, append_assoc, add-one, codes, ◌==◌, false}
use Rattle.race_records.specs.{declared.sink.{Sink.Sink, WriteFault.WriteFault}, Page.{PageState, Printing}}
use Rattle.race_records.proofs.PageLemmas.{breaks_off_before, prints_behind}
use Rattle.race_report.specs.Report.{newline}
use Rattle.race_tool.specs.Explore.{listed, pick_text, picks_text}

-- the mark before the item of this number
abbrev pub mark_at : List ℕ → List ℕ → ℕ → List ℕ
mark_at mark next zero = mark
mark_at mark next (suc i) = next

-- which is always the second behind the first item
stays : (next : List ℕ) (i : ℕ) → mark_at next next i ≡ next
stays next zero = refl
stays next (suc i) = refl

pub next_mark : (mark next : List ℕ) (i : ℕ) → mark_at mark next (i + 1) ≡ next
next_mark mark next i = ap (mark_at mark next) (add-one i)

module _ {X : Type 0} (text : List ℕ → X → List ℕ) where
  -- one item more
  listed_more : (mark next : List ℕ) (xs : List X) (i : ℕ) (d : X) → i < length xs
      → listed text mark next (take (suc i) xs) ≡ listed text mark next (take i xs) ++ text (mark_at mark next i) (get_or xs i d)
  listed_more mark next [] i d within = absurd (omega (arith, within))
  listed_more mark next (x ∷ xs) zero d within = append-nil (text mark x)
  listed_more mark next (x ∷ xs) (suc i) d within =
      ap (λ l. text mark x ++ l) (listed_more next next xs i d (omega (arith, within))
      ∙ ap (λ m. listed text next next (take i xs) ++ text m (get_or xs i d)) (stays next i))
      ∙ sym (append_assoc (text mark x) (listed text next next (take i xs)) (text next (get_or xs i d)))

  -- all are those so far and the others
  listed_split : (mark next : List ℕ) (xs : List X) (i : ℕ)
      → listed text mark next xs ≡ listed text mark next (take i xs) ++ listed text (mark_at mark next i) next (drop i xs)
  listed_split mark next xs zero = refl
  listed_split mark next [] (suc i) = refl
  listed_split mark next (x ∷ xs) (suc i) =
      ap (λ l. text mark x ++ l) (listed_split next next xs i
      ∙ ap (λ m. listed text next next (take i xs) ++ listed text m next (drop i xs)) (stays next i))
      ∙ sym (append_assoc (text mark x) (listed text next next (take i xs)) (listed text next next (drop i xs)))

  module _ {W : Type 0} {contents : W → Option (List ℕ)} {a b c : Sink W} {p q s : PageState}
      (mark next : List ℕ) (xs : List X) (i : ℕ) (d : X) (within : i < length xs) (m : List ℕ) (is : m ≡ mark_at mark next i) where
    -- one item more is printed
    pub item_behind : Printing contents (Ok tt) a b p q (listed text mark next (take i xs))
        → Printing contents (Ok tt) b c q s (text m (get_or xs i d))
        → Printing contents (Ok tt) a c p s (listed text mark next (take (i + 1) xs))
    item_behind first then =
        subst (λ (l : List ℕ). Printing contents (Ok tt) a c p s l)
        (ap (λ m. listed text mark next (take i xs) ++ text m (get_or xs i d)) is
        ∙ sym (ap (λ n. listed text mark next (take n xs)) (add-one i) ∙ listed_more mark next xs i d within)) (prints_behind first then)

    -- an item breaks off, with more behind it
    pub item_breaks_off : {fault : WriteFault} → Printing contents (Ok tt) a b p q (listed text mark next (take i xs))
        → Printing contents (Err fault) b c q s (text m (get_or xs i d))
        → Printing contents (Err fault) a c p s (listed text mark next xs)
    item_breaks_off {fault} first then =
        let rest = listed text next next (drop (suc i) xs) in
        subst (λ (l : List ℕ). Printing contents (Err fault) a c p s l)
        (ap (λ m. (listed text mark next (take i xs) ++ text m (get_or xs i d)) ++ rest) is
        ∙ sym (listed_split mark next xs (suc i) ∙ ap (λ l. l ++ rest) (listed_more mark next xs i d within)))
        (breaks_off_before rest (prints_behind first then))

-- where there are picks they are listed
pub some_picks : (picks : List ℕ) → (length picks == 0) ≡ false
    → listed pick_text (codes "; with --picks ") (codes ",") picks ++ newline ≡ picks_text picks
some_picks [] some = cc
some_picks (p ∷ picks) some = refl
