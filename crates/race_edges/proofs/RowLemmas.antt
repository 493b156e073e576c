-- What rows tell after a change.
use Rattle.std.proofs.Common.{◌≡◌, ◌⊎◌, ◌↔◌, ℕ, zero, suc, ◌<◌, ◌≤◌, ◌&&◌, not, Bool, true, false, List, length}
use Rattle.std.proofs.Common.{get_or, set, if◌then◌else◌, Option, Some, None, IfSome, refl, ◌∙◌, arith, IsTrue}
use Rattle.std.proofs.lemmas.{Bool.Decides.nat_tests, List.length-set}
use Rattle.race_records.specs.declared.event.Op.{Op}
use Rattle.race_model.specs.{Events.partner, Order.SynchronizedInside, Synchronized.joins}
use Rattle.race_model.proofs.SynchronizedTests.{joins_is}
use Rattle.race_legal.proofs.TableSteps.{get_or-set}
use Rattle.race_edges.specs.TableState.{TableState, row_of, sees, joined, with_seen, with_row, given, inside, taken}
use Rattle.race_edges.specs.TableState.{table_after}
use Rattle.race_edges.proofs.SynchronizedLemmas.{inside_pair}

-- One row.

pub length-joined : (row other : List Bool) (n : ℕ) → length (joined row other n) ≡ length row
length-joined row other zero = refl
length-joined row other (suc n) = by (get_or other n false) (length-joined row other n)
  where
    by : (b : Bool) → length (joined row other n) ≡ length row → length (if b then set (joined row other n) n true else joined row other n) ≡ length row
    by true old = length-set (joined row other n) n true ∙ old
    by false old = old

-- what one says of the first n events
abbrev Below : List Bool → ℕ → ℕ → Type 0
Below other n i = (i < n) × IsTrue (get_or other i false)

joined_on : (row other next : List Bool) (n i : ℕ) → i < length next → IsTrue (get_or next i false) ↔ (IsTrue (get_or row i false) ⊎ Below other n i)
    → IsTrue (get_or (if get_or other n false then set next n true else next) i false) ↔ (IsTrue (get_or row i false) ⊎ Below other (suc n) i)
joined_on row other next n i within before = grind (arith, get_or-set, nat_tests)

-- a row with what another tells of the first n events
tells_joined : (row other : List Bool) (n i : ℕ) → i < length row → IsTrue (get_or (joined row other n) i false) ↔ (IsTrue (get_or row i false) ⊎ Below other n i)
tells_joined row other zero i within = grind arith
tells_joined row other (suc n) i within =
    joined_on row other (joined row other n) n i (omega (arith, within, length-joined row other n)) (tells_joined row other n i within)

-- All rows.

-- as many rows, each as long as it was
pub record AreShaped (rows next : List (List Bool)) : Type 0 where
  pub count : length next ≡ length rows
  pub wide : (g : ℕ) → g < length rows → length (row_of next g) ≡ length (row_of rows g)

pub shape_on : (rows middle next : List (List Bool)) → AreShaped rows middle → AreShaped middle next → AreShaped rows next
shape_on rows middle next first second = record {
  count = second.count ∙ first.count;
  wide = λ g less. second.wide g (omega (arith, less, first.count)) ∙ first.wide g less;
}

shape_set : (rows : List (List Bool)) (p : ℕ) (row : List Bool) → length row ≡ length (row_of rows p) → AreShaped rows (set rows p row)
shape_set rows p row same = record { count = length-set rows p row; wide = λ g less. grind (arith, get_or-set, nat_tests) }

pub shape_with_seen : (rows : List (List Bool)) (p n : ℕ) → AreShaped rows (with_seen rows p n)
shape_with_seen rows p n = shape_set rows p (set (row_of rows p) n true) (length-set (row_of rows p) n true)

-- p sees event n in addition
pub sees_with_seen : (rows : List (List Bool)) (p n g i : ℕ) → g < length rows → i < length (row_of rows g)
    → IsTrue (sees (with_seen rows p n) g i) ↔ (IsTrue (sees rows g i) ⊎ ((p ≡ g) × (n ≡ i)))
sees_with_seen rows p n g i less within = grind (arith, get_or-set, nat_tests)

shape_if : (b : Bool) (rows : List (List Bool)) (p : ℕ) (row : List Bool) → AreShaped rows (if b then with_row rows p row else rows)
shape_if true rows p row = shape_set rows p (joined (row_of rows p) row (length (row_of rows p))) (length-joined (row_of rows p) row (length (row_of rows p)))
shape_if false rows p row = record { count = refl; wide = λ g less. refl }

-- where it is so, p sees in addition what the row tells
sees_if : (b : Bool) (rows : List (List Bool)) (p : ℕ) (row : List Bool) (g i : ℕ) → g < length rows → i < length (row_of rows g)
    → IsTrue (sees (if b then with_row rows p row else rows) g i) ↔ (IsTrue (sees rows g i) ⊎ (IsTrue b × (p ≡ g) × IsTrue (get_or row i false)))
sees_if b rows p row g i less within =
    let is = tells_joined (row_of rows g) row (length (row_of rows g)) i within in
    grind (arith, get_or-set, nat_tests)

-- An event.

-- g sees what it saw, and what each goroutine saw whose begin is synchronized before g's end
abbrev pub SeesInside : List (List Bool) → ℕ → Op → ℕ → ℕ → Type 0
SeesInside rows who o g i = IsTrue (sees rows g i) ⊎ ((f : ℕ) × SynchronizedInside who o f g × IsTrue (sees rows f i))

module _ (rows : List (List Bool)) (who : ℕ) (o : Op) where
  pub shape_inside : AreShaped rows (inside rows who o)
  shape_inside = by (partner o)
    where
      by : (other : Option ℕ) → AreShaped rows (elim other [ Some p ↦ given (joins who o p who) (given (joins who o who p) rows who p) p who | None ↦ rows ])
      by None = record { count = refl; wide = λ g less. refl }
      by (Some p) =
          let middle = given (joins who o who p) rows who p in
          shape_on rows middle (given (joins who o p who) middle p who)
          (shape_if (joins who o who p) rows p (row_of rows who)) (shape_if (joins who o p who) middle who (row_of middle p))

  module _ (limit : ℕ) (wide : (g : ℕ) → g < length rows → length (row_of rows g) ≡ limit) where
    two_see : (p g i : ℕ) → partner o ≡ Some p → p < length rows → g < length rows → i < limit
        → IsTrue (sees (given (joins who o p who) (given (joins who o who p) rows who p) p who) g i) ↔ SeesInside rows who o g i
    two_see p g i is row less within =
        let middle = given (joins who o who p) rows who p in
        let shape = shape_if (joins who o who p) rows p (row_of rows who) in
        let in_g : i < length (row_of rows g) = omega (arith, within, wide g less) in
        let one = sees_if (joins who o who p) rows p (row_of rows who) g i less in_g in
        let other = sees_if (joins who o who p) rows p (row_of rows who) p i row (omega (arith, within, wide p row)) in
        let two = sees_if (joins who o p who) middle who (row_of middle p) g i (omega (arith, less, shape.count)) (omega (arith, in_g, shape.wide g less)) in
        grind (arith, joins_is, inside_pair)

    alone_sees : (g i : ℕ) → partner o ≡ None → IsTrue (sees rows g i) ↔ SeesInside rows who o g i
    alone_sees g i is = grind (arith, inside_pair)

    pub sees_inside : IfSome (partner o) (λ p. p < length rows) → (g i : ℕ) → g < length rows → i < limit
        → IsTrue (sees (inside rows who o) g i) ↔ SeesInside rows who o g i
    sees_inside second g i less within = by (partner o) refl second
      where
        by : (other : Option ℕ) → partner o ≡ other → IfSome other (λ p. p < length rows)
            → IsTrue (sees (elim other [ Some p ↦ given (joins who o p who) (given (joins who o who p) rows who p) p who | None ↦ rows ]) g i)
            ↔ SeesInside rows who o g i
        by None is _ = alone_sees g i is
        by (Some p) is row = two_see p g i is row less within

shape_taken : (is : ℕ → Bool) (heard rows : List (List Bool)) (who n : ℕ) → AreShaped rows (taken is heard rows who n)
shape_taken is heard rows who zero = record { count = refl; wide = λ g less. refl }
shape_taken is heard rows who (suc n) = by (not (sees rows who n) && is n) (λ rows. shape_taken is heard rows who n)
  where
    by : (b : Bool) → ((rows : List (List Bool)) → AreShaped rows (taken is heard rows who n))
        → AreShaped rows (taken is heard (if b then with_row rows who (row_of heard n) else rows) who n)
    by b below =
        let next = if b then with_row rows who (row_of heard n) else rows in
        shape_on rows next (taken is heard next who n) (shape_if b rows who (row_of heard n)) (below next)

pub shape_after : (is : ℕ → Bool) (table : TableState) (n who : ℕ) (o : Op) → AreShaped table.rows (table_after is table n who o).rows
shape_after is table n who o =
    let own = with_seen table.rows who n in
    shape_on table.rows (inside own who o) (taken is table.heard (inside own who o) who n)
    (shape_on table.rows own (inside own who o) (shape_with_seen table.rows who n) (shape_inside own who o))
    (shape_taken is table.heard (inside own who o) who n)

-- one source further down
pub taken_down : (is : ℕ → Bool) (heard rows next : List (List Bool)) (who n above : ℕ)
    → above ≡ suc n → (has test : Bool) → has ≡ sees rows who n → test ≡ is n
    → next ≡ (if not has && test then with_row rows who (row_of heard n) else rows) → taken is heard next who n ≡ taken is heard rows who above
taken_down is heard rows next who n above over has test seen source step =
    rw (over, step, seen, source) refl

-- g sees what it saw, and where it is who, what was seen at the begin of each source among the first n events
abbrev pub SeesTaken : (ℕ → Bool) → List (List Bool) → List (List Bool) → ℕ → ℕ → ℕ → ℕ → Type 0
SeesTaken is heard rows who n g i = IsTrue (sees rows g i) ⊎ ((who ≡ g) × ((k : ℕ) × (k < n) × IsTrue (is k) × IsTrue (sees heard k i)))

-- who has seen of event i all that had been seen of it at the begin of each source among the first n events that it has seen
abbrev pub HoldsSeen : (ℕ → Bool) → List (List Bool) → List (List Bool) → ℕ → ℕ → ℕ → Type 0
HoldsSeen is heard rows who n i = (k : ℕ) → k < n → IsTrue (is k) → IsTrue (sees rows who k) → IsTrue (sees heard k i) → IsTrue (sees rows who i)

-- and so it was at the begin of each of them
abbrev pub HeldSeen : (ℕ → Bool) → List (List Bool) → ℕ → ℕ → Type 0
HeldSeen is heard n i =
    (m k : ℕ) → m < n → k < n → IsTrue (is m) → IsTrue (is k) → IsTrue (sees heard m k) → IsTrue (sees heard k i) → IsTrue (sees heard m i)

module _ (is : ℕ → Bool) (heard : List (List Bool)) (who limit i : ℕ) (within : i < limit) where
  -- the next source is taken or passed over, and then those below
  taken_on : (rows next all : List (List Bool)) (n : ℕ) (b : Bool) (g : ℕ) → (not (sees rows who n) && is n) ≡ b → HoldsSeen is heard rows who (suc n) i
      → IsTrue (sees next g i) ↔ (IsTrue (sees rows g i) ⊎ (IsTrue b × (who ≡ g) × IsTrue (sees heard n i)))
      → IsTrue (sees all g i) ↔ SeesTaken is heard next who n g i → IsTrue (sees all g i) ↔ SeesTaken is heard rows who (suc n) g i
  taken_on rows next all n b g test holds one rest = grind (arith, nat_tests)

  still_holds : (rows next : List (List Bool)) (n : ℕ) (b : Bool) → (not (sees rows who n) && is n) ≡ b → n < limit
      → ((j : ℕ) → j < limit → IsTrue (sees next who j) ↔ (IsTrue (sees rows who j) ⊎ (IsTrue b × (who ≡ who) × IsTrue (sees heard n j))))
      → HoldsSeen is heard rows who (suc n) i → HeldSeen is heard (suc n) i → HoldsSeen is heard next who n i
  still_holds rows next n b test room one holds held k below source has had =
      let at_k = one k (omega (arith, below, room)) in
      let at_i = one i within in
      grind arith

  -- who sees what was seen at the sources too, though those are passed over that it has seen
  abbrev SeesAll : ℕ → Type 0
  SeesAll n = (rows : List (List Bool)) → ((g : ℕ) → g < length rows → length (row_of rows g) ≡ limit) → who < length rows → n ≤ limit
      → HoldsSeen is heard rows who n i → HeldSeen is heard n i
      → (g : ℕ) → g < length rows → IsTrue (sees (taken is heard rows who n) g i) ↔ SeesTaken is heard rows who n g i

  none_taken : (rows : List (List Bool)) (g : ℕ) → IsTrue (sees rows g i) ↔ SeesTaken is heard rows who 0 g i
  none_taken rows g = grind arith

  pub sees_taken : (n : ℕ) → SeesAll n
  sees_taken zero rows wide row room holds held = λ g less. none_taken rows g
  sees_taken (suc n) rows wide row room holds held = by (not (sees rows who n) && is n) refl (sees_taken n)
    where
      by : (b : Bool) → (not (sees rows who n) && is n) ≡ b → SeesAll n → (g : ℕ) → g < length rows
          → IsTrue (sees (taken is heard (if b then with_row rows who (row_of heard n) else rows) who n) g i) ↔ SeesTaken is heard rows who (suc n) g i
      by b test rest g less =
          taken_on rows next (taken is heard next who n) n b g test holds (one g i less within)
          (rest next (λ g less. shape.wide g (old g less) ∙ wide g (old g less)) (omega (arith, row, shape.count)) (omega (arith, room))
          (still_holds rows next n b test (omega (arith, room)) (λ j. one who j row) holds held)
          (λ m k first second. held m k (omega (arith, first)) (omega (arith, second))) g (omega (arith, less, shape.count)))
        where
          next : List (List Bool)
          next = if b then with_row rows who (row_of heard n) else rows

          shape : AreShaped rows next
          shape = shape_if b rows who (row_of heard n)

          old : (g : ℕ) → g < length next → g < length rows
          old g less = omega (arith, less, shape.count)

          one : (g j : ℕ) → g < length rows → j < limit
              → IsTrue (sees next g j) ↔ (IsTrue (sees rows g j) ⊎ (IsTrue b × (who ≡ g) × IsTrue (sees heard n j)))
          one g j less within = sees_if b rows who (row_of heard n) g j less (omega (arith, within, wide g less))
