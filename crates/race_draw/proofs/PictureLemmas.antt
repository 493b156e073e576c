-- Strands and cells are put one by one, and a picture has the trace's numbers.
use Rattle.std.proofs.Common.{◌≡◌, if◌then◌else◌, ℕ, zero, suc, ◌+◌, ◌<◌, ◌≤◌, Bool, true, false, List, [], ◌∷◌, ◌++◌, All, Option, length, get_or, take, append-nil}
use Rattle.std.proofs.{Common.{drop, sym, subst, ap, ◌∙◌, arith, append_assoc}, lemmas.Grind.flat_map-append}
use Rattle.std.proofs.lemmas.List.{at_drop_more, Concat.flat_map-cons, Elements.{All-append, All-take}}
use Rattle.std.proofs.lemmas.List.FromFn.{get_or-range_with_len, length-range_with_len}
use Rattle.std.specs.List.{filter, flat_map, range_with_len}
use Rattle.race_records.specs.declared.event.Event.{Event}
use Rattle.race_records.specs.{declared.kind.Kind.Kind, Declarations.count_of, Events.TraceState}
use Rattle.race_edges.specs.declared.edge_list.Edge.{Edge}
use Rattle.race_draw.specs.declared.picture.{Strand.Strand, Style.Style, TheConstants.MAX_COLUMNS}
use Rattle.race_draw.specs.Picture.{PictureState, strands_behind, strand_of, lane_of, columns_of, comes_behind}
use Rattle.race_draw.specs.{Layout.{IsPictureOf, is_shown}, Clean.IsCleanPictureOf, Rows.CanBePrinted}

-- one more
pub strand_more : (style : Style) (edges : List Edge) (i : ℕ) (d : Edge) (old now new : List Strand) (lane : Option ℕ) → i < length edges
    → new ≡ old ++ record { edge = get_or edges i d; style = style; lane = lane } ∷ [] → now ≡ old → lane ≡ lane_of now (get_or edges i d)
    → strands_behind style new (drop (i + 1) edges) ≡ strands_behind style old (drop i edges)
strand_more style edges i d old now new lane less put same is_lane =
    let rest = drop (i + 1) edges in
    let edge = get_or edges i d in
    let with_lane : Option ℕ → List Strand = λ l. strands_behind style (old ++ record { edge = edge; style = style; lane = l } ∷ []) rest in
    ap (λ l. strands_behind style l rest) put ∙ ap with_lane (is_lane ∙ ap (λ l. lane_of l edge) same)
    ∙ sym (at_drop_more (strands_behind style old) edges i d less)

-- so is a list with one number in front, or without it
or_first : (m a d : ℕ) → a < m → (rest : List ℕ) → ((i : ℕ) → i < length rest → get_or rest i d < m) → (b : Bool) (i : ℕ)
    → i < length (if b then a ∷ rest else rest) → get_or (if b then a ∷ rest else rest) i d < m
or_first m a d small rest all true zero less = small
or_first m a d small rest all true (suc i) less = all i (omega (arith, less))
or_first m a d small rest all false i less = all i less

-- each number that is picked from a range is in it
pub below : (f : ℕ → Bool) (a n m : ℕ) → a + n ≤ m → (i d : ℕ) → i < length (filter f (range_with_len a n)) → get_or (filter f (range_with_len a n)) i d < m
below f a zero m le i d less = absurd (omega arith)
below f a (suc n) m le i d less =
    or_first m a d (omega (arith, le)) (filter f (range_with_len (a + 1) n)) (λ k within. below f (a + 1) n m (omega (arith, le)) k d within) (f a) i less

-- a range ends in its last number
range_last : (n a j : ℕ) → a + n ≡ j → range_with_len a (suc n) ≡ range_with_len a n ++ j ∷ []
range_last zero a j same = let is : a ≡ j = omega (arith, same) in ap (λ k. k ∷ []) is
range_last (suc n) a j same = ap (λ l. a ∷ l) (range_last n (a + 1) j (omega (arith, same)))

pub range_more : (n : ℕ) → range_with_len 0 (n + 1) ≡ range_with_len 0 n ++ n ∷ []
range_more n = let on : n + 1 ≡ suc n = omega arith in ap (range_with_len 0) on ∙ range_last n 0 n (omega arith)

-- what is put for each number of a range, and for one number more
pub put_more : (f : ℕ → List ℕ) (before old new : List ℕ) (n : ℕ) → old ≡ before ++ flat_map f (range_with_len 0 n) → new ≡ old ++ f n
    → new ≡ before ++ flat_map f (range_with_len 0 (n + 1))
put_more f before old new n was put =
    let so_far = flat_map f (range_with_len 0 n) in
    let more : flat_map f (range_with_len 0 (n + 1)) ≡ so_far ++ f n
    = ap (flat_map f) (range_more n) ∙ flat_map-append f (range_with_len 0 n) (n ∷ [])
    ∙ ap (λ l. so_far ++ l) (flat_map-cons f n [] ∙ append-nil (f n)) in
    put ∙ ap (λ l. l ++ f n) was ∙ append_assoc before so_far (f n) ∙ ap (λ l. before ++ l) (sym more)

-- each number that is picked of so many is below
picked_within : (f : ℕ → Bool) (n : ℕ) → All (λ k. k < n) (filter f (range_with_len 0 n))
picked_within f n i d less = below f 0 n n (omega arith) i d less

-- a range from 0 is below its end
within : (n : ℕ) → All (λ k. k < n) (range_with_len 0 n)
within n i d less =
    let short : i < n = omega (arith, less, length-range_with_len 0 n) in
    let at = get_or-range_with_len 0 n i d short in
    omega (arith, at, short)

-- the goroutines that have columns are among so many, if the first are
columns_within : (front : List ℕ) (events : List Event) (strands : List Strand) (n : ℕ) → All (λ g. g < n) front
    → All (λ g. g < n) (columns_of front events strands n)
columns_within front events strands n all =
    All-take (λ g. g < n) MAX_COLUMNS (front ++ filter (comes_behind front events strands) (range_with_len 0 n))
    (All-append (λ g. g < n) front (filter (comes_behind front events strands) (range_with_len 0 n)) all
    (picked_within (comes_behind front events strands) n))

-- two numbers are
both : (a b n : ℕ) → a < n → b < n → All (λ g. g < n) (a ∷ b ∷ [])
both a b n first second zero d less = first
both a b n first second (suc zero) d less = second
both a b n first second (suc (suc i)) d less = absurd (omega (arith, less))

-- the picture of a race
pub race_printable : (trace : TraceState) (edges : List Edge) (m : Edge) (way : List Edge) (p : PictureState)
    → m.from_who < count_of Kind.Goroutine trace.decls.declarations → m.to_who < count_of Kind.Goroutine trace.decls.declarations
    → IsPictureOf trace edges m way p → CanBePrinted trace p
race_printable trace edges m way p first second is =
    let goroutines = count_of Kind.Goroutine trace.decls.declarations in
    record {
      columns = subst (All (λ g. g < goroutines)) (sym is.columns)
          (columns_within (m.from_who ∷ m.to_who ∷ []) [] p.strands goroutines (both m.from_who m.to_who goroutines first second));
      rows = subst (All (λ k. k < length trace.events)) (sym is.rows) (picked_within (is_shown p.strands) (length trace.events));
    }

none : (n : ℕ) → All (λ g. g < n) []
none n i d less = absurd (omega (arith, less))

-- that of a clean trace
pub clean_printable : (trace : TraceState) (p : PictureState) → IsCleanPictureOf trace p → CanBePrinted trace p
clean_printable trace p is =
    let goroutines = count_of Kind.Goroutine trace.decls.declarations in
    record {
      columns = subst (All (λ g. g < goroutines)) (sym is.columns) (columns_within [] trace.events p.strands goroutines (none goroutines));
      rows = subst (All (λ k. k < length trace.events)) (sym is.rows) (within (length trace.events));
    }
