-- Joined clocks as lists.
use Rattle.std.proofs.Common.{◌≡◌, ℕ, zero, suc, ◌+◌, ◌-◌, ◌<◌, ◌≤◌, max, List, [], ◌∷◌, ◌++◌, take, drop, length}
use Rattle.std.proofs.Common.{get_or, set, refl, sym, ap, ◌∙◌, arith, append-nil, take_at, length-append, replicate}
use Rattle.std.proofs.{Math.Nat.{max_comm, max-zero, zero-max, le-max_left, le-max_right}, lemmas.List.append_assoc}
use Rattle.std.proofs.lemmas.List.{length-replicate, replicate-append-replicate, take-replicate, set-get_or}
use Rattle.race_model.proofs.ClockLemmas.{max_within}
use Rattle.race_clock.specs.{ClockState.{joined, padded}, ClocksState.filled, Needs.KnowsAll}

-- a clock joined with nothing
pub joined_nothing : (c : List ℕ) → joined c [] ≡ c
joined_nothing [] = refl
joined_nothing (m ∷ c) = refl

-- joined with a shorter clock, a clock keeps its length
pub length_joined : (c d : List ℕ) → length d ≤ length c → length (joined c d) ≡ length c
length_joined [] [] le = refl
length_joined [] (n ∷ d) le = absurd (omega arith)
length_joined (m ∷ c) [] le = refl
length_joined (m ∷ c) (n ∷ d) le = ap suc (length_joined c d (omega arith))

-- one count more is raised
joined_suc : (c d : List ℕ) (i : ℕ) → i < length d → length d ≤ length c
    → joined c (take (suc i) d) ≡ set (joined c (take i d)) i (max (get_or (joined c (take i d)) i 0) (get_or d i 0))
joined_suc c [] i less le = absurd (omega arith)
joined_suc [] (n ∷ d) i less le = absurd (omega arith)
joined_suc (m ∷ c) (n ∷ d) zero less le = ap (λ c. max m n ∷ c) (joined_nothing c)
joined_suc (m ∷ c) (n ∷ d) (suc i) less le = ap (λ c. max m n ∷ c) (joined_suc c d i (omega arith) (omega arith))

pub joined_one : (c d : List ℕ) (i : ℕ) → i < length d → length d ≤ length c
    → joined c (take (i + 1) d) ≡ set (joined c (take i d)) i (max (get_or (joined c (take i d)) i 0) (get_or d i 0))
joined_one c d i less le = ap (λ n. joined c (take n d)) (let same : i + 1 ≡ suc i = omega arith in same) ∙ joined_suc c d i less le

-- one count more that is no greater changes nothing
pub covered_one : (c d : List ℕ) (i : ℕ) → i < length d → length d ≤ length c → joined c (take i d) ≡ c → get_or d i 0 ≤ get_or c i 0
    → joined c (take (i + 1) d) ≡ c
covered_one c d i less le before most =
    joined_one c d i less le
    ∙ ap (λ l. set l i (max (get_or l i 0) (get_or d i 0))) before
    ∙ ap (set c i) (let same : max (get_or c i 0) (get_or d i 0) ≡ get_or c i 0 = omega (arith, most) in same)
    ∙ set-get_or c i 0

-- a clock that knows no less, and has as many counts written out, is the join
pub joined_known : (c d : List ℕ) → length c ≤ length d → KnowsAll c d → joined c d ≡ d
joined_known [] d long less = refl
joined_known (m ∷ c) [] long less = absurd (omega arith)
joined_known (m ∷ c) (n ∷ d) long less =
    ap (λ h. h ∷ joined c d) (let most : max m n ≡ n = omega (arith, less 0) in most)
    ∙ ap (λ t. n ∷ t) (joined_known c d (omega arith) (λ h. less (suc h)))

-- of two clocks either may come first
pub joined_comm : (c d : List ℕ) → joined c d ≡ joined d c
joined_comm [] d = sym (joined_nothing d)
joined_comm (m ∷ c) [] = refl
joined_comm (m ∷ c) (n ∷ d) = ap (λ h. h ∷ joined c d) (max_comm m n) ∙ ap (λ t. max n m ∷ t) (joined_comm c d)

-- the greatest of three
max_assoc : (l m n : ℕ) → max (max l m) n ≡ max l (max m n)
max_assoc l m n =
    let a : l ≤ max l m = le-max_left l m in
    let b : m ≤ max l m = le-max_right l m in
    let c : max l m ≤ max (max l m) n = le-max_left (max l m) n in
    let d : n ≤ max (max l m) n = le-max_right (max l m) n in
    let e : l ≤ max l (max m n) = le-max_left l (max m n) in
    let f : max m n ≤ max l (max m n) = le-max_right l (max m n) in
    let g : m ≤ max m n = le-max_left m n in
    let h : n ≤ max m n = le-max_right m n in
    let up : max (max l m) n ≤ max l (max m n) =
    max_within (max l m) n (max l (max m n)) (max_within l m (max l (max m n)) e (omega (arith, f, g))) (omega (arith, f, h)) in
    let down : max l (max m n) ≤ max (max l m) n =
    max_within l (max m n) (max (max l m) n) (omega (arith, a, c)) (max_within m n (max (max l m) n) (omega (arith, b, c)) d) in
    omega (arith, up, down)

-- of three any two may come first
pub joined_assoc : (b c d : List ℕ) → joined (joined b c) d ≡ joined b (joined c d)
joined_assoc [] c d = refl
joined_assoc (l ∷ b) [] d = refl
joined_assoc (l ∷ b) (m ∷ c) [] = refl
joined_assoc (l ∷ b) (m ∷ c) (n ∷ d) = ap (λ h. h ∷ joined (joined b c) d) (max_assoc l m n) ∙ ap (λ t. max l (max m n) ∷ t) (joined_assoc b c d)

-- a clock joined with itself
joined_same : (c : List ℕ) → joined c c ≡ c
joined_same [] = refl
joined_same (m ∷ c) = ap (λ h. h ∷ joined c c) (let same : max m m ≡ m = omega arith in same) ∙ ap (λ t. m ∷ t) (joined_same c)

-- the other's counts behind its own change nothing
pub joined_extended : (c d : List ℕ) → joined (c ++ drop (length c) d) d ≡ joined c d
joined_extended [] d = joined_same d
joined_extended (m ∷ c) [] = joined_nothing (m ∷ c ++ drop (length (m ∷ c)) []) ∙ ap (λ t. m ∷ c ++ t) (none (length (m ∷ c))) ∙ append-nil (m ∷ c)
  where
    none : (n : ℕ) → drop {A = ℕ} n [] ≡ []
    none zero = refl
    none (suc n) = refl
joined_extended (m ∷ c) (n ∷ d) = ap (λ t. max m n ∷ t) (joined_extended c d)

-- what a slice wrote back is the list
pub written_back : (new old : List ℕ) (n : ℕ) → length new ≡ n → length old ≡ n → take n (new ++ drop (length new) old) ≡ new
written_back new old n long same = take_at new (drop (length new) old) n long

-- an empty queue hands nothing over
pub joined_front_none : (c : List ℕ) (queue : List (List ℕ)) → length queue ≡ 0 → joined c (get_or queue 0 []) ≡ c
joined_front_none c [] none = joined_nothing c
joined_front_none c (d ∷ queue) none = absurd (omega arith)

-- a place that was opened at the end of a queue, and filled
pub fill_opened : (queue : List (List ℕ)) (b : List ℕ) → filled (queue ++ [] ∷ []) b ≡ queue ++ b ∷ []
fill_opened [] b = refl
fill_opened (c ∷ queue) b = go (length queue) refl (fill_opened queue b)
  where
    long : length (queue ++ [] ∷ []) ≡ length queue + 1
    long = length-append queue ([] ∷ [])

    go : (n : ℕ) → length queue ≡ n → filled (queue ++ [] ∷ []) b ≡ queue ++ b ∷ []
        → set (c ∷ queue ++ [] ∷ []) (length (c ∷ queue ++ [] ∷ []) - 1) b ≡ c ∷ queue ++ b ∷ []
    go n is rest =
        ap (λ i. set (c ∷ queue ++ [] ∷ []) i b)
        (let last : length (c ∷ queue ++ [] ∷ []) - 1 ≡ suc (length (queue ++ [] ∷ []) - 1) = omega (arith, long) in last)
        ∙ ap (λ q. c ∷ q) rest

-- zeros joined with a list of as many
joined_zeros : (k : ℕ) (d : List ℕ) → k ≡ length d → joined (replicate k 0) d ≡ d
joined_zeros zero [] same = refl
joined_zeros (suc k) [] same = absurd (omega (arith, same))
joined_zeros zero (n ∷ d) same = absurd (omega (arith, same))
joined_zeros (suc k) (n ∷ d) same = ap (λ h. h ∷ joined (replicate k 0) d) (zero-max n) ∙ ap (λ t. n ∷ t) (joined_zeros k d (omega (arith, same)))

-- zeros that a join would write out
joined_longer : (c d : List ℕ) (k : ℕ) → k ≡ length d - length c → joined (c ++ replicate k 0) d ≡ joined c d
joined_longer [] d k same = joined_zeros k d (omega (arith, same))
joined_longer (m ∷ c) [] k same =
    ap (λ k. joined (m ∷ c ++ replicate k 0) []) (let none : k ≡ 0 = omega (arith, same) in none) ∙ ap (λ t. joined t []) (append-nil (m ∷ c))
joined_longer (m ∷ c) (n ∷ d) k same = ap (λ t. max m n ∷ t) (joined_longer c d k (omega (arith, same)))

pub joined_padded : (c d : List ℕ) → joined (padded c (length d)) d ≡ joined c d
joined_padded c d = joined_longer c d (length d - length c) refl

-- a joined clock is as long as the longer one
length_joined_any : (c d : List ℕ) → length (joined c d) ≡ max (length c) (length d)
length_joined_any [] d = sym (zero-max (length d))
length_joined_any (m ∷ c) [] = sym (max-zero (length (m ∷ c)))
length_joined_any (m ∷ c) (n ∷ d) = let rest : length (joined c d) ≡ max (length c) (length d) = length_joined_any c d in omega (arith, rest)

-- a clock that was grown once for two others: the second fits when the first is joined
pub both_fit : (c d e : List ℕ) (n : ℕ) → n ≡ max (length d) (length e) → length e ≤ length (joined (padded c n) d)
both_fit c d e n is = omega (arith, is, length_joined_any (padded c n) d, length-append c (replicate (n - length c) 0), length-replicate {A = ℕ} (n - length c) 0)

-- and both are joined to it
pub joined_both : (c d e : List ℕ) (n : ℕ) → n ≡ max (length d) (length e) → joined (joined (padded c n) d) e ≡ joined c (joined d e)
joined_both c d e n is =
    joined_assoc (padded c n) d e
    ∙ ap (λ n. joined (padded c n) (joined d e)) (is ∙ sym (length_joined_any d e))
    ∙ joined_padded c (joined d e)

-- a block of zeros more is written out
pub padded_on : (c now new : List ℕ) (k m : ℕ) → k ≤ m → now ≡ padded c (length now) → new ≡ now ++ take k (replicate m 0) → new ≡ padded c (length new)
padded_on c now new k m le was is =
    let block : take k (replicate {A = ℕ} m 0) ≡ replicate k 0 = take-replicate k m 0 le in
    let long : length new ≡ length now + k =
    omega (arith, ap length is, length-append now (take k (replicate m 0)), ap (length {A = ℕ}) block, length-replicate {A = ℕ} k 0) in
    let most : length c ≤ length now = omega (arith, ap length was, length-append c (replicate (length now - length c) 0)) in
    is ∙ ap (λ l. l ++ take k (replicate m 0)) was ∙ ap (λ l. padded c (length now) ++ l) block
    ∙ append_assoc c (replicate (length now - length c) 0) (replicate k 0)
    ∙ ap (λ l. c ++ l) (replicate-append-replicate (length now - length c) k 0)
    ∙ ap (λ n. c ++ replicate n 0) (let same : length now - length c + k ≡ length new - length c = omega (arith, long, most) in same)

-- and no more than are asked for
pub padded_to : (c new : List ℕ) (n : ℕ) → new ≡ padded c (length new) → n ≤ length new → length new ≤ max n (length c) → new ≡ padded c n
padded_to c new n is all most =
    let fits : length c ≤ length new = omega (arith, ap length is, length-append c (replicate (length new - length c) 0)) in
    is ∙ ap (λ k. c ++ replicate k 0) (let same : length new - length c ≡ n - length c = omega (arith, fits, all, most) in same)
