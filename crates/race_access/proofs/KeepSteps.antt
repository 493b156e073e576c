-- What is kept of a list of accesses, and what is dropped.
use native.Mathlib.Numerals.{unary_clauses}
use Rattle.std.proofs.Common.{◌≡◌, ◌⊎◌, ℕ, zero, suc, ◌<◌, ◌≤◌, not, Bool, true, false, List, [], ◌∷◌, ◌++◌, length}
use Rattle.std.proofs.Common.{take, drop, Option, Some, None, refl, sym, ap, subst, ◌∙◌, inl, inr, arith, cond, ltb-true}
use Rattle.std.proofs.{Math.Facts.leb_yes, lemmas.{Bool.ltb-false, List.take-append-drop}}
use Rattle.std.proofs.lemmas.List.Elements.{Contains-append_left, Contains-append_right, Contains-append_cases}
use Rattle.std.proofs.lemmas.List.Elements.{All-filter, All-contains, All-contains_itself}
use Rattle.std.specs.{Prelude.{T, nat_lt, if◌then◌else◌, ◌+◌, ◌-◌, slice_set}, List.{Contains, filter, insert, copy_within}}
use Rattle.race_verdict.specs.declared.report.ReportedAccess.{ReportedAccess}
use Rattle.race_access.specs.{declared.access.Access.Access, Kept.{Knows, is_known, IsGreatestUnknown, greater}}
use Rattle.race_access.specs.Kept.{KeepsRead, DropsKnown}

-- an element of a list is its first or one of the rest
pub cons_cases : {X : Type 0} (x : X) (xs : List X) (e : X) → Contains (x ∷ xs) e → (x ≡ e) ⊎ Contains xs e
cons_cases x xs e (zero, less, is) = inl is
cons_cases x xs e (suc k, less, is) = inr (k, omega (arith, less), is)

pub cons_first : {X : Type 0} (x : X) (xs : List X) → Contains (x ∷ xs) x
cons_first x xs = (0, omega arith, refl)

pub cons_rest : {X : Type 0} (x : X) (xs : List X) (e : X) → Contains xs e → Contains (x ∷ xs) e
cons_rest x xs e (k, less, is) = (suc k, omega (arith, less), is)

-- the only element
pub only_one : {X : Type 0} (x e : X) → Contains (x ∷ []) e → x ≡ e
only_one x e is = elim (cons_cases x [] e is) [ inl same ↦ same | inr (k, less, at) ↦ absurd (omega (arith, less)) ]

-- the only one is kept, and the access behind it
pub keeps_both : (clock : List ℕ) (read access : Access) → KeepsRead (read ∷ []) (read ∷ access ∷ []) access clock
keeps_both clock read access = record {
  itself = (1, omega arith, refl);
  nothing_else = λ e is more. elim (cons_cases read (access ∷ []) e is) [
    | inl same ↦ inl (0, omega arith, same)
    | inr rest ↦ inr (sym (only_one access e rest))
  ];
  dropped = λ e is. inl (0, omega arith, only_one read e is);
}

-- the greatest unknown one of two lists
pub greatest_of_both : (clock : List ℕ) (xs ys : List Access) (a b : Option ReportedAccess)
    → IsGreatestUnknown clock xs a → IsGreatestUnknown clock ys b → IsGreatestUnknown clock (xs ++ ys) (greater a b)
greatest_of_both clock xs ys None None knownx knowny = λ e is. elim (Contains-append_cases xs ys e is) [ inl x ↦ knownx e x | inr y ↦ knowny e y ]
greatest_of_both clock xs ys None (Some n) knownx (e, isy, at, unknown, most) = (
  e,
  Contains-append_right xs ys e isy,
  at,
  unknown,
  λ f is un. elim (Contains-append_cases xs ys f is) [ inl x ↦ absurd (un (knownx f x)) | inr y ↦ most f y un ],
)
greatest_of_both clock xs ys (Some m) None (e, isx, at, unknown, most) knowny = (
  e,
  Contains-append_left xs ys e isx,
  at,
  unknown,
  λ f is un. elim (Contains-append_cases xs ys f is) [ inl x ↦ most f x un | inr y ↦ absurd (un (knowny f y)) ],
)
greatest_of_both clock xs ys (Some m) (Some n) (e, isx, ism, unknowne, mostm) (f, isy, isn, unknownf, mostn) = by (nat_lt m.at n.at) refl
  where
    by : (b : Bool) → nat_lt m.at n.at ≡ b → IsGreatestUnknown clock (xs ++ ys) (Some (if b then n else m))
    by true is = (
      f,
      Contains-append_right xs ys f isy,
      isn,
      unknownf,
      λ h inh un. elim (Contains-append_cases xs ys h inh) [
        | inl x ↦ let most : h.at ≤ m.at = mostm h x un in let less : m.at < n.at = ltb-true m.at n.at is in omega (arith, most, less)
        | inr y ↦ mostn h y un
      ],
    )
    by false is = (
      e,
      Contains-append_left xs ys e isx,
      ism,
      unknowne,
      λ h inh un. elim (Contains-append_cases xs ys h inh) [
        | inl x ↦ mostm h x un
        | inr y ↦ let most : h.at ≤ n.at = mostn h y un in let less : n.at ≤ m.at = ltb-false m.at n.at is in omega (arith, most, less)
      ],
    )

-- what a filter keeps was there, and what passes stays
pub filter_was : {X : Type 0} (p : X → Bool) (xs : List X) (e : X) → Contains (filter p xs) e → Contains xs e
filter_was p xs e is = All-contains (Contains xs) (filter p xs) e (All-filter p (Contains xs) xs (All-contains_itself xs)) is

pub filter_keeps : {X : Type 0} (p : X → Bool) (xs : List X) (e : X) → p e ≡ true → Contains xs e → Contains (filter p xs) e
filter_keeps p [] e passes (k, less, is) = absurd (omega (arith, less))
filter_keeps p (x ∷ xs) e passes is = go (p x) refl (cons_cases x xs e is) (filter_keeps p xs e passes)
  where
    go : (b : Bool) → p x ≡ b → (x ≡ e) ⊎ Contains xs e → (Contains xs e → Contains (filter p xs) e) → Contains (cond b (x ∷ filter p xs) (filter p xs)) e
    go true by (inl same) rest = subst (Contains (x ∷ filter p xs)) same (cons_first x (filter p xs))
    go true by (inr in_rest) rest = cons_rest x (filter p xs) e (rest in_rest)
    go false by (inl same) rest = let passed : p e ≡ false = subst (λ x. p x ≡ false) same by in cc
    go false by (inr in_rest) rest = rest in_rest

length_filter : {X : Type 0} (p : X → Bool) (xs : List X) → length (filter p xs) ≤ length xs
length_filter p [] = omega arith
length_filter p (x ∷ xs) = one (p x) (filter p xs) xs x (length_filter p xs)
  where
    one : {X : Type 0} (b : Bool) (ys xs : List X) (x : X) → length ys ≤ length xs → length (cond b (x ∷ ys) ys) ≤ suc (length xs)
    one b ys xs x less = grind arith

-- a filter that drops nothing changes nothing
pub filter_all : {X : Type 0} (p : X → Bool) (xs : List X) → length xs ≤ length (filter p xs) → filter p xs ≡ xs
filter_all p [] long = refl
filter_all p (x ∷ xs) long = go (p x) long (filter_all p xs)
  where
    go : (b : Bool) → suc (length xs) ≤ length (cond b (x ∷ filter p xs) (filter p xs)) → (length xs ≤ length (filter p xs) → filter p xs ≡ xs)
        → cond b (x ∷ filter p xs) (filter p xs) ≡ x ∷ xs
    go true long rest = ap (λ ys. x ∷ ys) (rest (omega (arith, long)))
    go false long rest = absurd (omega (arith, long, length_filter p xs))

-- what stands in a list with one more element inserted
pub insert_old : {X : Type 0} (xs : List X) (i : ℕ) (y e : X) → Contains xs e → Contains (insert xs i y) e
insert_old xs i y e is = elim (Contains-append_cases (take i xs) (drop i xs) e (subst (λ zs. Contains zs e) (sym (take-append-drop i xs)) is)) [
  | inl front ↦ Contains-append_left (take i xs) (y ∷ drop i xs) e front
  | inr rest ↦ Contains-append_right (take i xs) (y ∷ drop i xs) e (cons_rest y (drop i xs) e rest)
]

pub insert_new : {X : Type 0} (xs : List X) (i : ℕ) (y : X) → Contains (insert xs i y) y
insert_new xs i y = Contains-append_right (take i xs) (y ∷ drop i xs) y (cons_first y (drop i xs))

pub insert_was : {X : Type 0} (xs : List X) (i : ℕ) (y e : X) → Contains (insert xs i y) e → Contains xs e ⊎ (y ≡ e)
insert_was xs i y e is = elim (Contains-append_cases (take i xs) (y ∷ drop i xs) e is) [
  | inl front ↦ inl (subst (λ zs. Contains zs e) (take-append-drop i xs) (Contains-append_left (take i xs) (drop i xs) e front))
  | inr rest ↦ elim (cons_cases y (drop i xs) e rest) [
    | inl same ↦ inr same
    | inr behind ↦ inl (subst (λ zs. Contains zs e) (take-append-drop i xs) (Contains-append_right (take i xs) (drop i xs) e behind))
  ]
]

-- a filter drops what is known
pub drops_by_filter : (p : Access → Bool) (xs : List Access) (clock : List ℕ) → ((e : Access) → p e ≡ true ⊎ Knows clock e) → DropsKnown xs (filter p xs) clock
drops_by_filter p xs clock decides = record {
  nothing_else = λ e is. filter_was p xs e is;
  dropped = λ e is. elim (decides e) [ inl passes ↦ inl (filter_keeps p xs e passes is) | inr known ↦ inr known ];
  unless_all = λ long. filter_all p xs long;
}

-- all of them stay
pub drops_none : (xs : List Access) (clock : List ℕ) → DropsKnown xs xs clock
drops_none xs clock = record { nothing_else = λ e is. is; dropped = λ e is. inl is; unless_all = λ _. refl }

-- a Read beside those that stay
pub keeps_inserted : (xs ys : List Access) (i : ℕ) (access : Access) (clock : List ℕ) → DropsKnown xs ys clock → KeepsRead xs (insert ys i access) access clock
keeps_inserted xs ys i access clock drops = record {
  itself = insert_new ys i access;
  nothing_else = λ e is counted. elim (insert_was ys i access e is) [
    | inl old ↦ inl (drops.nothing_else e old)
    | inr new ↦ inr (sym new)
  ];
  dropped = λ e is. elim (drops.dropped e is) [
    | inl stays ↦ inl (insert_old ys i access e stays)
    | inr known ↦ inr (inl known)
  ];
}

-- with a Write that stays
pub keeps_under : (write : Access) (xs ys : List Access) (access : Access) (clock : List ℕ)
    → KeepsRead xs ys access clock → KeepsRead (write ∷ xs) (write ∷ ys) access clock
keeps_under write xs ys access clock keeps = record {
  itself = cons_rest write ys access keeps.itself;
  nothing_else = λ e is counted. elim (cons_cases write ys e is) [
    | inl same ↦ inl (subst (Contains (write ∷ xs)) same (cons_first write xs))
    | inr old ↦ elim (keeps.nothing_else e old counted) [ inl was ↦ inl (cons_rest write xs e was) | inr new ↦ inr new ]
  ];
  dropped = λ e is. elim (cons_cases write xs e is) [
    | inl same ↦ inl (subst (Contains (write ∷ ys)) same (cons_first write ys))
    | inr old ↦ elim (keeps.dropped e old) [ inl stays ↦ inl (cons_rest write ys e stays) | inr gone ↦ inr gone ]
  ];
}

-- a Write that knows all
pub keeps_alone : (xs ys : List Access) (access : Access) (clock : List ℕ) → ((e : Access) → Contains xs e → Knows clock e)
    → ((e : Access) → Contains ys e → e.count ≡ 0) → KeepsRead xs (access ∷ ys) access clock
keeps_alone xs ys access clock known empty = record {
  itself = cons_first access ys;
  nothing_else = λ e is counted. elim (cons_cases access ys e is) [
    | inl same ↦ inr (sym same)
    | inr other ↦ let none : e.count ≡ 0 = empty e other in absurd (omega (arith, none, counted))
  ];
  dropped = λ e is. inr (inl (known e is));
}

-- an access is known, or kept by the test
pub known_or_kept : (clock : List ℕ) (e : Access) → (not (is_known clock e) ≡ true) ⊎ Knows clock e
known_or_kept clock e = go (is_known clock e) refl
  where
    go : (b : Bool) → is_known clock e ≡ b → (not (is_known clock e) ≡ true) ⊎ Knows clock e
    go true is = inr (leb_yes (subst T (sym is) tt))
    go false is = inl (ap not is)

-- a list without its last element
all_but : {X : Type 0} (xs : List X) (x : X) → take (length xs) (xs ++ x ∷ []) ++ drop (suc (length xs)) (xs ++ x ∷ []) ≡ xs
all_but [] x = refl
all_but (y ∷ ys) x = ap (λ zs. y ∷ zs) (all_but ys x)

-- the elements from a place on go one further, and one stands there
pub shifted : {X : Type 0} (xs : List X) (p : ℕ) (x : X) → p ≤ length xs
    → slice_set (copy_within (xs ++ x ∷ []) p (length xs) (p + 1)) p x ≡ insert xs p x
shifted [] zero x within = refl
shifted [] (suc p) x within = absurd (omega (arith, within))
shifted (y ∷ ys) zero x within =
    let one : 1 + length ys ≡ suc (length ys) = omega arith in
    simp unary_clauses
    ((λ i. x ∷ y ∷ (take (length ys) (ys ++ x ∷ []) ++ drop (suc (one i)) (y ∷ ys ++ x ∷ []))) ∙ ap (λ zs. x ∷ y ∷ zs) (all_but ys x))
shifted (y ∷ ys) (suc p) x within =
    let zs = ys ++ x ∷ [] in
    let more = length ys - p in
    let one : suc (suc p) + more ≡ suc (suc p + more) = omega arith in
    simp unary_clauses
    ((λ i. y ∷ slice_set ((take (suc p) zs ++ take more (drop p zs)) ++ drop (one i) (y ∷ zs)) p x)
    ∙ ap (λ zs. y ∷ zs) (simp unary_clauses at (shifted ys p x (omega (arith, within)))))
