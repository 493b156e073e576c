-- What a name that is found stands for: its form, its number, and that the number leads back to it.
use Rattle.std.proofs.Common.{◌≡◌, ℕ, zero, suc, ◌-◌, ◌<◌, ◌==◌, ◌⊎◌, inl, inr, Bool, true, false, cond, if◌then◌else◌}
use Rattle.std.proofs.Common.{List, [], ◌∷◌, length, filter, take, position, get_or, slice_get, Option, Some, None}
use Rattle.std.proofs.{Common.{refl, sym, ap, subst, ◌∙◌, arith, true≢false}, lemmas.Bool.Decides.nat_tests}
use Rattle.std.proofs.lemmas.{List.Quantifiers.position-Some, Option.{none-some, same_Some, slice_get-get_or}}
use Rattle.std.proofs.lemmas.{Option.slice_get_within, Slice.Eq.bytes_eq-Decides}
use Rattle.std.specs.{Option.{option_and_then, option_map}, Str.bytes_eq}
use Rattle.race_records.specs.{declared.kind.{Kind.Kind, Named.Named, Object.Object}, Name.{main, is_name}}
use Rattle.race_records.specs.Declarations.{Declaration, DeclsState, IsWellFormed, find_name, declared_at, named}
use Rattle.race_records.specs.Declarations.{kind_of, is_of_kind, of_kind, count_of, name_of, nth_name, IsDeclared}

-- declaration i has the name, and declares what it stands for
pub record IsFoundAt (ds : List Declaration) (word : List ℕ) (what : Named) : Type 0 where
  pub i : ℕ
  pub d : Declaration
  pub at : slice_get ds i ≡ Some d
  pub at_all : (e : Declaration) → get_or ds i e ≡ d
  pub within : i < length ds
  pub name : word ≡ d.name
  pub what_is : what ≡ named d.object (count_of (kind_of d.object) (take i ds))

-- `main`, or a declaration
pub found_cases : (ds : List Declaration) (word : List ℕ) (what : Named) → find_name ds word ≡ Some what
    → ((word ≡ main) × (what ≡ Named.Goroutine 0)) ⊎ IsFoundAt ds word what
found_cases ds word what h = by (bytes_eq word main) refl (position (λ (d : Declaration). bytes_eq word d.name) ds) refl h
  where
    by : (b : Bool) → bytes_eq word main ≡ b → (p : Option ℕ) → position (λ (d : Declaration). bytes_eq word d.name) ds ≡ p
        → (if b then Some (Named.Goroutine 0) else option_and_then (declared_at ds) p) ≡ Some what
        → ((word ≡ main) × (what ≡ Named.Goroutine 0)) ⊎ IsFoundAt ds word what
    by true e p f h = inl ((bytes_eq-Decides word main).0 e, sym (same_Some (Named.Goroutine 0) what h))
    by false e None f h = absurd (none-some what h)
    by false e (Some i) f h =
        let other : Declaration = record { name = []; object = Object.Var } in
        let found = position-Some (λ (d : Declaration). bytes_eq word d.name) ds i other f in
        let at = slice_get-get_or ds i other found.0 in
        let whole = ap (option_map (λ (d : Declaration). named d.object (count_of (kind_of d.object) (take i ds)))) at in
        inr (record {
          i = i;
          d = get_or ds i other;
          at = at;
          at_all = λ e. same_Some (get_or ds i e) (get_or ds i other) (sym (slice_get-get_or ds i e found.0) ∙ at);
          within = found.0;
          name = (bytes_eq-Decides word (get_or ds i other).name).0 found.1;
          what_is = sym (same_Some (named (get_or ds i other).object (count_of (kind_of (get_or ds i other).object) (take i ds))) what (sym whole ∙ h));
        })

-- a name that is found has a name's form
pub found_is_name : (decls : DeclsState) (word : List ℕ) (what : Named) → IsWellFormed decls → find_name decls.declarations word ≡ Some what
    → is_name word ≡ true
found_is_name decls word what holds h = elim (found_cases decls.declarations word what h) [
  | inl is_main ↦ ap is_name is_main.0
  | inr at ↦ ap is_name (at.name ∙ ap (λ (d : Declaration). d.name) (sym (at.at_all at.d))) ∙ holds.names at.i at.d at.within
]

-- an element that passes stands in a filter behind those that pass before it
slice_get-filter : {X : Type 0} (p : X → Bool) (xs : List X) (i : ℕ) (x : X) → slice_get xs i ≡ Some x → p x ≡ true
    → slice_get (filter p xs) (length (filter p (take i xs))) ≡ Some x
slice_get-filter p [] i x at passes = absurd (none-some x at)
slice_get-filter p (y ∷ ys) zero x at passes =
    let same = same_Some y x at in
    by (p y) (ap p same ∙ passes) ∙ ap Some same
  where
    by : (b : Bool) → b ≡ true → slice_get (cond b (y ∷ filter p ys) (filter p ys)) 0 ≡ Some y
    by true e = refl
    by false e = absurd (true≢false (sym e))
slice_get-filter p (y ∷ ys) (suc i) x at passes = by (p y) (slice_get-filter p ys i x at passes)
  where
    by : (b : Bool) → slice_get (filter p ys) (length (filter p (take i ys))) ≡ Some x
        → slice_get (cond b (y ∷ filter p ys) (filter p ys)) (length (cond b (y ∷ filter p (take i ys)) (filter p (take i ys)))) ≡ Some x
    by true h = h
    by false h = h

module _ (ds : List Declaration) (i : ℕ) (d : Declaration) (at : slice_get ds i ≡ Some d) where
  in_kind : (kind : Kind) → is_of_kind kind d.object ≡ true → slice_get (of_kind kind ds) (length (of_kind kind (take i ds))) ≡ Some d
  in_kind kind is = slice_get-filter (λ (e : Declaration). is_of_kind kind e.object) ds i d at is

  nth_is : (kind : Kind) (n : ℕ) → is_of_kind kind d.object ≡ true → n ≡ length (of_kind kind (take i ds)) → nth_name kind ds n ≡ Some d.name
  nth_is kind n is e = ap (λ k. option_map (λ (x : Declaration). x.name) (slice_get (of_kind kind ds) k)) e
      ∙ ap (option_map (λ (x : Declaration). x.name)) (in_kind kind is)

  pub name_of_named : (object : Object) → object ≡ d.object → name_of ds (named object (count_of (kind_of object) (take i ds))) ≡ Some d.name
  name_of_named Object.Goroutine e =
      let n = count_of Kind.Goroutine (take i ds) in
      by (n == 0) (grind (arith, nat_tests))
    where
      by : (b : Bool) → b ≡ false → (if b then Some main else nth_name Kind.Goroutine ds (count_of Kind.Goroutine (take i ds) - 1)) ≡ Some d.name
      by true h = absurd (true≢false h)
      by false h = nth_is Kind.Goroutine _ (ap (is_of_kind Kind.Goroutine) (sym e)) (omega arith)
  name_of_named Object.Var e = nth_is Kind.Var _ (ap (is_of_kind Kind.Var) (sym e)) (omega arith)
  name_of_named (Object.Chan capacity) e = nth_is Kind.Chan _ (ap (is_of_kind Kind.Chan) (sym e)) (omega arith)
  name_of_named (Object.Lock kept) e = nth_is Kind.Lock _ (ap (is_of_kind Kind.Lock) (sym e)) (omega arith)
  name_of_named Object.Once e = nth_is Kind.Once _ (ap (is_of_kind Kind.Once) (sym e)) (omega arith)

  below_count : (kind : Kind) → is_of_kind kind d.object ≡ true → length (of_kind kind (take i ds)) < length (of_kind kind ds)
  below_count kind is = slice_get_within (of_kind kind ds) (length (of_kind kind (take i ds))) d (in_kind kind is)

  pub declared_named : (object : Object) → object ≡ d.object → IsDeclared ds (named object (count_of (kind_of object) (take i ds)))
  declared_named Object.Goroutine e = let h = below_count Kind.Goroutine (ap (is_of_kind Kind.Goroutine) (sym e)) in omega (arith, h)
  declared_named Object.Var e = let h = below_count Kind.Var (ap (is_of_kind Kind.Var) (sym e)) in omega (arith, h)
  declared_named (Object.Chan capacity) e = let h = below_count Kind.Chan (ap (is_of_kind Kind.Chan) (sym e)) in omega (arith, h)
  declared_named (Object.Lock kept) e = let h = below_count Kind.Lock (ap (is_of_kind Kind.Lock) (sym e)) in omega (arith, h)
  declared_named Object.Once e = let h = below_count Kind.Once (ap (is_of_kind Kind.Once) (sym e)) in omega (arith, h)

-- what is found is named by the word
pub name_of_found : (ds : List Declaration) (word : List ℕ) (what : Named) → find_name ds word ≡ Some what → name_of ds what ≡ Some word
name_of_found ds word what h = elim (found_cases ds word what h) [
  | inl is_main ↦ ap (name_of ds) is_main.1 ∙ ap Some (sym is_main.0)
  | inr at ↦ ap (name_of ds) at.what_is ∙ name_of_named ds at.i at.d at.at at.d.object refl ∙ ap Some (sym at.name)
]

-- and its number is in range
pub found_is_declared : (ds : List Declaration) (word : List ℕ) (what : Named) → find_name ds word ≡ Some what → IsDeclared ds what
found_is_declared ds word what h = elim (found_cases ds word what h) [
  | inl is_main ↦ subst (IsDeclared ds) (sym is_main.1) (omega arith)
  | inr at ↦ subst (IsDeclared ds) (sym at.what_is) (declared_named ds at.i at.d at.at at.d.object refl)
]
