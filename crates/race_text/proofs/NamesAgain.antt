-- The name by which a number is printed leads back to the number.
use Rattle.std.proofs.Common.{◌≡◌, ◌≢◌, ℕ, zero, suc, ◌+◌, ◌-◌, ◌<◌, ◌==◌, Bool, true, false, nat_lt, cond}
use Rattle.std.proofs.Common.{if◌then◌else◌, List, [], ◌∷◌, length, position, take, get_or, slice_get, unwrap_or, Some}
use Rattle.std.proofs.{Common.{None, option_map, refl, sym, ap, ◌∙◌, arith, true≢false}, lemmas.Bool.Decides.nat_tests}
use Rattle.std.proofs.lemmas.{List.Sums.position_or_len_is, Option.{none-some, same_Some, slice_get_within}}
use Rattle.std.{proofs.lemmas.{Option.get_or_from_slice_get, Slice.Eq.bytes_eq-Decides}, specs.Option.option_and_then}
use Rattle.std.specs.Str.{bytes_eq}
use Rattle.race_records.specs.{declared.kind.{Kind.Kind, Named.Named, Object.Object}, Name.main}
use Rattle.race_records.specs.Declarations.{Declaration, DeclsState, IsWellFormed, is_of_kind, of_kind, kind_of}
use Rattle.race_records.specs.Declarations.{count_of, named, declared_at, find_name, name_of, nth_name, first_number}
use Rattle.race_records.{specs.Declarations.IsDeclared, proofs.ListLemmas.slice_get-within}

pub differ : (a b : List ℕ) → a ≢ b → bytes_eq a b ≡ false
differ a b other = by (bytes_eq a b) refl
  where
    by : (t : Bool) → bytes_eq a b ≡ t → t ≡ false
    by true e = absurd (other ((bytes_eq-Decides a b).0 e))
    by false e = refl

-- where the nth declaration of a kind stands
pub record StandsAt (kind : Kind) (ds : List Declaration) (n : ℕ) (d : Declaration) : Type 0 where
  pub i : ℕ
  pub at : slice_get ds i ≡ Some d
  pub of : is_of_kind kind d.object ≡ true
  pub number : length (of_kind kind (take i ds)) ≡ n

pub stands_at : (kind : Kind) (ds : List Declaration) (n : ℕ) (d : Declaration) → slice_get (of_kind kind ds) n ≡ Some d → StandsAt kind ds n d
stands_at kind [] n d at = absurd (none-some d at)
stands_at kind (e ∷ ds) n d at = by (is_of_kind kind e.object) refl n at (λ n at. stands_at kind ds n d at)
  where
    by : (b : Bool) → is_of_kind kind e.object ≡ b → (n : ℕ) → slice_get (if b then e ∷ of_kind kind ds else of_kind kind ds) n ≡ Some d
        → ((n : ℕ) → slice_get (of_kind kind ds) n ≡ Some d → StandsAt kind ds n d) → StandsAt kind (e ∷ ds) n d
    by true is zero at rest = record { i = 0; at = at; of = ap (λ (x : Declaration). is_of_kind kind x.object) (sym (same_Some e d at)) ∙ is; number = refl }
    by true is (suc n) at rest =
        let s = rest n at in
        record {
          i = suc s.i;
          at = s.at;
          of = s.of;
          number = ap (λ b. length (if b then e ∷ of_kind kind (take s.i ds) else of_kind kind (take s.i ds))) is ∙ ap suc s.number;
        }
    by false is n at rest =
        let s = rest n at in
        record {
          i = suc s.i;
          at = s.at;
          of = s.of;
          number = ap (λ b. length (if b then e ∷ of_kind kind (take s.i ds) else of_kind kind (take s.i ds))) is ∙ s.number;
        }

module _ (decls : DeclsState) (holds : IsWellFormed decls) where
  abbrev ds : List Declaration
  ds = decls.declarations

  module _ (i : ℕ) (d : Declaration) (at : slice_get ds i ≡ Some d) where
    within : i < length ds
    within = slice_get_within ds i d at

    here : get_or ds i d ≡ d
    here = get_or_from_slice_get ds i d d at

    -- it is the first that has its name
    differs_before : (k : ℕ) → k < i → bytes_eq d.name (get_or ds k d).name ≡ false
    differs_before k less = differ d.name (get_or ds k d).name
        (λ same. holds.distinct k i d less within (sym same ∙ ap (λ (x : Declaration). x.name) (sym here)))

    first_is : position (λ (e : Declaration). bytes_eq d.name e.name) ds ≡ Some i
    first_is =
        let first = position_or_len_is (λ (e : Declaration). bytes_eq d.name e.name) ds i d (let w = within in omega (arith, w)) differs_before
        (λ _. (bytes_eq-Decides d.name (get_or ds i d).name).1 (ap (λ (x : Declaration). x.name) (sym here))) in
        let less : nat_lt i (length ds) ≡ true = let w = within in grind (arith, nat_tests, w) in
        (λ j. cond (nat_lt (first j) (length ds)) (Some (first j)) None) ∙ ap (λ t. cond t (Some i) None) less

    not_main : bytes_eq d.name main ≡ false
    not_main = differ d.name main (λ same. holds.not_main i d within (ap (λ (x : Declaration). x.name) here ∙ same))

    -- so its name stands for what it declares
    pub found_again : find_name ds d.name ≡ Some (named d.object (count_of (kind_of d.object) (take i ds)))
    found_again =
        (λ j. if not_main j then Some (Named.Goroutine 0) else option_and_then (declared_at ds) (first_is j))
        ∙ ap (option_map (λ (x : Declaration). named x.object (count_of (kind_of x.object) (take i ds)))) at

  named_as : Kind → ℕ → Named
  named_as Kind.Goroutine n = Named.Goroutine n
  named_as Kind.Var n = Named.Var n
  named_as Kind.Chan n = Named.Chan n
  named_as Kind.Lock n = Named.Lock n
  named_as Kind.Once n = Named.Once n

  named_is : (kind : Kind) (o : Object) (i n m : ℕ) → is_of_kind kind o ≡ true → length (of_kind kind (take i ds)) ≡ m → first_number kind + m ≡ n
      → named o (count_of (kind_of o) (take i ds)) ≡ named_as kind n
  unfolding named_as
  named_is Kind.Goroutine Object.Goroutine i n m of number is = ap Named.Goroutine (omega (arith, number, is))
  named_is Kind.Var Object.Var i n m of number is = ap Named.Var (omega (arith, number, is))
  named_is Kind.Chan (Object.Chan capacity) i n m of number is = ap Named.Chan (omega (arith, number, is))
  named_is Kind.Lock (Object.Lock rw) i n m of number is = ap Named.Lock (omega (arith, number, is))
  named_is Kind.Once Object.Once i n m of number is = ap Named.Once (omega (arith, number, is))
  named_is _ _ i n m of number is = absurd (true≢false (sym of))

  -- the name of the nth declaration of a kind
  nth_again : (kind : Kind) (n m : ℕ) → first_number kind + m ≡ n → m < length (of_kind kind ds)
      → find_name ds (unwrap_or (nth_name kind ds m) []) ≡ Some (named_as kind n)
  nth_again kind n m is less =
      let found = slice_get-within (of_kind kind ds) m less in
      let s = stands_at kind ds m found.0 found.1 in
      ap (λ o. find_name ds (unwrap_or (option_map (λ (d : Declaration). d.name) o) [])) found.1
      ∙ found_again s.i found.0 s.at ∙ ap Some (named_is kind found.0.object s.i n m s.of s.number is)

  -- the name of anything that is declared
  pub name_again : (what : Named) → IsDeclared ds what → find_name ds (unwrap_or (name_of ds what) []) ≡ Some what
  unfolding named_as
  name_again (Named.Goroutine n) less = by (n == 0) refl
    where
      by : (b : Bool) → (n == 0) ≡ b → find_name ds (unwrap_or (if b then Some main else nth_name Kind.Goroutine ds (n - 1)) []) ≡ Some (Named.Goroutine n)
      by true e = let zero : 0 ≡ n = grind (arith, nat_tests) in ap (λ k. Some (Named.Goroutine k)) zero
      by false e =
          let some : 0 < n = grind (arith, nat_tests) in
          nth_again Kind.Goroutine n (n - 1) (omega (arith, some)) (omega (arith, less, some))
  name_again (Named.Var n) less = nth_again Kind.Var n n (omega arith) (omega (arith, less))
  name_again (Named.Chan n) less = nth_again Kind.Chan n n (omega arith) (omega (arith, less))
  name_again (Named.Lock n) less = nth_again Kind.Lock n n (omega arith) (omega (arith, less))
  name_again (Named.Once n) less = nth_again Kind.Once n n (omega arith) (omega (arith, less))
