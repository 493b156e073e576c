-- What it means that nothing refuses a declaration or a place.
use Rattle.std.proofs.Common.{◌≡◌, ◌≢◌, ℕ, ◌<◌, Bool, true, false, not, nat_le, List, [], length, position, get_or}
use Rattle.std.proofs.Common.{Option, Some, None, IsNone, IsTrue, is_some, option_map, if◌then◌else◌, take, refl, sym}
use Rattle.std.proofs.{Common.{ap, ◌∙◌, true≢false, arith}, lemmas.{Bool.Decides.nat_tests, List.Folds.list_any_at}}
use Rattle.std.proofs.lemmas.{List.Quantifiers.position-Some, Option.none-some, Slice.Eq.bytes_eq-Decides}
use Rattle.std.specs.{Option.option_and_then, Str.bytes_eq}
use Rattle.race_records.specs.declared.{kind.{Named.Named, Object.Object}, declarations.DeclFault.DeclFault}
use Rattle.race_records.specs.declared.declarations.DeclFault.TheVariants.{BadName, Taken, TooMany, BadCapacity}
use Rattle.race_records.specs.{Name.{main, is_name}, Declarations.{Declaration, decl_fault, declared_at, find_name}}
use Rattle.race_records.specs.Declarations.{named, kind_of, count_of, limit_of, is_too_wide}
use Rattle.race_records.proofs.{ListLemmas.slice_get-within, TextLemmas.list_any-absent}

-- a word that nothing is named by isn't `main`, and no declaration has it
pub record IsFree (ds : List Declaration) (word : List ℕ) : Type 0 where
  pub not_main : word ≢ main
  pub absent : IsNone (position (λ (d : Declaration). bytes_eq word d.name) ds)

-- what no fault means
pub record IsAllowed (ds : List Declaration) (object : Object) (word : List ℕ) : Type 0 where
  pub name : IsTrue (is_name word)
  pub free : IsFree ds word
  pub room : count_of (kind_of object) ds < limit_of (kind_of object)
  pub narrow : is_too_wide object ≡ false

bytes_differ : (a b : List ℕ) → bytes_eq a b ≡ false → a ≢ b
bytes_differ a b h e = true≢false (sym ((bytes_eq-Decides a b).1 e) ∙ h)

-- an absent name is none of the names
pub differs_from_absent : (ds : List Declaration) (word : List ℕ) → IsNone (position (λ (d : Declaration). bytes_eq word d.name) ds)
    → (k : ℕ) (e : Declaration) → k < length ds → word ≢ (get_or ds k e).name
differs_from_absent ds word none k e within same =
    let T = λ (d : Declaration). bytes_eq word d.name in
    true≢false (sym (list_any_at T ds k e within ((bytes_eq-Decides word (get_or ds k e).name).1 same)) ∙ list_any-absent T ds none)

-- an absent name is found nowhere, so a name that is found nowhere is absent
no_index : (ds : List Declaration) (word : List ℕ) (p : Option ℕ) → position (λ (d : Declaration). bytes_eq word d.name) ds ≡ p
    → is_some (option_and_then (declared_at ds) p) ≡ false → IsNone p
no_index ds word None e h = refl
no_index ds word (Some i) e h =
    let within = position-Some (λ (d : Declaration). bytes_eq word d.name) ds i (record { name = []; object = Object.Var }) e in
    let at = slice_get-within ds i within.0 in
    absurd (true≢false (sym (ap (λ o. is_some (option_map (λ (d : Declaration). named d.object (count_of (kind_of d.object) (take i ds))) o)) at.1) ∙ h))

pub free_from_find : (ds : List Declaration) (word : List ℕ) → is_some (find_name ds word) ≡ false → IsFree ds word
free_from_find ds word h = by (bytes_eq word main) refl h
  where
    by : (b : Bool) → bytes_eq word main ≡ b
        → is_some (if b then Some (Named.Goroutine 0) else option_and_then (declared_at ds) (position (λ (d : Declaration). bytes_eq word d.name) ds))
        ≡ false → IsFree ds word
    by true e h = absurd (true≢false h)
    by false e h = record { not_main = bytes_differ word main e; absent = no_index ds word (position (λ (d : Declaration). bytes_eq word d.name) ds) refl h }

-- where no fault is told, each test was passed
pub allowed_from_no_fault : (ds : List Declaration) (object : Object) (word : List ℕ) → decl_fault ds object word ≡ None → IsAllowed ds object word
unfolding decl_fault
allowed_from_no_fault ds object word h =
    by (is_name word) refl (is_some (find_name ds word)) refl
    (nat_le (limit_of (kind_of object)) (count_of (kind_of object) ds)) refl (is_too_wide object) refl h
  where
    by : (b : Bool) → is_name word ≡ b → (c : Bool) → is_some (find_name ds word) ≡ c → (full : Bool)
        → nat_le (limit_of (kind_of object)) (count_of (kind_of object) ds) ≡ full
        → (wide : Bool) → is_too_wide object ≡ wide
        → ◌≡◌ {A = Option DeclFault} (if not b then Some BadName else
        (if c then Some Taken else (if full then Some TooMany else (if wide then Some BadCapacity else None)))) None
        → IsAllowed ds object word
    by false _ _ _ _ _ _ _ h = absurd (none-some _ (sym h))
    by true _ true _ _ _ _ _ h = absurd (none-some _ (sym h))
    by true _ false _ true _ _ _ h = absurd (none-some _ (sym h))
    by true _ false _ false _ true _ h = absurd (none-some _ (sym h))
    by true named false free false room false narrow h =
        record { name = named; free = free_from_find ds word free; room = grind (arith, nat_tests); narrow = narrow }
