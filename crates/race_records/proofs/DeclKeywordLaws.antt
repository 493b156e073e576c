-- The table of what declarations say, and its way back.
use Rattle.std.proofs.Common.{◌≡◌, ◌≤◌, ℕ, true, false, Option, Some, None, refl, sym, ap, arith}
use Rattle.std.proofs.lemmas.{Bool.Decides.nat_tests, Option.{none-some, same_Some}}
use Rattle.race_records.specs.declared.{kind.{Object.Object, TheConstants.MAX_CAPACITY}, decl_keywords.DeclKeyword.DeclKeyword}
use Rattle.race_records.specs.{Declarations.{kind_of, is_too_wide}, DeclKeywords.{object_says, object_by, number_limit}}
use Rattle.race_records.specs.DeclKeywords.{kind_of_decl_keyword}

-- what the declaration of an object says leads back to it
pub object_says_again : (object : Object) → object_by (object_says object).0 (object_says object).1 ≡ Some object
object_says_again Object.Goroutine = refl
object_says_again Object.Var = refl
object_says_again (Object.Chan capacity) = refl
object_says_again (Object.Lock false) = refl
object_says_again (Object.Lock true) = refl
object_says_again Object.Once = refl

-- its word declares its kind
pub kind_of_says : (object : Object) → kind_of_decl_keyword (object_says object).0 ≡ kind_of object
kind_of_says Object.Goroutine = refl
kind_of_says Object.Var = refl
kind_of_says (Object.Chan capacity) = refl
kind_of_says (Object.Lock false) = refl
kind_of_says (Object.Lock true) = refl
kind_of_says Object.Once = refl

-- the object whose declaration says so says so
pub object_by_says : (keyword : DeclKeyword) (number : Option ℕ) (object : Object) → object_by keyword number ≡ Some object → object_says object ≡ (keyword, number)
object_by_says keyword number object e = by keyword number object e
  where
    is : (made object : Object) → Some made ≡ Some object → object_says object ≡ object_says made
    is made object e = ap object_says (sym (same_Some made object e))

    by : (keyword : DeclKeyword) (number : Option ℕ) (object : Object) → object_by keyword number ≡ Some object → object_says object ≡ (keyword, number)
    by DeclKeyword.Goroutine None object e = is _ object e
    by DeclKeyword.Var None object e = is _ object e
    by DeclKeyword.Chan (Some capacity) object e = is _ object e
    by DeclKeyword.Mutex None object e = is _ object e
    by DeclKeyword.RwMutex None object e = is _ object e
    by DeclKeyword.Once None object e = is _ object e
    by _ _ object e = absurd (none-some object e)

-- a number that is there where the word wants one
abbrev pub IsWanted : Option ℕ → Option ℕ → Type 0
IsWanted None None = Unit {0}
IsWanted (Some limit) (Some number) = number ≤ limit
IsWanted _ _ = ⊥

-- such a number makes an object, and no capacity that is too wide
pub object_is_there : (keyword : DeclKeyword) (number : Option ℕ) → IsWanted (number_limit keyword) number
    → (object : Object) × (object_by keyword number ≡ Some object) × (is_too_wide object ≡ false)
object_is_there DeclKeyword.Goroutine None wanted = (Object.Goroutine, refl, refl)
object_is_there DeclKeyword.Var None wanted = (Object.Var, refl, refl)
object_is_there DeclKeyword.Chan (Some capacity) wanted = (Object.Chan capacity, refl, grind (arith, nat_tests, wanted))
object_is_there DeclKeyword.Mutex None wanted = (Object.Lock false, refl, refl)
object_is_there DeclKeyword.RwMutex None wanted = (Object.Lock true, refl, refl)
object_is_there DeclKeyword.Once None wanted = (Object.Once, refl, refl)
object_is_there DeclKeyword.Chan None wanted = absurd wanted
object_is_there _ (Some number) wanted = absurd wanted

-- the number that an object says is wanted, unless it is too wide
pub says_wanted : (object : Object) → is_too_wide object ≡ false → IsWanted (number_limit (object_says object).0) (object_says object).1
says_wanted Object.Goroutine narrow = tt
says_wanted Object.Var narrow = tt
says_wanted (Object.Chan capacity) narrow = by (grind (arith, nat_tests))
  where
    by : capacity ≤ MAX_CAPACITY → capacity ≤ MAX_CAPACITY
    by e = e
says_wanted (Object.Lock false) narrow = tt
says_wanted (Object.Lock true) narrow = tt
says_wanted Object.Once narrow = tt
