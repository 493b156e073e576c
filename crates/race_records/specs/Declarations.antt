-- What a list of declarations and a table of places say to a caller: numbers, names, and when an addition is refused.
use Rattle.std.specs.Prelude.{◌≡◌, ◌≢◌, ℕ, ◌+◌, ◌-◌, ◌<◌, ◌≤◌, ◌==◌, Bool, true, false, not, if◌then◌else◌, nat_le}
use Rattle.std.specs.Prelude.{nat_lt, List, [], ◌∷◌, ◌++◌, length, filter, take, position, slice_get, Option, Some}
use Rattle.std.specs.{Prelude.{None, is_some, option_and_then, IsTrue, All, AllPairs}, List.{list_any, position_or_len}}
use Rattle.std.specs.{Option.{option_map, option_map_or}, Str.bytes_eq}
use Rattle.race_records.specs.declared.kind.{Kind.Kind, Named.Named, Object.Object}
use Rattle.race_records.specs.declared.kind.TheConstants.{MAX_GOROUTINES, MAX_OBJECTS, MAX_CAPACITY}
use Rattle.race_records.specs.declared.declarations.DeclFault.{DeclFault, TheVariants.{BadName, Taken, TooMany}}
use Rattle.race_records.specs.declared.declarations.{DeclFault.TheVariants.BadCapacity, TheConstants.MAX_PLACES}
use Rattle.race_records.specs.{declared.version.Version.Version, Name.{main, is_name, is_place}}

-- a name, and what it is declared as
pub record Declaration : Type 0 where
  pub name : List ℕ
  pub object : Object

-- a `Decls` as its callers see it: the version of the text that it is for, the declarations in order, and the places in the order in which they came
pub record DeclsState : Type 0 where
  pub version : Version
  pub declarations : List Declaration
  pub places : List (List ℕ)

-- the kind of what is declared
abbrev pub kind_of : Object → Kind
kind_of Object.Goroutine = Kind.Goroutine
kind_of Object.Var = Kind.Var
kind_of (Object.Chan capacity) = Kind.Chan
kind_of (Object.Lock rw) = Kind.Lock
kind_of Object.Once = Kind.Once

-- the object is of the kind
abbrev pub is_of_kind : Kind → Object → Bool
is_of_kind Kind.Goroutine Object.Goroutine = true
is_of_kind Kind.Var Object.Var = true
is_of_kind Kind.Chan (Object.Chan capacity) = true
is_of_kind Kind.Lock (Object.Lock rw) = true
is_of_kind Kind.Once Object.Once = true
is_of_kind _ _ = false

-- the first number that a declaration of the kind can have: main is goroutine 0 and isn't declared
abbrev pub first_number : Kind → ℕ
first_number Kind.Goroutine = 1
first_number _ = 0

-- the most of the kind that a trace can have, main among the goroutines
abbrev pub limit_of : Kind → ℕ
limit_of Kind.Goroutine = MAX_GOROUTINES
limit_of _ = MAX_OBJECTS

-- the declarations of the kind, in order
abbrev pub of_kind : Kind → List Declaration → List Declaration
of_kind kind ds = filter (λ d. is_of_kind kind d.object) ds

-- how many of the kind there are, main counted: also the number that the next one gets
abbrev pub count_of : Kind → List Declaration → ℕ
count_of kind ds = first_number kind + length (of_kind kind ds)

-- the counts of all kinds
abbrev pub counts_of : List Declaration → Kind → ℕ
counts_of ds kind = count_of kind ds

-- how many values fit into what is declared, where it is a channel
abbrev pub width_of : Object → ℕ
width_of (Object.Chan capacity) = capacity
width_of _ = 0

-- the capacity of the channel of this number, 0 where there is none
abbrev pub capacity_of : List Declaration → ℕ → ℕ
capacity_of ds c = option_map_or (λ d. width_of d.object) (slice_get (of_kind Kind.Chan ds) c) 0

-- what is declared is an rwmutex
abbrev pub is_rwmutex : Object → Bool
is_rwmutex (Object.Lock rw) = rw
is_rwmutex _ = false

-- the lock of this number is an rwmutex; there is none where no such lock is
abbrev pub is_rw : List Declaration → ℕ → Bool
is_rw ds l = option_map_or (λ d. is_rwmutex d.object) (slice_get (of_kind Kind.Lock ds) l) false

-- the object by its kind and its number
abbrev pub named : Object → ℕ → Named
named Object.Goroutine n = Named.Goroutine n
named Object.Var n = Named.Var n
named (Object.Chan capacity) n = Named.Chan n
named (Object.Lock rw) n = Named.Lock n
named Object.Once n = Named.Once n

-- what declaration i declares: its number counts those of its kind before it
abbrev pub declared_at : List Declaration → ℕ → Option Named
declared_at ds i = option_map (λ d. named d.object (count_of (kind_of d.object) (take i ds))) (slice_get ds i)

-- what the word names
abbrev pub find_name : List Declaration → List ℕ → Option Named
find_name ds word =
    if bytes_eq word main then Some (Named.Goroutine 0)
    else option_and_then (declared_at ds) (position (λ d. bytes_eq word d.name) ds)

-- the kind of what is named, and its number
abbrev pub kind_of_named : Named → Kind
kind_of_named (Named.Goroutine n) = Kind.Goroutine
kind_of_named (Named.Var n) = Kind.Var
kind_of_named (Named.Chan n) = Kind.Chan
kind_of_named (Named.Lock n) = Kind.Lock
kind_of_named (Named.Once n) = Kind.Once

-- what is named is of the kind
abbrev pub is_named : Kind → Named → Bool
is_named Kind.Goroutine (Named.Goroutine n) = true
is_named Kind.Var (Named.Var n) = true
is_named Kind.Chan (Named.Chan n) = true
is_named Kind.Lock (Named.Lock n) = true
is_named Kind.Once (Named.Once n) = true
is_named _ _ = false

abbrev pub number_of : Named → ℕ
number_of (Named.Goroutine n) = n
number_of (Named.Var n) = n
number_of (Named.Chan n) = n
number_of (Named.Lock n) = n
number_of (Named.Once n) = n

-- the number is in range: there is such an object
abbrev pub IsDeclared : List Declaration → Named → Type 0
IsDeclared ds name = number_of name < count_of (kind_of_named name) ds

-- the name of the nth declaration of the kind, n counted from 0
abbrev pub nth_name : Kind → List Declaration → ℕ → Option (List ℕ)
nth_name kind ds n = option_map (λ d. d.name) (slice_get (of_kind kind ds) n)

-- the name by which the object was declared, or `main`
abbrev pub name_of : List Declaration → Named → Option (List ℕ)
name_of ds (Named.Goroutine n) = if n == 0 then Some main else nth_name Kind.Goroutine ds (n - 1)
name_of ds (Named.Var n) = nth_name Kind.Var ds n
name_of ds (Named.Chan n) = nth_name Kind.Chan ds n
name_of ds (Named.Lock n) = nth_name Kind.Lock ds n
name_of ds (Named.Once n) = nth_name Kind.Once ds n

-- a channel's capacity is over its limit
abbrev pub is_too_wide : Object → Bool
is_too_wide (Object.Chan capacity) = nat_lt MAX_CAPACITY capacity
is_too_wide _ = false

-- why the declaration is refused: the first cause, in the order in which they are tested
unfoldable pub decl_fault : List Declaration → Object → List ℕ → Option DeclFault
decl_fault ds object word =
    if not (is_name word) then Some BadName
    else (if is_some (find_name ds word) then Some Taken
    else (if nat_le (limit_of (kind_of object)) (count_of (kind_of object) ds) then Some TooMany
    else (if is_too_wide object then Some BadCapacity else None)))

-- the state with one more declaration, at the end
abbrev pub with_declaration : DeclsState → List ℕ → Object → DeclsState
with_declaration decls word object =
    record {
      version = decls.version;
      declarations = decls.declarations ++ record { name = word; object = object } ∷ [];
      places = decls.places;
    }

-- the place is in the table
abbrev pub is_known : List (List ℕ) → List ℕ → Bool
is_known places word = list_any (bytes_eq word) places

-- why the place is refused: a known place never is
unfoldable pub place_fault : List (List ℕ) → List ℕ → Option DeclFault
place_fault places word =
    if not (is_place word) then Some BadName
    else (if is_known places word then None
    else (if nat_le MAX_PLACES (length places) then Some TooMany else None))

-- the number of the place: its own where it is known, else the next
abbrev pub place_number : List (List ℕ) → List ℕ → ℕ
place_number places word = position_or_len (bytes_eq word) places

-- the state with the place at the end of the table, unless it is known
abbrev pub with_place : DeclsState → List ℕ → DeclsState
with_place decls word =
    record {
      version = decls.version;
      declarations = decls.declarations;
      places = if is_known decls.places word then decls.places else decls.places ++ word ∷ [];
    }

-- what holds of every `Decls`
pub record IsWellFormed (decls : DeclsState) : Type 0 where
  -- each name has a name's form, isn't `main`, and is declared once
  pub names : All (λ d. IsTrue (is_name d.name)) decls.declarations
  pub not_main : All (λ d. d.name ≢ main) decls.declarations
  pub distinct : AllPairs (λ d e. d.name ≢ e.name) decls.declarations
  -- no kind is over its limit, and no channel's capacity
  pub limited : (kind : Kind) → count_of kind decls.declarations ≤ limit_of kind
  pub capacities : All (λ d. is_too_wide d.object ≡ false) decls.declarations
  -- each place has a place's form and stands once, and there are not too many
  pub places : All (λ p. IsTrue (is_place p)) decls.places
  pub places_distinct : AllPairs (λ p q. p ≢ q) decls.places
  pub places_limited : length decls.places ≤ MAX_PLACES
