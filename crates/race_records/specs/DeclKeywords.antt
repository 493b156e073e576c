-- What each declaration says: its word, and the number behind the name where it has one.
use Rattle.std.specs.Prelude.{ℕ, true, false, Option, Some, None}
use Rattle.race_records.specs.declared.{kind.{Kind.Kind, Object.Object, TheConstants.MAX_CAPACITY}, decl_keywords.DeclKeyword.DeclKeyword}

-- what the declaration of an object says
abbrev pub object_says : Object → DeclKeyword × Option ℕ
object_says Object.Goroutine = (DeclKeyword.Goroutine, None)
object_says Object.Var = (DeclKeyword.Var, None)
object_says (Object.Chan capacity) = (DeclKeyword.Chan, Some capacity)
object_says (Object.Lock false) = (DeclKeyword.Mutex, None)
object_says (Object.Lock true) = (DeclKeyword.RwMutex, None)
object_says Object.Once = (DeclKeyword.Once, None)

-- the object whose declaration says so, where there is one
abbrev pub object_by : DeclKeyword → Option ℕ → Option Object
object_by DeclKeyword.Goroutine None = Some Object.Goroutine
object_by DeclKeyword.Var None = Some Object.Var
object_by DeclKeyword.Chan (Some capacity) = Some (Object.Chan capacity)
object_by DeclKeyword.Mutex None = Some (Object.Lock false)
object_by DeclKeyword.RwMutex None = Some (Object.Lock true)
object_by DeclKeyword.Once None = Some Object.Once
object_by _ _ = None

-- the limit of the number behind the name, where there is one
abbrev pub number_limit : DeclKeyword → Option ℕ
number_limit DeclKeyword.Chan = Some MAX_CAPACITY
number_limit _ = None

-- the kind of what the word declares
abbrev pub kind_of_decl_keyword : DeclKeyword → Kind
kind_of_decl_keyword DeclKeyword.Goroutine = Kind.Goroutine
kind_of_decl_keyword DeclKeyword.Var = Kind.Var
kind_of_decl_keyword DeclKeyword.Chan = Kind.Chan
kind_of_decl_keyword DeclKeyword.Mutex = Kind.Lock
kind_of_decl_keyword DeclKeyword.RwMutex = Kind.Lock
kind_of_decl_keyword DeclKeyword.Once = Kind.Once
