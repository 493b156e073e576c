-- What each operation says: its word, and its operands in the order of its text.
use Rattle.std.specs.Prelude.{◌≡◌, ℕ, ◌≤◌, ◌^◌, ◌&&◌, Bool, true, false, if◌then◌else◌, nat_lt, nat_le, List, [], ◌∷◌}
use Rattle.std.specs.{Prelude.{length, Option, Some, None}, List.list_all, Option.{option_map, option_map_or}}
use Rattle.race_records.specs.declared.event.Op.{Op, TheVariants.{Go, Exit, Read, Write, Send, Recv, Meet, RecvClosed}}
use Rattle.race_records.specs.declared.event.Op.TheVariants.{Close, Default, Lock, Unlock, RLock, RUnlock, TryLock}
use Rattle.race_records.specs.declared.event.Op.TheVariants.{TryRLock, TryFail, OnceBegin, OnceEnd, OnceDone, Fault}
use Rattle.race_records.specs.declared.event.Cause.{Cause, TheVariants.{SendClosed, CloseClosed, CloseNil, UnlockFree}}
use Rattle.race_records.specs.declared.{event.Cause.TheVariants.RUnlockFree, cases.{Case.Case, TheConstants.MAX_CASES}}
use Rattle.race_records.specs.declared.{kind.{Kind.Kind, Named.Named}, operands.{Operand.Operand, OperandKind.OperandKind, OpKeyword.OpKeyword}}
use Rattle.race_records.specs.{declared.version.Version.Version, Cases.kept, Declarations.{Declaration, kind_of_named}}
use Rattle.race_records.specs.Declarations.{is_named, number_of, counts_of}

-- what the operation says
abbrev pub says : Op → OpKeyword × List Operand
says (Go h) = (OpKeyword.Go, Operand.Object (Named.Goroutine h) ∷ [])
says Exit = (OpKeyword.Exit, [])
says (Read x v) = (OpKeyword.Read, Operand.Object (Named.Var x) ∷ Operand.Value v ∷ [])
says (Write x v) = (OpKeyword.Write, Operand.Object (Named.Var x) ∷ Operand.Value v ∷ [])
says (Send c v) = (OpKeyword.Send, Operand.Object (Named.Chan c) ∷ Operand.Value v ∷ [])
says (Recv c v) = (OpKeyword.Recv, Operand.Object (Named.Chan c) ∷ Operand.Value v ∷ [])
says (Meet r c v) = (OpKeyword.Meet, Operand.Object (Named.Goroutine r) ∷ Operand.Object (Named.Chan c) ∷ Operand.Value v ∷ [])
says (RecvClosed c) = (OpKeyword.RecvClosed, Operand.Object (Named.Chan c) ∷ [])
says (Close c) = (OpKeyword.Close, Operand.Object (Named.Chan c) ∷ [])
says (Default cases) = (OpKeyword.Default, Operand.Cases cases ∷ [])
says (Lock l) = (OpKeyword.Lock, Operand.Object (Named.Lock l) ∷ [])
says (Unlock l) = (OpKeyword.Unlock, Operand.Object (Named.Lock l) ∷ [])
says (RLock l) = (OpKeyword.RLock, Operand.Object (Named.Lock l) ∷ [])
says (RUnlock l) = (OpKeyword.RUnlock, Operand.Object (Named.Lock l) ∷ [])
says (TryLock l) = (OpKeyword.TryLock, Operand.Object (Named.Lock l) ∷ [])
says (TryRLock l) = (OpKeyword.TryRLock, Operand.Object (Named.Lock l) ∷ [])
says (TryFail l) = (OpKeyword.TryFail, Operand.Object (Named.Lock l) ∷ [])
says (OnceBegin o) = (OpKeyword.OnceBegin, Operand.Object (Named.Once o) ∷ [])
says (OnceEnd o) = (OpKeyword.OnceEnd, Operand.Object (Named.Once o) ∷ [])
says (OnceDone o) = (OpKeyword.OnceDone, Operand.Object (Named.Once o) ∷ [])
says (Fault cause) = (OpKeyword.Fault, Operand.Cause cause ∷ [])

-- the version that brought each word
abbrev pub since : OpKeyword → Version
since OpKeyword.Go = Version.One
since OpKeyword.Exit = Version.One
since OpKeyword.Read = Version.One
since OpKeyword.Write = Version.One
since OpKeyword.Send = Version.One
since OpKeyword.Recv = Version.One
since OpKeyword.Meet = Version.One
since OpKeyword.RecvClosed = Version.One
since OpKeyword.Close = Version.One
since OpKeyword.Default = Version.One
since OpKeyword.Lock = Version.One
since OpKeyword.Unlock = Version.One
since OpKeyword.RLock = Version.One
since OpKeyword.RUnlock = Version.One
since OpKeyword.TryLock = Version.Two
since OpKeyword.TryRLock = Version.Two
since OpKeyword.TryFail = Version.Two
since OpKeyword.OnceBegin = Version.One
since OpKeyword.OnceEnd = Version.One
since OpKeyword.OnceDone = Version.One
since OpKeyword.Fault = Version.One

-- what came with a version is in it and in each later one
abbrev pub is_in : Version → Version → Bool
is_in Version.One came = elim came [ Version.One ↦ true | Version.Two ↦ false ]
is_in Version.Two came = true

-- the version has the word
abbrev pub has_op_keyword : Version → OpKeyword → Bool
has_op_keyword version keyword = is_in version (since keyword)

-- the event has a second place
abbrev pub has_two_places : OpKeyword → Bool
has_two_places OpKeyword.Meet = true
has_two_places _ = false

-- the operands are one object of the kind: its number
abbrev pub object_alone : Kind → List Operand → Option ℕ
object_alone kind (Operand.Object named ∷ []) = if is_named kind named then Some (number_of named) else None
object_alone kind _ = None

-- they are an object of the kind and a value
abbrev pub object_value : Kind → List Operand → Option (ℕ × ℕ)
object_value kind (Operand.Object named ∷ Operand.Value v ∷ []) = if is_named kind named then Some (number_of named, v) else None
object_value kind _ = None

-- there are none
abbrev pub exit_of : List Operand → Option Op
exit_of [] = Some Exit
exit_of _ = None

-- they are a receiver, a channel and a value
abbrev pub meet_of : List Operand → Option Op
meet_of (Operand.Object (Named.Goroutine r) ∷ Operand.Object (Named.Chan c) ∷ Operand.Value v ∷ []) = Some (Meet r c v)
meet_of _ = None

-- they are the cases of a select
abbrev pub default_of : List Operand → Option Op
default_of (Operand.Cases cases ∷ []) = Some (Default cases)
default_of _ = None

-- they are the cause of a fault
abbrev pub fault_of : List Operand → Option Op
fault_of (Operand.Cause cause ∷ []) = Some (Fault cause)
fault_of _ = None

-- the operation that says so, where there is one
abbrev pub op_by : OpKeyword → List Operand → Option Op
op_by OpKeyword.Go operands = option_map Go (object_alone Kind.Goroutine operands)
op_by OpKeyword.Exit operands = exit_of operands
op_by OpKeyword.Read operands = option_map (λ p. Read p.0 p.1) (object_value Kind.Var operands)
op_by OpKeyword.Write operands = option_map (λ p. Write p.0 p.1) (object_value Kind.Var operands)
op_by OpKeyword.Send operands = option_map (λ p. Send p.0 p.1) (object_value Kind.Chan operands)
op_by OpKeyword.Recv operands = option_map (λ p. Recv p.0 p.1) (object_value Kind.Chan operands)
op_by OpKeyword.Meet operands = meet_of operands
op_by OpKeyword.RecvClosed operands = option_map RecvClosed (object_alone Kind.Chan operands)
op_by OpKeyword.Close operands = option_map Close (object_alone Kind.Chan operands)
op_by OpKeyword.Default operands = default_of operands
op_by OpKeyword.Lock operands = option_map Lock (object_alone Kind.Lock operands)
op_by OpKeyword.Unlock operands = option_map Unlock (object_alone Kind.Lock operands)
op_by OpKeyword.RLock operands = option_map RLock (object_alone Kind.Lock operands)
op_by OpKeyword.RUnlock operands = option_map RUnlock (object_alone Kind.Lock operands)
op_by OpKeyword.TryLock operands = option_map TryLock (object_alone Kind.Lock operands)
op_by OpKeyword.TryRLock operands = option_map TryRLock (object_alone Kind.Lock operands)
op_by OpKeyword.TryFail operands = option_map TryFail (object_alone Kind.Lock operands)
op_by OpKeyword.OnceBegin operands = option_map OnceBegin (object_alone Kind.Once operands)
op_by OpKeyword.OnceEnd operands = option_map OnceEnd (object_alone Kind.Once operands)
op_by OpKeyword.OnceDone operands = option_map OnceDone (object_alone Kind.Once operands)
op_by OpKeyword.Fault operands = fault_of operands

-- what the operands behind each word are
abbrev pub operand_kinds : OpKeyword → List OperandKind
operand_kinds OpKeyword.Go = OperandKind.Object Kind.Goroutine ∷ []
operand_kinds OpKeyword.Exit = []
operand_kinds OpKeyword.Read = OperandKind.Object Kind.Var ∷ OperandKind.Value ∷ []
operand_kinds OpKeyword.Write = OperandKind.Object Kind.Var ∷ OperandKind.Value ∷ []
operand_kinds OpKeyword.Send = OperandKind.Object Kind.Chan ∷ OperandKind.Value ∷ []
operand_kinds OpKeyword.Recv = OperandKind.Object Kind.Chan ∷ OperandKind.Value ∷ []
operand_kinds OpKeyword.Meet = OperandKind.Object Kind.Goroutine ∷ OperandKind.Object Kind.Chan ∷ OperandKind.Value ∷ []
operand_kinds OpKeyword.RecvClosed = OperandKind.Object Kind.Chan ∷ []
operand_kinds OpKeyword.Close = OperandKind.Object Kind.Chan ∷ []
operand_kinds OpKeyword.Default = OperandKind.Cases ∷ []
operand_kinds OpKeyword.Lock = OperandKind.Object Kind.Lock ∷ []
operand_kinds OpKeyword.Unlock = OperandKind.Object Kind.Lock ∷ []
operand_kinds OpKeyword.RLock = OperandKind.RwMutex ∷ []
operand_kinds OpKeyword.RUnlock = OperandKind.RwMutex ∷ []
operand_kinds OpKeyword.TryLock = OperandKind.Object Kind.Lock ∷ []
operand_kinds OpKeyword.TryRLock = OperandKind.RwMutex ∷ []
operand_kinds OpKeyword.TryFail = OperandKind.Object Kind.Lock ∷ []
operand_kinds OpKeyword.OnceBegin = OperandKind.Object Kind.Once ∷ []
operand_kinds OpKeyword.OnceEnd = OperandKind.Object Kind.Once ∷ []
operand_kinds OpKeyword.OnceDone = OperandKind.Object Kind.Once ∷ []
operand_kinds OpKeyword.Fault = OperandKind.Cause ∷ []

-- the operand is of the kind that is wanted there; which lock is an rwmutex, the declarations tell
abbrev pub suits : OperandKind → Operand → Bool
suits (OperandKind.Object kind) (Operand.Object named) = is_named kind named
suits OperandKind.RwMutex (Operand.Object named) = is_named Kind.Lock named
suits OperandKind.Value (Operand.Value v) = true
suits OperandKind.Cases (Operand.Cases cases) = true
suits OperandKind.Cause (Operand.Cause cause) = true
suits _ _ = false

-- so is each operand
abbrev pub suit : List OperandKind → List Operand → Bool
suit [] [] = true
suit (kind ∷ kinds) (operand ∷ operands) = suits kind operand && suit kinds operands
suit _ _ = false

-- of so many channels, this is one, or it is nil
abbrev pub chan_is_in_range : ℕ → Option ℕ → Bool
chan_is_in_range chans None = true
chan_is_in_range chans (Some c) = nat_lt c chans

abbrev pub case_is_in_range : ℕ → Case → Bool
case_is_in_range chans case = chan_is_in_range chans case.chan

-- what a list keeps of a case is in range exactly where the case is
abbrev pub KeepsRange : Type 0
KeepsRange = (chans : ℕ) (case : Case) → chans ≤ 65_535 → case_is_in_range chans (kept case) ≡ case_is_in_range chans case

-- the object at which the run failed; a nil channel is none
abbrev pub failed_at : Cause → Option Named
failed_at (SendClosed c) = Some (Named.Chan c)
failed_at (CloseClosed c) = Some (Named.Chan c)
failed_at CloseNil = None
failed_at (UnlockFree l) = Some (Named.Lock l)
failed_at (RUnlockFree l) = Some (Named.Lock l)

-- with so many objects of each kind, the object's number is in range
abbrev pub named_is_in_range : (Kind → ℕ) → Named → Bool
named_is_in_range counts named = nat_lt (number_of named) (counts (kind_of_named named))

-- so is every number that the operand names
abbrev pub operand_is_in_range : (Kind → ℕ) → Operand → Bool
operand_is_in_range counts (Operand.Object named) = named_is_in_range counts named
operand_is_in_range counts (Operand.Value v) = true
operand_is_in_range counts (Operand.Cases cases) = list_all (case_is_in_range (counts Kind.Chan)) cases
operand_is_in_range counts (Operand.Cause cause) = option_map_or (named_is_in_range counts) (failed_at cause) true

-- so is each operand of the operation
abbrev pub op_is_in_range : (Kind → ℕ) → Op → Bool
op_is_in_range counts op = list_all (operand_is_in_range counts) (says op).1

-- the lock that the operation names and that has to be an rwmutex
abbrev pub rwmutex_of : Op → Option ℕ
rwmutex_of (RLock l) = Some l
rwmutex_of (RUnlock l) = Some l
rwmutex_of (TryRLock l) = Some l
rwmutex_of (Fault (RUnlockFree l)) = Some l
rwmutex_of _ = None

-- all that the operand names is declared; nil and a value name nothing
abbrev pub operand_fits : List Declaration → Operand → Bool
operand_fits ds operand = operand_is_in_range (counts_of ds) operand

-- a value is a u64, and there are not too many cases
abbrev pub operand_is_limited : Operand → Bool
operand_is_limited (Operand.Object named) = true
operand_is_limited (Operand.Value v) = nat_lt v (2 ^ 64)
operand_is_limited (Operand.Cases cases) = nat_le (length cases) MAX_CASES
operand_is_limited (Operand.Cause cause) = true
