-- How many lines a trace has, and that there are few.
use Rattle.std.proofs.Common.{◌≡◌, ℕ, ◌+◌, ◌<◌, ◌^◌, Bool, true, List, [], ◌∷◌, length, map, Option, Some, None, refl}
use Rattle.std.proofs.{Common.{◌∙◌, arith}, lemmas.List.{length-append, length-map}}
use Rattle.race_records.specs.{declared.kind.{Kind.Kind, Object.Object}, Declarations.{Declaration, DeclsState}}
use Rattle.race_records.specs.{Declarations.{IsWellFormed, of_kind}, Events.TraceState}
use Rattle.race_text.specs.{Text.{lines, declaration_line, event_line}, Taking.begun, Reader.lines_read}

-- how many declarations there are, kind by kind
abbrev by_kind : List Declaration → ℕ
by_kind ds =
    length (of_kind Kind.Goroutine ds) + length (of_kind Kind.Var ds) + length
    (of_kind Kind.Chan ds) + length (of_kind Kind.Lock ds) + length (of_kind Kind.Once ds)

-- how many lines there are
counted : (ds : List Declaration) → length ds ≡ by_kind ds
counted [] = refl
counted (d ∷ ds) = by d.name d.object (counted ds)
  where
    by : (name : List ℕ) (o : Object) → length ds ≡ by_kind ds → let all = record { name = name; object = o } ∷ ds in length all ≡ by_kind all
    by name Object.Goroutine more = omega (arith, more)
    by name Object.Var more = omega (arith, more)
    by name (Object.Chan capacity) more = omega (arith, more)
    by name (Object.Lock rw) more = omega (arith, more)
    by name Object.Once more = omega (arith, more)

pub few_declared : (decls : DeclsState) → IsWellFormed decls → length decls.declarations < 2 ^ 32
few_declared decls w =
    let all = counted decls.declarations in
    let goroutines = w.limited Kind.Goroutine in
    let vars = w.limited Kind.Var in
    let chans = w.limited Kind.Chan in
    let locks = w.limited Kind.Lock in
    let onces = w.limited Kind.Once in
    omega (arith, all, goroutines, vars, chans, locks, onces)

pub lines_len : (t : TraceState) → length (lines t) ≡ length t.decls.declarations + length t.events + 1
unfolding lines
lines_len t =
    let behind = length-append (map (declaration_line) t.decls.declarations) (map (event_line t.decls) t.events) in
    let declared = length-map t.decls.declarations declaration_line in
    let done = length-map t.events (event_line t.decls) in
    omega (arith, behind, declared, done)

pub line_of_events : (header : Bool) (decls : DeclsState) (trace : Option TraceState) (t : TraceState) → header ≡ true → trace ≡ Some t
    → length (lines_read header decls trace) ≡ length t.decls.declarations + length t.events + 1
line_of_events header decls trace t read is = (λ i. length (lines_read (read i) decls (is i))) ∙ lines_len t

pub line_of_declarations : (header : Bool) (decls : DeclsState) (trace : Option TraceState) → header ≡ true → trace ≡ None
    → length (lines_read header decls trace) ≡ length decls.declarations + 1
line_of_declarations header decls trace read is = (λ i. length (lines_read (read i) decls (is i))) ∙ lines_len (begun decls) ∙ omega arith
