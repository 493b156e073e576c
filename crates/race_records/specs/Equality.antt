-- What `==` of two `Decls` tests, and that it holds just where the versions and the lists of declarations are equal.
use Rattle.std.proofs.Common.{◌≡◌, ◌==◌, ◌&&◌, Bool, true, false, List, Decides, refl, sym, ap, true≢false}
use Rattle.std.{proofs.lemmas.{Bool.Decides.Decides-eqb, Slice.Eq.{bytes_eq-Decides, slice_eq-Decides}}, specs.Bool.beq}
use Rattle.std.specs.Cmp.{IsPartialEquivalence, partial_equiv_from_equiv, decided, on_per, booleans_Decides}
use Rattle.std.specs.{Cmp.Lexicographic.pointwise, Str.bytes_eq}
use Rattle.race_records.specs.declared.{kind.Object.Object, version.Version.Version}
use Rattle.race_records.specs.Declarations.{Declaration, DeclsState}

-- the two are declared alike
abbrev pub same_object : Object → Object → Bool
same_object Object.Goroutine Object.Goroutine = true
same_object Object.Var Object.Var = true
same_object (Object.Chan a) (Object.Chan b) = a == b
same_object (Object.Lock a) (Object.Lock b) = beq a b
same_object Object.Once Object.Once = true
same_object _ _ = false

-- what a `Decls` declares, and the version of the text that it is for: places don't count
pub record Declared : Type 0 where
  pub version : Version
  pub declarations : List Declaration

abbrev pub declared : DeclsState → Declared
declared decls = record { version = decls.version; declarations = decls.declarations }

-- the versions are the same
abbrev pub same_version : Version → Version → Bool
same_version Version.One Version.One = true
same_version Version.Two Version.Two = true
same_version _ _ = false

-- the same names, declared alike, in the same order
abbrev pub same_declarations : List Declaration → List Declaration → Bool
same_declarations ds es = pointwise (λ (d e : Declaration). bytes_eq d.name e.name && same_object d.object e.object) ds es

-- what `==` of two `Decls` tests
abbrev pub same_declared : Declared → Declared → Bool
same_declared d e = same_version d.version e.version && same_declarations d.declarations e.declarations

abbrev pub same_decls : DeclsState → DeclsState → Bool
same_decls d e = same_declared (declared d) (declared e)

-- equal versions are the same, and those alone
pub same_version-Decides : (a b : Version) → Decides (same_version a b) (a ≡ b)
same_version-Decides Version.One Version.One = (λ _. refl, λ _. refl)
same_version-Decides Version.Two Version.Two = (λ _. refl, λ _. refl)
same_version-Decides _ _ = (λ e. absurd (true≢false (sym e)), λ e. cc)

-- equal objects are declared alike, and those alone
pub same_object-Decides : (a b : Object) → Decides (same_object a b) (a ≡ b)
same_object-Decides Object.Goroutine Object.Goroutine = (λ _. refl, λ _. refl)
same_object-Decides Object.Var Object.Var = (λ _. refl, λ _. refl)
same_object-Decides (Object.Chan m) (Object.Chan n) = (λ e. ap Object.Chan ((Decides-eqb m n).0 e), λ e. (Decides-eqb m n).1 cc)
same_object-Decides (Object.Lock p) (Object.Lock q) = (λ e. ap Object.Lock ((booleans_Decides p q).0 e), λ e. (booleans_Decides p q).1 cc)
same_object-Decides Object.Once Object.Once = (λ _. refl, λ _. refl)
same_object-Decides _ _ = (λ e. absurd (true≢false (sym e)), λ e. cc)

same_declaration-Decides : (d e : Declaration) → Decides (bytes_eq d.name e.name && same_object d.object e.object) (d ≡ e)
same_declaration-Decides d e = by (bytes_eq d.name e.name) (same_object d.object e.object)
    (bytes_eq-Decides d.name e.name) (same_object-Decides d.object e.object)
  where
    by : (b c : Bool) → Decides b (d.name ≡ e.name) → Decides c (d.object ≡ e.object) → Decides (b && c) (d ≡ e)
    by true true p q = (λ _ i. record { name = p.0 refl i; object = q.0 refl i }, λ _. refl)
    by false c p q = (λ h. absurd (true≢false (sym h)), λ h. absurd (true≢false (sym (p.1 (ap (λ (x : Declaration). x.name) h)))))
    by true false p q = (λ h. absurd (true≢false (sym h)), λ h. absurd (true≢false (sym (q.1 (ap (λ (x : Declaration). x.object) h)))))

pub same_declarations-Decides : (ds es : List Declaration) → Decides (same_declarations ds es) (ds ≡ es)
same_declarations-Decides ds es = slice_eq-Decides {E = λ (d e : Declaration). bytes_eq d.name e.name
    && same_object d.object e.object} same_declaration-Decides ds es (same_declarations ds es) refl

pub same_declared-Decides : (d e : Declared) → Decides (same_declared d e) (d ≡ e)
same_declared-Decides d e = by (same_version d.version e.version) (same_declarations d.declarations e.declarations)
    (same_version-Decides d.version e.version) (same_declarations-Decides d.declarations e.declarations)
  where
    by : (b c : Bool) → Decides b (d.version ≡ e.version) → Decides c (d.declarations ≡ e.declarations) → Decides (b && c) (d ≡ e)
    by true true p q = (λ _ i. record { version = p.0 refl i; declarations = q.0 refl i }, λ _. refl)
    by false c p q = (λ h. absurd (true≢false (sym h)), λ h. absurd (true≢false (sym (p.1 (ap (λ (x : Declared). x.version) h)))))
    by true false p q = (λ h. absurd (true≢false (sym h)), λ h. absurd (true≢false (sym (q.1 (ap (λ (x : Declared). x.declarations) h)))))

pub same_decls_laws : IsPartialEquivalence same_decls
same_decls_laws = on_per declared (partial_equiv_from_equiv (decided same_declared same_declared-Decides))
