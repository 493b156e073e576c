-- How long a trace's text can be.
use Rattle.std.proofs.Common.{◌≡◌, ℕ, suc, ◌+◌, ◌-◌, ◌*◌, ◌^◌, ◌<◌, ◌≤◌, ◌==◌, ◌&&◌, not, Bool, true, false, IsTrue}
use Rattle.std.proofs.Common.{nat_le, nat_lt, if◌then◌else◌, List, [], ◌∷◌, ◌++◌, length, slice_get, unwrap_or, Option}
use Rattle.std.proofs.Common.{Some, None, option_map, All, map, codes, decimal, refl, sym, ap, subst, ◌∙◌, arith}
use Rattle.std.proofs.{Common.length-append, lemmas.{Bool.Decides.nat_tests, Fmt.length-decimal-le}}
use Rattle.std.proofs.lemmas.{List.Concat.flat_map-cons, Option.{slice_get_within, get_or_from_slice_get}}
use Rattle.std.specs.{List.{flat_map, list_all, join_with_byte}, Str.bytes_eq}
use Rattle.race_records.specs.declared.cases.{Case.Case, Dir.Dir, TheConstants.MAX_CASES}
use Rattle.race_records.specs.declared.event.Cause.TheVariants.{SendClosed, CloseClosed, CloseNil, UnlockFree}
use Rattle.race_records.specs.declared.event.{Cause.TheVariants.RUnlockFree, Event.Event, Op.{Op, TheVariants.Go}}
use Rattle.race_records.specs.declared.{kind.{Named.Named, Kind.Kind, Object.Object}, operands.{Operand.Operand, OpKeyword.OpKeyword}}
use Rattle.race_records.specs.{declared.decl_keywords.DeclKeyword.DeclKeyword, Operands.{says, operand_is_limited}, Name.{main, is_name}}
use Rattle.race_records.specs.{Name.{is_name_byte, is_place, is_place_byte}, Declarations.{Declaration, DeclsState}}
use Rattle.race_records.specs.Declarations.{is_of_kind, of_kind, nth_name, is_too_wide, IsWellFormed}
use Rattle.race_records.specs.{DeclKeywords.{object_says, number_limit}, Events.{TraceState, IsTrace, op_is_limited}}
use Rattle.race_records.proofs.DeclKeywordLaws.{IsWanted, says_wanted}
use Rattle.race_text.specs.Writing.{decl_keyword_text, number_words, op_keyword_text, operand_text, declarations_text, events_text, body}
use Rattle.race_text.specs.Text.{text, header, ended, line_of, declaration_line, goroutine_name, chan_text, dir_text}
use Rattle.race_text.specs.Text.{case_text, cases_text, place_text, second_text, place_words, event_line}
use Rattle.race_text.proofs.{EventLines.op_words_are, WordLemmas.both, DeclarationLemmas.small_limit}
use Rattle.race_text.proofs.{WordTable.object_words_are, NamesAgain.stands_at, HeaderLemmas.header_len}
use Rattle.race_text.proofs.WritingLemmas.{ended_more, line_of_2, text_is}

-- what holds of all elements holds of the one at an index
at_index : {X : Type 0} (P : X → Type 0) (xs : List X) → All P xs → (i : ℕ) (x : X) → slice_get xs i ≡ Some x → P x
at_index P xs all i x at = subst P (get_or_from_slice_get xs i x x at) (all i x (slice_get_within xs i x at))

-- a word and a space before the rest
more : (a rest : List ℕ) (m n : ℕ) → length a ≤ m → length rest ≤ n → length (a ++ 32 ∷ rest) ≤ m + 1 + n
more a rest m n short less = omega (arith, short, less, length-append a (32 ∷ rest))

last : (a : List ℕ) (m : ℕ) → length a ≤ m → length (a ++ 10 ∷ []) ≤ m + 1
last a m short = omega (arith, short, length-append a (10 ∷ []))

name_short : (w : List ℕ) → IsTrue (is_name w) → length w ≤ 64
name_short w is = go (not (length w == 0)) (nat_le (length w) 64) (not (bytes_eq w (codes "nil"))) (list_all is_name_byte w) refl is
  where
    go : (a b c d : Bool) → nat_le (length w) 64 ≡ b → IsTrue (a && b && c && d) → length w ≤ 64
    go true true true true low h = grind (arith, nat_tests)
    go true true true false low h = cc
    go true true false d low h = cc
    go true false c d low h = cc
    go false b c d low h = cc

place_short : (w : List ℕ) → IsTrue (is_place w) → length w ≤ 128
place_short w is = go (not (length w == 0)) (nat_le (length w) 128) (list_all is_place_byte w) refl is
  where
    go : (a b c : Bool) → nat_le (length w) 128 ≡ b → IsTrue (a && b && c) → length w ≤ 128
    go true true true low h = grind (arith, nat_tests)
    go true true false low h = cc
    go true false c low h = cc
    go false b c low h = cc

-- what holds of all declarations holds of those of a kind
of_kind_each : (P : Declaration → Type 0) (kind : Kind) (ds : List Declaration) → ((i : ℕ) (d : Declaration) → slice_get ds i ≡ Some d → P d)
    → (m : ℕ) (d : Declaration) → slice_get (of_kind kind ds) m ≡ Some d → P d
of_kind_each P kind ds each m d at = let s = stands_at kind ds m d at in each s.i d s.at

module _ (decls : DeclsState) (holds : IsWellFormed decls) where
  nth_short : (kind : Kind) (m : ℕ) → length (unwrap_or (nth_name kind decls.declarations m) []) ≤ 64
  nth_short kind m = by (slice_get (of_kind kind decls.declarations) m)
      (of_kind_each (λ (d : Declaration). length d.name ≤ 64) kind decls.declarations
      (λ i d at. name_short d.name (at_index (λ (x : Declaration). IsTrue (is_name x.name)) decls.declarations holds.names i d at)) m)
    where
      by : (o : Option Declaration) → ((d : Declaration) → o ≡ Some d → length d.name ≤ 64)
          → length (unwrap_or (option_map (λ (d : Declaration). d.name) o) []) ≤ 64
      by None each = omega arith
      by (Some d) each = each d refl

  goroutine_short : (n : ℕ) → length (goroutine_name decls.declarations n) ≤ 64
  goroutine_short n = by (n == 0) (nth_short Kind.Goroutine (n - 1))
    where
      by : (b : Bool) → length (unwrap_or (nth_name Kind.Goroutine decls.declarations (n - 1)) []) ≤ 64
          → length (unwrap_or (if b then Some main else nth_name Kind.Goroutine decls.declarations (n - 1)) []) ≤ 64
      by true rest = omega arith
      by false rest = rest

  place_text_short : (n : ℕ) → length (place_text decls.places n) ≤ 128
  place_text_short n = by (slice_get decls.places n) (λ p at. place_short p (at_index (λ (x : List ℕ). IsTrue (is_place x)) decls.places holds.places n p at))
    where
      by : (o : Option (List ℕ)) → ((p : List ℕ) → o ≡ Some p → length p ≤ 128) → length (unwrap_or o []) ≤ 128
      by None each = omega arith
      by (Some p) each = each p refl

  value_short : (v : ℕ) → nat_lt v (2 ^ 64) ≡ true → length (decimal v) ≤ 20
  value_short v low = let below : v < 2 ^ 64 = grind (arith, nat_tests) in length-decimal-le 20 v (omega arith) (omega (arith, below)) below

  decl_keyword_short : (decl_keyword : DeclKeyword) → length (decl_keyword_text decl_keyword) ≤ 64
  decl_keyword_short DeclKeyword.Goroutine = omega arith
  decl_keyword_short _ = omega arith

  -- a keyword, a name, and a number where there is a limit of it
  declared_short : (decl_keyword : DeclKeyword) (name : List ℕ) (limit number : Option ℕ) → length name ≤ 64 → IsWanted limit number → ((l : ℕ) → limit ≡ Some l → l < 2 ^ 64)
      → length (ended (line_of (decl_keyword_text decl_keyword ∷ name ∷ number_words number))) ≤ 5000
  declared_short decl_keyword name None None short wanted small =
      let len = more (decl_keyword_text decl_keyword) (name ++ 10 ∷ []) 64 65 (decl_keyword_short decl_keyword) (last name 64 short) in
      subst (λ l. length l ≤ 5000) (sym (line_of_2 (decl_keyword_text decl_keyword) name)) (omega (arith, len))
  declared_short decl_keyword name (Some l) (Some n) short wanted small =
      let low = small l refl in
      let digits = value_short n (grind (arith, nat_tests, low, wanted)) in
      let behind = more name (decimal n ++ 10 ∷ []) 64 21 short (last (decimal n) 20 digits) in
      let len = more (decl_keyword_text decl_keyword) (name ++ 32 ∷ (decimal n ++ 10 ∷ [])) 64 86 (decl_keyword_short decl_keyword) behind in
      subst (λ l. length l ≤ 5000) (sym (ended_more (decl_keyword_text decl_keyword) name (decimal n ∷ [])
      ∙ ap (λ l. decl_keyword_text decl_keyword ++ 32 ∷ l) (line_of_2 name (decimal n)))) (omega (arith, len))
  declared_short decl_keyword name None (Some n) short wanted small = absurd wanted
  declared_short decl_keyword name (Some l) None short wanted small = absurd wanted

  declaration_short : (d : Declaration) → length d.name ≤ 64 → is_too_wide d.object ≡ false → length (ended (declaration_line d)) ≤ 5000
  declaration_short d short narrow =
      let decl_keyword = (object_says d.object).0 in
      subst (λ ws. length (ended (line_of ws)) ≤ 5000) (sym (object_words_are d.name d.object))
      (declared_short decl_keyword d.name (number_limit decl_keyword) (object_says d.object).1 short (says_wanted d.object narrow) (small_limit decl_keyword))

  chan_short : (chan : Option ℕ) → length (chan_text decls.declarations chan) ≤ 64
  chan_short None = omega arith
  chan_short (Some c) = nth_short Kind.Chan c

  case_short : (case : Case) → length (case_text decls.declarations case) ≤ 69
  case_short case = by case.dir (chan_text decls.declarations case.chan) (chan_short case.chan)
    where
      by : (dir : Dir) (name : List ℕ) → length name ≤ 64 → length (dir_text dir ++ name) ≤ 69
      by Dir.Send name short = omega (arith, short)
      by Dir.Recv name short = omega (arith, short)

  joined_short : (cases : List Case) → length (join_with_byte 44 (map (case_text decls.declarations) cases)) ≤ 70 * length cases
  joined_short [] = omega arith
  joined_short (case ∷ []) = let short = case_short case in omega (arith, short)
  joined_short (case ∷ next ∷ cases) =
      let text = case_text decls.declarations case in
      let rest = joined_short (next ∷ cases) in
      let short = case_short case in
      omega (arith, short, rest, length-append text (44 ∷ join_with_byte 44 (map (case_text decls.declarations) (next ∷ cases))))

  cases_short : (cases : List Case) → nat_le (length cases) MAX_CASES ≡ true → length (cases_text decls.declarations cases) ≤ 1120
  cases_short [] few = omega arith
  cases_short (case ∷ cases) few =
      let short = joined_short (case ∷ cases) in
      let low : length (case ∷ cases) ≤ MAX_CASES = grind (arith, nat_tests, few) in
      omega (arith, short, low)

  operand_short : (operand : Operand) → operand_is_limited operand ≡ true → length (operand_text decls.declarations operand) ≤ 1120
  operand_short (Operand.Object (Named.Goroutine n)) low = let short = goroutine_short n in omega (arith, short)
  operand_short (Operand.Object (Named.Var n)) low = let short = nth_short Kind.Var n in omega (arith, short)
  operand_short (Operand.Object (Named.Chan n)) low = let short = nth_short Kind.Chan n in omega (arith, short)
  operand_short (Operand.Object (Named.Lock n)) low = let short = nth_short Kind.Lock n in omega (arith, short)
  operand_short (Operand.Object (Named.Once n)) low = let short = nth_short Kind.Once n in omega (arith, short)
  operand_short (Operand.Value v) low = let short = value_short v low in omega (arith, short)
  operand_short (Operand.Cases cases) low = cases_short cases low
  operand_short (Operand.Cause (SendClosed c)) low = let short = nth_short Kind.Chan c in omega (arith, short)
  operand_short (Operand.Cause (CloseClosed c)) low = let short = nth_short Kind.Chan c in omega (arith, short)
  operand_short (Operand.Cause CloseNil) low = omega arith
  operand_short (Operand.Cause (UnlockFree l)) low = let short = nth_short Kind.Lock l in omega (arith, short)
  operand_short (Operand.Cause (RUnlockFree l)) low = let short = nth_short Kind.Lock l in omega (arith, short)

  -- a word, and the operands behind it, and the places
  places_short : (a : List ℕ) (n : ℕ) (place2 : Option ℕ) → length a ≤ 1120
      → length (ended (line_of (a ∷ place_words (place_text decls.places n) (second_text decls.places place2)))) ≤ 1380
  places_short a n None short =
      let place = place_text decls.places n in
      let len = more a (place ++ 10 ∷ []) 1120 129 short (last place 128 (place_text_short n)) in
      subst (λ l. length l ≤ 1380) (sym (line_of_2 a place)) (omega (arith, len))
  places_short a n (Some m) short =
      let place = place_text decls.places n in
      let second = place_text decls.places m in
      let behind = more place (second ++ 10 ∷ []) 128 129 (place_text_short n) (last second 128 (place_text_short m)) in
      let len = more a (place ++ 32 ∷ (second ++ 10 ∷ [])) 1120 258 short behind in
      subst (λ l. length l ≤ 1380) (sym (ended_more a place (second ∷ []) ∙ ap (λ l. a ++ 32 ∷ l) (line_of_2 place second))) (omega (arith, len))

  operands_short : (a : List ℕ) (operands : List Operand) (n : ℕ) (place2 : Option ℕ) → length a ≤ 1120 → list_all operand_is_limited operands ≡ true
      → length (ended (line_of (a ∷ map (operand_text decls.declarations) operands ++ place_words (place_text decls.places n) (second_text decls.places place2))))
      ≤ 1121 * length operands + 1380
  operands_short a [] n place2 short low = places_short a n place2 short
  operands_short a (operand ∷ operands) n place2 short low =
      let lows = both (operand_is_limited operand) (list_all operand_is_limited operands) low in
      let text = operand_text decls.declarations operand in
      let places = place_words (place_text decls.places n) (second_text decls.places place2) in
      let rest = operands_short text operands n place2 (operand_short operand lows.0) lows.1 in
      let len = more a _ 1120 (1121 * length operands + 1380) short rest in
      subst (λ l. length l ≤ 1121 * length (operand ∷ operands) + 1380)
      (sym (ended_more a text (map (operand_text decls.declarations) operands ++ places))) (omega (arith, len))

  op_keyword_short : (op_keyword : OpKeyword) → length (op_keyword_text op_keyword) ≤ 64
  op_keyword_short OpKeyword.Go = omega arith
  op_keyword_short _ = omega arith

  few_operands : (op : Op) → length (says op).1 ≤ 3
  few_operands (Go h) = omega arith
  few_operands _ = omega arith

  event_short : (e : Event) → IsTrue (op_is_limited e.op) → length (ended (event_line decls e)) ≤ 5000
  event_short e value =
      let who = goroutine_name decls.declarations e.who in
      let places = place_words (place_text decls.places e.place) (second_text decls.places e.place2) in
      let op_keyword = (says e.op).0 in
      let operands = (says e.op).1 in
      let rest = operands_short who operands e.place e.place2 (let short = goroutine_short e.who in omega (arith, short)) value in
      let len = more (op_keyword_text op_keyword) _ 64 (1121 * length operands + 1380) (op_keyword_short op_keyword) rest in
      subst (λ ws. length (ended (line_of ws)) ≤ 5000) (sym (op_words_are decls.declarations who places e.op))
      (subst (λ l. length l ≤ 5000) (sym (ended_more (op_keyword_text op_keyword) who (map (operand_text decls.declarations) operands ++ places)))
      (omega (arith, len, few_operands e.op)))

-- so many pieces, none of them long
pieces_short : {X : Type 0} (piece : X → List ℕ) (xs : List X) → ((i : ℕ) (x : X) → slice_get xs i ≡ Some x → length (piece x) ≤ 5000)
    → length (flat_map piece xs) ≤ 5000 * length xs
pieces_short piece [] each = omega arith
pieces_short piece (x ∷ xs) each =
    let first = each 0 x refl in
    let rest = pieces_short piece xs (λ i y at. each (suc i) y at) in
    let len : length (flat_map piece (x ∷ xs)) ≡ length (piece x) + length (flat_map piece xs) =
    ap length (flat_map-cons piece x xs) ∙ length-append (piece x) (flat_map piece xs) in
    omega (arith, first, rest, len)

-- each declaration is of one kind
in_all : (Kind → List Declaration) → ℕ
in_all of = length (of Kind.Goroutine) + length (of Kind.Var) + length (of Kind.Chan) + length (of Kind.Lock) + length (of Kind.Once)

kinds_sum : (ds : List Declaration) → length ds ≡ in_all (λ kind. of_kind kind ds)
unfolding in_all
kinds_sum [] = refl
kinds_sum (e ∷ ds) = by e.object (kinds_sum ds)
  where
    by : (o : Object) → length ds ≡ in_all (λ kind. of_kind kind ds)
        → length (e ∷ ds) ≡ in_all (λ kind. if is_of_kind kind o then e ∷ of_kind kind ds else of_kind kind ds)
    by Object.Goroutine rest = omega (arith, rest)
    by Object.Var rest = omega (arith, rest)
    by (Object.Chan c) rest = omega (arith, rest)
    by (Object.Lock rw) rest = omega (arith, rest)
    by Object.Once rest = omega (arith, rest)

-- the length of a text is a u64
pub text_short : (t : TraceState) → IsTrace t → IsWellFormed t.decls → length (text t) < 2 ^ 64
unfolding in_all
text_short t is_trace holds =
    let ds = t.decls.declarations in
    let declared = pieces_short (λ (d : Declaration). ended (declaration_line d)) ds
    (λ i d at. declaration_short t.decls holds d (name_short d.name (at_index (λ (x : Declaration). IsTrue (is_name x.name)) ds holds.names i d at))
    (at_index (λ (x : Declaration). is_too_wide x.object ≡ false) ds holds.capacities i d at)) in
    let happened = pieces_short (λ (e : Event). ended (event_line t.decls e)) t.events
    (λ i e at. event_short t.decls holds e (at_index (λ (x : Event). IsTrue (op_is_limited x.op)) t.events is_trace.values i e at)) in
    let a = holds.limited Kind.Goroutine in
    let b = holds.limited Kind.Var in
    let c = holds.limited Kind.Chan in
    let d = holds.limited Kind.Lock in
    let e = holds.limited Kind.Once in
    let sum = kinds_sum ds in
    let few = is_trace.limited in
    let len : length (text t) ≡ 10 + (length (declarations_text ds) + length (events_text t.decls t.events)) =
    ap length (text_is t) ∙ length-append (ended (header t.decls.version)) (body t.decls t.events)
    ∙ (λ i. header_len t.decls.version i + length-append (declarations_text ds) (events_text t.decls t.events) i) in
    omega (arith, declared, happened, a, b, c, d, e, sum, few, len)
