-- How many lines were read.
use Rattle.std.proofs.Common.{◌≡◌, ℕ, ◌+◌, ◌*◌, ◌<◌, ◌≤◌, ◌^◌, ◌&&◌, true, nat_le, List, [], ◌∷◌, ◌++◌, length, map}
use Rattle.std.proofs.Common.{sum_by, IfSome, Option, Some, None, refl, sym, ap, subst, ◌∙◌, arith}
use Rattle.std.proofs.lemmas.{Bool.Decides.nat_tests, List.{length-append, length-map, Sums.sum_by-append}}
use Rattle.std.specs.{List.list_all, Option.option_map_or}
use Rattle.race_records.specs.{declared.kind.Kind.Kind, Declarations.DeclsState}
use Rattle.race_requests.specs.declared.request.Request.{Request}
use Rattle.race_text.{specs.Text.declaration_line, proofs.{LineCount.few_declared, WordLemmas.both}}
use Rattle.race_script.specs.{declared.program.TheConstants.MAX_STEPS, Bodies.is_body, Program.{Instruction, Draft}}
use Rattle.race_script.specs.Program.{asks_of, request_fits, is_body_of, instruction, spelled, bodies_of}
use Rattle.race_script.specs.Reader.{UnendedState, ReadState, spelled_unended, draft_read, IsUnended, IsSound, IsRead, IsReadBy}
use Rattle.race_script.specs.{Reader.{IsReading, lines_by, lines_read}, Text.{Begins, Asks, said_line, saids, lines}}
use Rattle.race_script.proofs.LineLemmas.{saids_body}

-- the lines of a body
abbrev pub body_lines : List Request → ℕ
body_lines body = 1 + length body

saids_len : (places : List (List ℕ)) (bodies : List (List Request)) (g : ℕ) → length (saids g (map (spelled places) bodies)) ≡ sum_by body_lines bodies
saids_len places [] g = refl
saids_len places (b ∷ bs) g =
    let rest = saids_len places bs (g + 1) in
    let all = length-append (Begins g ∷ map Asks (spelled places b)) (saids (g + 1) (map (spelled places) bs)) in
    let asked = length-map (spelled places b) Asks in
    let one = length-map b (instruction places) in
    let sums : sum_by body_lines (b ∷ bs) ≡ (0 + body_lines b) + sum_by body_lines bs = sum_by-append body_lines (b ∷ []) bs in
    omega (arith, rest, all, asked, one, sums)

few_lines : (decls : DeclsState) (bodies : List (List Request)) → list_all (is_body_of decls) bodies ≡ true → sum_by body_lines bodies ≤ length bodies * 65536
few_lines decls [] h = omega arith
few_lines decls (b ∷ bs) h =
    let two = both (is_body_of decls b) (list_all (is_body_of decls) bs) h in
    let last = (both (list_all (request_fits decls) b && is_body (asks_of b)) (nat_le (length b) MAX_STEPS) two.0).1 in
    let low : length b ≤ 65535 = grind (arith, nat_tests, last) in
    let rest = few_lines decls bs two.1 in
    let sums : sum_by body_lines (b ∷ bs) ≡ (0 + body_lines b) + sum_by body_lines bs = sum_by-append body_lines (b ∷ []) bs in
    omega (arith, low, rest, sums)

-- the same of a list that a view maps
pub total_viewed : {X : Type 0} (items : X → List Request) (xs ys : List X) → xs ≡ ys
    → sum_by (λ x. 1 + length (items x)) xs ≡ sum_by body_lines (map items ys)
total_viewed {X} items xs ys same = ap (sum_by (λ x. 1 + length (items x))) same ∙ by ys
  where
    by : (xs : List X) → sum_by (λ x. 1 + length (items x)) xs ≡ sum_by body_lines (map items xs)
    by [] = refl
    by (x ∷ xs) =
        sum_by-append (λ x. 1 + length (items x)) (x ∷ []) xs
        ∙ ap (λ n. (0 + (1 + length (items x))) + n) (by xs)
        ∙ sym (sum_by-append body_lines (items x ∷ []) (map items xs))

pub few_viewed : {X : Type 0} (items : X → List Request) (xs ys : List X) (m : ℕ) → xs ≡ ys → sum_by body_lines (map items ys) < m
    → sum_by (λ x. 1 + length (items x)) xs < m
few_viewed items xs ys m same less = let total = total_viewed items xs ys same in omega (arith, total, less)

lines_len : (d : Draft) → length (lines d) ≡ 1 + length d.declarations + length (saids 0 (bodies_of d))
unfolding lines
lines_len d =
    let all = length-append (map declaration_line d.declarations) (map (said_line d.declarations) (saids 0 (bodies_of d))) in
    let declared = length-map d.declarations declaration_line in
    let said = length-map (saids 0 (bodies_of d)) (said_line d.declarations) in
    omega (arith, all, declared, said)

-- how many lines were read, by what is kept of them
pub record Counted (s : ReadState) (n : ℕ) : Type 0 where
  pub declared : length s.decls.declarations < 2 ^ 32
  pub few : sum_by body_lines s.ended ≤ 1024 * 65536
  pub none : s.unended ≡ None → n ≡ 1 + length s.decls.declarations + sum_by body_lines s.ended
  pub some : (u : UnendedState) → s.unended ≡ Some u
      → (n ≡ 2 + length s.decls.declarations + sum_by body_lines s.ended + length u.requests) × (length u.requests ≤ MAX_STEPS)

module _ (s : ReadState) (sound : IsSound s) where
  abbrev ended : List (List Instruction)
  ended = map (spelled s.decls.places) s.ended

  abbrev bodies_with : Option UnendedState → List (List Instruction)
  bodies_with o = option_map_or (λ (body : List Instruction). ended ++ body ∷ []) (spelled_unended s.decls.places o) ended

  at_least : (o : Option UnendedState) → length s.ended ≤ length (bodies_with o)
  at_least None = let n = length-map s.ended (spelled s.decls.places) in omega (arith, n)
  at_least (Some u) =
      let n = length-map s.ended (spelled s.decls.places) in
      let m = length-append ended (spelled s.decls.places u.requests ∷ []) in
      omega (arith, n, m)

  are_counted : Counted s (length (lines (draft_read s)))
  are_counted =
      let all = lines_len (draft_read s) in
      let len = saids_len s.decls.places s.ended 0 in
      record {
        declared = few_declared s.decls sound.well_formed;
        few =
            let most = few_lines s.decls s.ended sound.ended in
            let limit = sound.well_formed.limited Kind.Goroutine in
            let low = sound.few in
            let ended = at_least s.unended in
            omega (arith, most, limit, low, ended);
        none = λ none. let is = ap (λ o. length (saids 0 (bodies_with o))) none in omega (arith, all, is, len);
        some = λ u some.
            let body = spelled s.decls.places u.requests in
            let is = ap (λ o. length (saids 0 (bodies_with o))) some in
            let more = ap length (saids_body 0 ended body) ∙ length-append (saids 0 ended) (Begins (0 + length ended) ∷ map Asks body) in
            let asked = length-map body Asks in
            let one = length-map u.requests (instruction s.decls.places) in
            (omega (arith, all, is, more, asked, one, len), (subst (λ o. IfSome o (IsUnended s.decls)) some sound.unended).few);
      }

pub counted : (v s : ReadState) → v ≡ s → v.has_header ≡ true → IsReading s → Counted v (length (lines_read s))
counted v s is header reading =
    let read : IsRead v = subst (λ b. IsReadBy b v) header (subst IsReading (sym is) reading) in
    subst (Counted v) (ap (λ b. length (lines_by b (draft_read v))) (sym header) ∙ ap (λ (x : ReadState). length (lines_read x)) is) (are_counted v read.sound)
