-- A recording is certified where each goroutine in turn runs its body.
use Rattle.std.proofs.Common.{◌≡◌, ℕ, ◌+◌, ◌<◌, ◌≤◌, ◌==◌, not, Bool, true, false, List, length, slice_get, Option}
use Rattle.std.proofs.Common.{Some, None, refl, sym, ap, subst, ◌∙◌, arith, true≢false, eq-eqb}
use Rattle.std.proofs.lemmas.{Bool.Decides.nat_tests, Option.slice_get_within}
use Rattle.race_records.{proofs.ListLemmas.slice_get-within, specs.Equality.{Declared, declared, same_declared}}
use Rattle.race_records.specs.Equality.{same_decls}
use Rattle.race_records.specs.Declarations.{DeclsState}
use Rattle.race_records.specs.Equality.{same_declared-Decides}
use Rattle.race_requests.specs.declared.request.Request.{Request}
use Rattle.race_hub.specs.{Part.part_of, Recording.RecordingState}
use Rattle.race_script.specs.{declared.certificate.NotARun.NotARun, Certificate.{Runs, waiting_of, IsCertified}}
use Rattle.race_script.specs.{Certificate.IsStuck, Course.IsStop, Program.{ProgramState, Instruction, spelled}}
use Rattle.race_script.proofs.CourseLemmas.{runs_or_stuck}

-- the test says that the version is another, or that something else is declared
pub others_declared : (d e : Declared) → true ≡ not (same_declared d e) → d ≡ e → ⊥
others_declared d e told same = by (same_declared d e) told ((same_declared-Decides d e).1 same)
  where
    by : (b : Bool) → true ≡ not b → b ≡ true → ⊥
    by true told is = true≢false told
    by false told is = true≢false (sym is)

-- or that the same is
pub alike_declared : (d e : Declared) → false ≡ not (same_declared d e) → d ≡ e
alike_declared d e told = (same_declared-Decides d e).0 (by (same_declared d e) told)
  where
    by : (b : Bool) → false ≡ not b → b ≡ true
    by true told = refl
    by false told = absurd (true≢false (sym told))

-- so the same is declared by a program and a recording
pub both_declare : (p : ProgramState) (r : RecordingState) (traced own others : DeclsState)
    → own ≡ traced → traced ≡ r.decls → others ≡ p.decls → false ≡ not (same_decls own others) → declared r.decls ≡ declared p.decls
both_declare p r traced own others is was are told =
    ap declared (sym (is ∙ was)) ∙ alike_declared (declared own) (declared others) told ∙ ap declared are

module _ (p : ProgramState) (r : RecordingState) where
  -- so many goroutines run their bodies
  abbrev pub RunBelow : ℕ → Type 0
  RunBelow n = (h : ℕ) (body : List Request) → h < n → slice_get p.bodies h ≡ Some body → Runs p r h body

  -- where the goroutine stops, if it does
  abbrev pub Stops : ℕ → Option ℕ → Type 0
  Stops g stop = (body : List Request) → slice_get p.bodies g ≡ Some body
      → IsStop (spelled p.decls.places body) r.decls.places g (part_of g r.events) (waiting_of g r.waiting) stop

  -- the same of the declarations and the body that the code has
  pub stops_so : (g : ℕ) (own others : DeclsState) (body : List Request) → own ≡ p.decls → others ≡ r.decls → slice_get p.bodies g ≡ Some body
      → (stop : Option ℕ) → IsStop (spelled own.places body) others.places g (part_of g r.events) (waiting_of g r.waiting) stop → Stops g stop
  stops_so g own others body is are at stop stops whole found =
      let same : body ≡ whole = cc in
      subst (λ (x : List Instruction × List (List ℕ)). IsStop x.0 x.1 g (part_of g r.events) (waiting_of g r.waiting) stop)
      (λ k. (spelled (is k).places (same k), (are k).places)) stops

  pub one_runs : (g : ℕ) → RunBelow g → Stops g None → RunBelow (g + 1)
  one_runs g below own h body less at = by (h == g) refl
    where
      by : (b : Bool) → (h == g) ≡ b → Runs p r h body
      by true test =
          let same : h ≡ g = grind (arith, nat_tests, test) in
          subst (λ k. Runs p r k body) (sym same) (own body (ap (slice_get p.bodies) (sym same) ∙ at))
      by false test =
          let other : h ≡ g → ⊥ = λ same. true≢false (sym (eq-eqb h g same) ∙ test) in
          below h body (omega (arith, less, other)) at

  pub all_run : (n : ℕ) → declared r.decls ≡ declared p.decls → length p.bodies ≤ n → RunBelow n → IsCertified p r
  all_run n same few below = record {
    declarations = same;
    runs = λ g body at. let within = slice_get_within p.bodies g body at in below g body (omega (arith, within, few)) at;
  }

  pub one_is_stuck : (g step : ℕ) → declared r.decls ≡ declared p.decls → RunBelow g → g < length p.bodies → Stops g (Some step)
      → IsStuck p r (record { g = g; step = step })
  one_is_stuck g step same below within own =
      let found = slice_get-within p.bodies g within in
      record { declarations = same; lower = below; body = found.0; whose = found.1; stuck = own found.0 found.1 }

  -- who is stuck runs nothing
  pub stuck_is_uncertified : (at : NotARun) → IsStuck p r at → IsCertified p r → ⊥
  stuck_is_uncertified at stuck certified =
      runs_or_stuck (spelled p.decls.places stuck.body) r.decls.places at.g (part_of at.g r.events) (waiting_of at.g r.waiting) at.step
      (certified.runs at.g stuck.body stuck.whose) stuck.stuck
