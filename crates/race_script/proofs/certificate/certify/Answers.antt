use Rattle.std.proofs.{lemmas.Grind.common_steps, Common.{◌≡◌, inl, inr, refl, sym, ap, subst, ◌∙◌, arith}}
use Rattle.std.proofs.Common.{true≢false}
use Rattle.race_records.specs.{declared.kind.Kind.Kind, Declarations.{DeclsState, count_of}}
use Rattle.race_records.specs.Equality.{Declared, declared}
use Rattle.race_script.{specs.Certificate.IsStuck, proofs.CertifyLemmas.{others_declared, both_declare}}
use Rattle.race_script.proofs.CertifyLemmas.{Stops, one_runs, all_run, one_is_stuck, stuck_is_uncertified}
use Rattle.race_script.proofs.certificate.certify.Goals as goal

module _ (g : _) (c : goal.Then-ne g) where
  others : declared c.args.recording.now.decls ≡ declared c.args.program.now.decls → ⊥
  others same =
      others_declared (declared c.decls.result.now) (declared c.decls-2.result.now) c.if-ne.ensures
      (ap declared (c.decls.ensures.decls ∙ c.trace.ensures.decls) ∙ same ∙ ap declared (sym c.decls-2.ensures.decls))

pub returns-then-ne-clause-run : goal.returns-then-ne-clause-run
returns-then-ne-clause-run g c = (λ e. absurd (true≢false (sym e)), λ certified. absurd (others g c certified.declarations))

pub returns-then-ne-clause-leaves : goal.returns-then-ne-clause-leaves
returns-then-ne-clause-leaves g c = inl (record { declarations = others g c; main = refl; first = refl })

pub stuck_at-requires-clause-recorded : goal.stuck_at-requires-clause-recorded
stuck_at-requires-clause-recorded g c =
    let same = both_declare c.args.program.now c.args.recording.now _ _ _ c.decls.ensures.decls c.trace.ensures.decls c.decls-2.ensures.decls c.if-ne.ensures in
    let count = c.count-g-end.ensures.count ∙ ap (λ (d : DeclsState). count_of Kind.Goroutine d.declarations) c.decls-3.ensures.decls
    ∙ ap (λ (d : Declared). count_of Kind.Goroutine d.declarations) (sym same) in
    let less = c.loop-g-test.true in
    omega (arith, less, count)

module _ (g : _) (c : goal.In-Some g) where
  stuck : IsStuck c.args.program.now c.args.recording.now (record { g = c.loop-g.g; step = c.in-Some.step })
  stuck =
      let same = both_declare c.args.program.now c.args.recording.now _ _ _ c.decls.ensures.decls c.trace.ensures.decls c.decls-2.ensures.decls c.if-ne.ensures in
      let count = c.count-g-end.ensures.count ∙ ap (λ (d : DeclsState). count_of Kind.Goroutine d.declarations) c.decls-3.ensures.decls
      ∙ sym c.decls-3.ensures.program.count in
      let less = c.loop-g-test.true in
      one_is_stuck c.args.program.now c.args.recording.now c.loop-g.g c.in-Some.step same c.loop-g.invariant (omega (arith, less, count))
      (subst (Stops c.args.program.now c.args.recording.now c.loop-g.g) c.in-Some.is c.stuck_at.ensures)

pub returns-in-Some-clause-run : goal.returns-in-Some-clause-run
returns-in-Some-clause-run g c =
    (λ e. absurd (true≢false (sym e)), λ certified. absurd (stuck_is_uncertified c.args.program.now c.args.recording.now _ (stuck g c) certified))

pub returns-in-Some-clause-leaves : goal.returns-in-Some-clause-leaves
returns-in-Some-clause-leaves g c = inr (stuck g c)

pub loop-g-preserved : goal.loop-g-preserved
loop-g-preserved g c =
    one_runs c.args.program.now c.args.recording.now c.loop-g.g c.loop-g.invariant
    (subst (Stops c.args.program.now c.args.recording.now c.loop-g.g) c.in_default.is c.stuck_at.ensures)

pub returns-clause-run : goal.returns-clause-run
returns-clause-run g c =
    let same = both_declare c.args.program.now c.args.recording.now _ _ _ c.decls.ensures.decls c.trace.ensures.decls c.decls-2.ensures.decls c.if-ne.ensures in
    let count = c.count-g-end.ensures.count ∙ ap (λ (d : DeclsState). count_of Kind.Goroutine d.declarations) c.decls-3.ensures.decls
    ∙ sym c.decls-3.ensures.program.count in
    let end = c.loop-g-test.false in
    (λ _. all_run c.args.program.now c.args.recording.now c.loop-g.g same (omega (arith, end, count)) c.loop-g.invariant, λ _. refl)

pub stuck_at-requires-clause-declared : goal.stuck_at-requires-clause-declared
stuck_at-requires-clause-declared c = grind (arith, common_steps) steps 300000
