-- An event of a trace is in range of a replay that was made for its declarations, which knows of as many objects of each
-- kind as these.
use Rattle.std.proofs.Common.{[], ℕ, ap, sym, subst}
use Rattle.race_records.specs.{declared.kind.Kind.Kind, Declarations.DeclsState}
use Rattle.race_legal.{specs.StandsFor.StandsFor, proofs.RangeLemmas.in_range}
use Rattle.growth_tests.proofs.replays.accepted.Goals as goal

pub accept-requires-clause-range : goal.accept-requires-clause-range
accept-requires-clause-range c =
    let stands = subst (λ (d : DeclsState). StandsFor d.declarations c.in-Ok.replay []) c.decls.ensures.decls c.in-Ok.ensures.stands in
    in_range c.args.trace.now.decls c.in-Ok.replay [] c.event.result.now stands c.event.ensures.fits

pub accept-requires-clause-goroutines : goal.accept-requires-clause-goroutines
accept-requires-clause-goroutines c =
    let stands = subst (λ (d : DeclsState). StandsFor d.declarations c.in-Ok.replay []) c.decls.ensures.decls c.in-Ok.ensures.stands in
    sym (ap (λ (f : Kind → ℕ). f Kind.Goroutine) stands.counts)

pub accept-requires-clause-vars : goal.accept-requires-clause-vars
accept-requires-clause-vars c =
    let stands = subst (λ (d : DeclsState). StandsFor d.declarations c.in-Ok.replay []) c.decls.ensures.decls c.in-Ok.ensures.stands in
    sym (ap (λ (f : Kind → ℕ). f Kind.Var) stands.counts)

pub accept-requires-clause-chans : goal.accept-requires-clause-chans
accept-requires-clause-chans c =
    let stands = subst (λ (d : DeclsState). StandsFor d.declarations c.in-Ok.replay []) c.decls.ensures.decls c.in-Ok.ensures.stands in
    sym (ap (λ (f : Kind → ℕ). f Kind.Chan) stands.counts)

pub accept-requires-clause-locks : goal.accept-requires-clause-locks
accept-requires-clause-locks c =
    let stands = subst (λ (d : DeclsState). StandsFor d.declarations c.in-Ok.replay []) c.decls.ensures.decls c.in-Ok.ensures.stands in
    sym (ap (λ (f : Kind → ℕ). f Kind.Lock) stands.counts)

pub accept-requires-clause-onces : goal.accept-requires-clause-onces
accept-requires-clause-onces c =
    let stands = subst (λ (d : DeclsState). StandsFor d.declarations c.in-Ok.replay []) c.decls.ensures.decls c.in-Ok.ensures.stands in
    sym (ap (λ (f : Kind → ℕ). f Kind.Once) stands.counts)
