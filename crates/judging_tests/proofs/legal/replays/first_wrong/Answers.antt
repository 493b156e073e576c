-- The replay has as many objects of each kind as the trace declares.
use Rattle.std.proofs.Common.{ℕ, ◌<◌, ◌∙◌, sym, subst, arith, rules, ap}
use Rattle.race_records.specs.{declared.kind.Kind.Kind, Declarations.{DeclsState, counts_of}}
use Rattle.race_legal.{specs.ReplayState.IsInRange, proofs.RangeLemmas.range_from_fits}
use Rattle.judging_tests.proofs.legal.replays.first_wrong.Goals as goal

pub loop-at-init : goal.loop-at-init
loop-at-init c =
    let stands = c.in_ok-replay.ensures.stands in
    let len = stands.len in
    record {
      counts = stands.counts ∙ ap (λ (d : DeclsState). counts_of d.declarations) c.decls-decls.ensures.decls;
      goroutines = search rules;
      vars = search rules;
      chans = search rules;
      locks = search rules;
      onces = search rules;
      len = omega (arith, len);
    }

pub accept-answer-requires-clause-range : goal.accept-answer-requires-clause-range
accept-answer-requires-clause-range c =
    subst (λ (counts : Kind → ℕ). IsInRange counts c.event.result.now) (sym c.loop-at.invariant.counts)
    (range_from_fits c.args.trace.now.decls c.event.result.now c.event.ensures.fits)

pub asked_of-requires : goal.asked_of-requires
asked_of-requires c =
    let counts = sym (c.accept-answer.ensures.counts ∙ c.loop-at.invariant.counts) in
    record {
      goroutines = subst (λ (of : Kind → ℕ). 1 < of Kind.Goroutine) counts c.loop-at.invariant.goroutines;
      vars = subst (λ (of : Kind → ℕ). 0 < of Kind.Var) counts c.loop-at.invariant.vars;
      chans = subst (λ (of : Kind → ℕ). 2 < of Kind.Chan) counts c.loop-at.invariant.chans;
      locks = subst (λ (of : Kind → ℕ). 1 < of Kind.Lock) counts c.loop-at.invariant.locks;
      onces = subst (λ (of : Kind → ℕ). 1 < of Kind.Once) counts c.loop-at.invariant.onces;
    }

pub loop-at-preserved : goal.loop-at-preserved
loop-at-preserved c = record {
  counts = c.accept-answer.ensures.counts ∙ c.loop-at.invariant.counts;
  goroutines = c.loop-at.invariant.goroutines;
  vars = c.loop-at.invariant.vars;
  chans = c.loop-at.invariant.chans;
  locks = c.loop-at.invariant.locks;
  onces = c.loop-at.invariant.onces;
  len = search rules;
}
