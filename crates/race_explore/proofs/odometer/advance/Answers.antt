use Rattle.std.proofs.{lemmas.List.Elements.All-pop, Common.{◌+◌, ◌<◌, ◌^◌, ◌++◌, ◌∷◌, [], map, ap, sym, ◌∙◌, Some, ℕ, List}}
use Rattle.race_record.specs.declared.noting.Fork.{Fork}
use Rattle.race_explore.specs.Lists.{next_picks}
use Rattle.race_explore.proofs.NextLemmas.{next_with, next_without}
use Rattle.race_explore.proofs.odometer.advance.Goals as goal

pub returns-then-last : goal.returns-then-last
returns-then-last g c =
    sym c.loop-last.invariant.same
    ∙ ap next_picks c.in-Some.ensures.items
    ∙ next_with c.pop.new.self.items c.in-Some.last c.if-last.true
    ∙ ap (λ (picks : List ℕ). Some (picks ++ (c.in-Some.last.pick + 1) ∷ [])) (ap (map (λ (f : Fork). f.pick)) (sym c.as_slice.ensures.value))
    ∙ ap (λ (picks : List ℕ). Some picks) (sym c.in_ok-write_picks.ensures)

pub loop-last-preserved : goal.loop-last-preserved
loop-last-preserved g c = record {
  same = sym (next_without c.pop.new.self.items c.in-Some.last c.if-last.false) ∙ ap next_picks (sym c.in-Some.ensures.items) ∙ c.loop-last.invariant.same;
  few = (All-pop (λ (f : Fork). f.pick + 1 < 2 ^ 64) c.loop-last.forks.items c.pop.new.self.items (Some c.in-Some.last) c.in-Some.ensures.items
      c.loop-last.invariant.few).0;
}
