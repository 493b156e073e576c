-- The state behind the event stands for the longer list.
use Rattle.std.proofs.Common.{◌≡◌, [], ◌∷◌, ◌++◌, refl, sym, ap, ◌∙◌, subst, Some, Result, Ok, Err}
use Rattle.race_legal.specs.{ReplayState.{ReplayState, counts_in}, declared.{replay.Broken.Broken, rule.Rule.Rule}}
use Rattle.race_legal.{specs.{Rules.number_of, StandsFor.StandsFor}, proofs.ReplayLemmas.{broken_is, stands_after}}
use Rattle.race_legal.proofs.Shape.{counts_after}
use Rattle.race_legal.proofs.replay.Replay.accept.Goals as goal

ok_no_err : {T E : Type 0} (x : T) (e : E) → ◌≡◌ {A = Result T E} (Ok x) (Err e) → ⊥
ok_no_err x e is = absurd cc

rule_no_memory : {T : Type 0} (rule : Rule) → ◌≡◌ {A = Result T Broken} (Err (Broken.Rule rule)) (Err Broken.OutOfMemory) → ⊥
rule_no_memory rule is = absurd cc

rule_same : {T : Type 0} (r s : Rule) → ◌≡◌ {A = Result T Broken} (Err (Broken.Rule r)) (Err (Broken.Rule s)) → r ≡ s
rule_same r s is = cc

pub first_broken-requires : goal.first_broken-requires
first_broken-requires g c = c.requires.range

pub step-requires : goal.step-requires
step-requires g c = record { range = c.requires.range; room = c.requires.room }

pub returns-in-Some : goal.returns-in-Some
returns-in-Some g c = record {
  goes_on = tt;
  least = λ rule is declarations past S.
      broken_is declarations c.args.self.now past S c.args.event.now c.requires.range
      ∙ sym c.in-Some.ensures ∙ ap (λ (r : Rule). Some (number_of r)) (rule_same _ _ is);
  memory = λ is. absurd (rule_no_memory _ is);
  unchanged = refl;
  len = tt;
  counts = refl;
}

pub returns-in-Ok : goal.returns-in-Ok
returns-in-Ok g c = record {
  goes_on = λ declarations past S.
      subst (λ (k : ReplayState). StandsFor declarations k (past ++ c.args.event.now ∷ [])) (sym c.in-Ok.ensures)
      (stands_after declarations c.args.self.now past S c.args.event.now c.requires.range (sym c.in-None.ensures));
  least = λ rule is. absurd (ok_no_err _ _ is);
  memory = λ is. absurd (ok_no_err _ _ is);
  unchanged = tt;
  len = ap (λ (k : ReplayState). k.len) c.in-Ok.ensures;
  counts = ap (λ (k : ReplayState). counts_in k) c.in-Ok.ensures ∙ counts_after c.args.self.now c.args.event.now;
}

pub returns-in-Err : goal.returns-in-Err
returns-in-Err g c = record {
  goes_on = tt;
  least = λ rule is. absurd (rule_no_memory rule (sym is));
  memory = λ _ declarations past S.
      broken_is declarations c.args.self.now past S c.args.event.now c.requires.range ∙ sym c.in-None.ensures;
  unchanged = c.in-Err.ensures;
  len = tt;
  counts = ap (λ (k : ReplayState). counts_in k) c.in-Err.ensures;
}
