use Rattle.std.proofs.Common.{◌+◌, ◌∙◌, ap, refl, ℕ}
use Rattle.std.specs.Int.{from_bool}
use Rattle.race_explore.proofs.CountLemmas.{as_count}
use Rattle.race_explore.proofs.explored.Explored.count_run.Goals as goal

pub returns-clause-counted : goal.returns-clause-counted
returns-clause-counted g c =
    let old = c.args.self.now in
    record {
      runs = refl;
      made = refl;
      clean = ap (λ (n : ℕ). old.clean + n) (c.from.ensures ∙ ap from_bool c.is_clean_run.ensures ∙ as_count _);
      races = ap (λ (n : ℕ). old.races + n) (c.from-2.ensures ∙ ap from_bool c.is_racy.ensures ∙ as_count _);
      deadlocks = ap (λ (n : ℕ). old.deadlocks + n) (c.from-3.ensures ∙ ap from_bool c.is_deadlock.ensures ∙ as_count _);
      faults = ap (λ (n : ℕ). old.faults + n) (c.from-4.ensures ∙ ap from_bool c.is_failed.ensures ∙ as_count _);
      whole = refl;
    }
